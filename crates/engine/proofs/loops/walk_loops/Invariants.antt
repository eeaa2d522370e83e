use Rattle.std.proofs.Common.{◌≡◌, ◌+◌, ◌++◌, length, take, drop}
use Rattle.forest.specs.Theorems.{sum}
use Rattle.forest.specs.Tables.{key_sides, flags_of, walked}
use Rattle.engine.specs.Marking.{marked}
use Rattle.engine.proofs.loops.walk_loops.Given as goal

abbrev pub invariant-loop-k : goal.invariant-loop-k
invariant-loop-k g l =
    let ts = (g.S.ReadingSurface.mesh l.s).triangles in
    let ms = marked l.marking.keys.now l.marking.marks.now in
    record {
      room : l.at + sum (drop l.k l.arounds) ≡ length l.initial.positions;
      done : key_sides (take l.at l.positions) ++ walked ts ms (key_sides (drop l.k l.roots)) (drop l.k l.arounds) (flags_of (drop l.k l.mirrors)) ≡ walked ts ms (key_sides l.roots) l.arounds (flags_of l.mirrors);
    }
