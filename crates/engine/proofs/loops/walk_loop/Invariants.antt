use Rattle.std.proofs.Common.{◌≡◌, ◌-◌, ◌<◌, ◌^◌, ◌++◌, length, take}
use Rattle.forest.specs.Loops.{hop, loop}
use Rattle.forest.specs.Tables.{key_side, key_sides}
use Rattle.engine.specs.Marking.{marked}
use Rattle.engine.proofs.loops.walk_loop.Given as goal

abbrev pub invariant-loop-position : goal.invariant-loop-position
invariant-loop-position g l =
    let step = hop (g.S.ReadingSurface.mesh l.s).triangles (marked l.marking.keys.now l.marking.marks.now) l.mirror in
    let n = length l.initial.out in
    record {
      low : l.side < 2 ^ 28;
      done : key_sides (take l.position-index l.out) ++ loop step (n - l.position-index) (key_side l.side) ≡ loop step n (key_side l.root);
    }
