use Rattle.std.proofs.Common.{◌≡◌, ◌+◌, ◌*◌, ◌≤◌, ◌++◌, length}
use Rattle.mesh.specs.Passes.{triangles_left}
use Rattle.mesh.specs.Sides.{sides}
use Rattle.edges.specs.Pairs.{pairs}
use Rattle.edges.specs.Listed.{listed}
use Rattle.edges.proofs.numbering.SideEdges.add_all.Given as goal

abbrev pub invariant-loop-t : goal.invariant-loop-t
invariant-loop-t g l =
    let left = triangles_left g.S.ReadingSurface.mesh l.t-iterator in
    record {
      listed : listed l.self ++ pairs (sides left) ≡ pairs (sides (g.S.ReadingSurface.mesh l.surface).triangles);
      room : l.self.count + 3 * length left ≤ 98304;
    }
