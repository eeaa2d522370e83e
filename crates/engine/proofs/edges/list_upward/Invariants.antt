use Rattle.mesh.specs.Passes.{triangles_left}
use Rattle.engine.proofs.EdgeKeys.{Listing}
use Rattle.engine.proofs.edges.list_upward.Given as goal

abbrev pub invariant-loop-t : goal.invariant-loop-t
invariant-loop-t g l =
    Listing (g.S.ReadingSurface.mesh l.s).triangles (triangles_left g.S.ReadingSurface.mesh l.t-iterator) l.count l.keys
