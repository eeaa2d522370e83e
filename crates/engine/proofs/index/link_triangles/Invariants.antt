use Rattle.std.proofs.Common.{◌*◌}
use Rattle.mesh.specs.Sides.{sides}
use Rattle.engine.specs.Linking.{Linked}
use Rattle.engine.proofs.index.link_triangles.Given as goal

abbrev pub invariant-loop-n : goal.invariant-loop-n
invariant-loop-n g l = Linked (sides (g.S.ReadingSurface.mesh l.s).triangles) (3 * l.n) l.firsts l.ends l.nexts
