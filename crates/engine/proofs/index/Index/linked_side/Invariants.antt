use Rattle.std.proofs.Common.{length}
use Rattle.mesh.specs.Sides.{sides}
use Rattle.engine.proofs.Linking.{Seeking, links_left}
use Rattle.engine.proofs.index.Index.linked_side.Given as goal

abbrev pub invariant-loop-link : goal.invariant-loop-link
invariant-loop-link g l = Seeking (sides (g.S.ReadingSurface.mesh l.self.surface.now).triangles) l.u l.v l.link

abbrev pub decreases-loop-link : goal.decreases-loop-link
decreases-loop-link g l = links_left (length l.self.ends.now) l.link
