use Rattle.std.proofs.Common.{arith}
use Rattle.stores.proofs.Growing.{same_mesh}
use Rattle.stores.proofs.Grown.{triangle_added}
use Rattle.stores.proofs.chain_growing.ChainStoreGrowingStore.add_triangle.Goals as goal

pub invariant_of-self : goal.invariant_of-self
invariant_of-self g c =
    let s = c.args.self.now in
    let a = triangle_added g.P.Place.kind s _ c.args.t _ c.if-not-may_add_triangle.false c.may_add_triangle.ensures c.room.ensures.triangles
    c.link.ensures.corners c.link.ensures.firsts c.link-2.ensures.corners c.link-2.ensures.firsts c.link-3.ensures.corners c.link-3.ensures.firsts in
    record { triangles_fit = a.fit; vertices_fit = omega (arith, s.vertices_fit, a.tall); placed = a.kept.placed; ends = a.kept.ends; holds = a.kept.holds }

pub returns-clause-after : goal.returns-clause-after
returns-clause-after g c =
    let s = c.args.self.now in
    let a = triangle_added g.P.Place.kind s _ c.args.t _ c.if-not-may_add_triangle.false c.may_add_triangle.ensures c.room.ensures.triangles
    c.link.ensures.corners c.link.ensures.firsts c.link-2.ensures.corners c.link-2.ensures.firsts c.link-3.ensures.corners c.link-3.ensures.firsts in
    same_mesh a.triangles a.vertices
