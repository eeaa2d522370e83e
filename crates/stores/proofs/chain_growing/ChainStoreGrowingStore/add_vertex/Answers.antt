use Rattle.std.proofs.Common.{refl}
use Rattle.stores.proofs.Grown.{vertex_added}
use Rattle.stores.proofs.chain_growing.ChainStoreGrowingStore.add_vertex.Goals as goal

pub invariant_of-self : goal.invariant_of-self
invariant_of-self g c =
    let s = c.args.self.now in
    let a = vertex_added g.P.Place.kind s _ c.args.parent _ _ c.if-not-may_add_vertex.false c.may_add_vertex.ensures c.room.ensures.vertices refl in
    record { triangles_fit = s.triangles_fit; vertices_fit = a.1; placed = a.0.placed; ends = a.0.ends; holds = a.0.holds }
