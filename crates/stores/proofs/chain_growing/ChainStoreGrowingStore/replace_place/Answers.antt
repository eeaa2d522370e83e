use Rattle.std.proofs.Common.{◌≤◌, length, refl, rules}
use Rattle.mesh.specs.Growth.{with_place}
use Rattle.stores.specs.Chains.{no_vertex}
use Rattle.stores.specs.Chained.{chained_in}
use Rattle.stores.proofs.Fronts.{front_changed}
use Rattle.stores.proofs.Growing.{same_mesh, may_place}
use Rattle.stores.proofs.chain_growing.ChainStoreGrowingStore.replace_place.Goals as goal

pub returns-clause-after : goal.returns-clause-after
returns-clause-after g c =
    let s = c.args.self.now in
    let h : s.vertex_count ≤ length s.tables.vertices.now = search rules in
    let f = chained_in g.P.Place.kind in
    let l = may_place f s.vertex_count c.args.v s.tables.vertices.now _ c.if-not-may_replace_place.false c.may_replace_place.ensures h in
    same_mesh refl (front_changed f (with_place c.args.place) s.vertex_count s.tables.vertices.now c.args.v _ no_vertex l h c.new.ensures)
