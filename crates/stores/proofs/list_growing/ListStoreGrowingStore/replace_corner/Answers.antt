use Rattle.std.proofs.Common.{◌≤◌, length, refl, rules}
use Rattle.mesh.specs.Triangles.{tri_of}
use Rattle.mesh.specs.Growth.{with_corner}
use Rattle.mesh.specs.declared.triangle.Triangle.{Triangle}
use Rattle.stores.specs.Records.{vertex_in}
use Rattle.stores.proofs.Fronts.{front_changed}
use Rattle.stores.proofs.Growing.{same_mesh, may_corner}
use Rattle.stores.proofs.list_growing.ListStoreGrowingStore.replace_corner.Goals as goal

abbrev none : Triangle
none = record { a = 0; b = 0; c = 0 }

pub returns-clause-after : goal.returns-clause-after
returns-clause-after g c =
    let s = c.args.self.now in
    let k : s.triangle_count ≤ length s.triangles.now = search rules in
    let l : s.vertex_count ≤ length s.vertices.now = search rules in
    let m = may_corner tri_of (vertex_in g.P.Place.kind) s.triangle_count s.vertex_count s.triangles.now s.vertices.now c.args.t c.args.corner c.args.v none _ c.if-not-may_replace_corner.false c.may_replace_corner.ensures k l in
    same_mesh (front_changed tri_of (with_corner c.args.corner c.args.v) s.triangle_count s.triangles.now c.args.t _ none m.0 k c.with_corner.ensures) refl
