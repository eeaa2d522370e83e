use Rattle.std.proofs.Common.{◌≡◌, None, arith, rules}
use Rattle.mesh.specs.Meshes.{vertex_total}
use Rattle.stores.specs.Chained.{chain_mesh, chain_vertex_room, chain_triangle_room}
use Rattle.survey.specs.Checks.{first_bad}
use Rattle.survey.proofs.Index.{good_fitting, index_surveyed}
use Rattle.survey.proofs.indexed.survey_copied.Goals as goal

pub returns : goal.returns
returns g c =
    let m = g.S.ReadingSurface.mesh c.args.s.now in
    let none : first_bad (vertex_total m) m.triangles ≡ None = search rules in
    let few = g.S.ReadingSurface.limited c.args.s.now in
    let v = few.few_vertices in
    let t = few.few_triangles in
    let index = c.new-index.result in
    let room = c.new-index.ensures.room in
    let r = room.0 in
    let q = room.1 in
    let fits = good_fitting (chain_vertex_room index) (chain_triangle_room index) m none (omega arith) (omega arith) in
    let mesh = chain_mesh g.S.Kind.Place.kind in
    let same = index_surveyed (chain_vertex_room index) (chain_triangle_room index) m (mesh index) (mesh c.copy_surface.new.store) fits c.new-index.ensures.empty c.copy_surface.ensures.mesh in
    search rules
