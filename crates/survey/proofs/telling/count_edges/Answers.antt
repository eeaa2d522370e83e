use Rattle.std.proofs.Common.{arith}
use Rattle.mesh.specs.Meshes.{vertex_total}
use Rattle.survey.proofs.Exact.{edges_half_told}
use Rattle.survey.proofs.telling.count_edges.Goals as goal

pub returns : goal.returns
returns g c =
    let m = g.S.ReadingSurface.mesh c.args.s.now in
    let h = edges_half_told (vertex_total m) m.triangles c.requires in
    let e = h.0 in
    let few = h.1 in record { value = omega arith; bound = omega arith }
