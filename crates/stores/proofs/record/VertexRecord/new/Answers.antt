use Rattle.std.proofs.Common.{unwrap_or, ap, ◌∙◌}
use Rattle.mesh.specs.Meshes.{vertex_of}
use Rattle.stores.proofs.record.VertexRecord.new.Goals as goal

pub returns : goal.returns
returns g c =
    let k = g.P.Place.kind in
    let back = ap k.read c.to_bytes-place.ensures.value ∙ g.met.P.Place.lawful.reads_back c.args.place _ c.to_bytes-place.ensures.held in
    ap (λ o. vertex_of (unwrap_or o k.origin) c.args.parent) back
