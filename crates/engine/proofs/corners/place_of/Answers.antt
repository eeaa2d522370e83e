use Rattle.std.proofs.Common.{◌∙◌}
use Rattle.mesh.specs.Triangles.{tri_of}
use Rattle.engine.proofs.Slots.{place_found, place_gone, place_off}
use Rattle.engine.proofs.corners.place_of.Goals as goal

pub returns-in_err-triangle : goal.returns-in_err-triangle
returns-in_err-triangle g c =
    let ts = (g.S.ReadingSurface.mesh c.args.s.now).triangles in
    c.from_residual-in_err-triangle.ensures ∙ place_gone ts c.args.u c.args.v c.args.turn c.in_ok-t.t c.in_ok-t.ensures c.in_err-triangle.ensures

pub returns-in_err-k : goal.returns-in_err-k
returns-in_err-k g c =
    let ts = (g.S.ReadingSurface.mesh c.args.s.now).triangles in
    c.from_residual-in_err-k.ensures ∙ place_off ts c.args.u c.args.v c.args.turn c.in_ok-t.t (tri_of c.in_ok-triangle.field-0) c.in_ok-t.ensures c.in_ok-triangle.ensures c.in_err-k.ensures

pub returns : goal.returns
returns g c =
    let ts = (g.S.ReadingSurface.mesh c.args.s.now).triangles in
    place_found ts c.args.u c.args.v c.args.turn c.in_ok-t.t c.in_ok-k.k c.from.result (tri_of c.in_ok-triangle.field-0) c.in_ok-t.ensures c.in_ok-triangle.ensures c.in_ok-k.ensures c.from.ensures
