use Rattle.std.proofs.Common.{unwrap_or, ap, ◌∙◌}
use Rattle.mesh.specs.Triangles.{tri_of}
use Rattle.engine.proofs.Apexes.{apex_found, apex_missed, apex_gone}
use Rattle.engine.proofs.loops.apex.Goals as goal

pub returns-in_err-side : goal.returns-in_err-side
returns-in_err-side g c =
    let ts = (g.S.ReadingSurface.mesh c.args.s.now).triangles in
    ap (λ o. unwrap_or o 0) c.from_residual.ensures ∙ apex_missed ts c.args.u c.args.v (c.in_err-side.ensures)

pub returns-in_err-t : goal.returns-in_err-t
returns-in_err-t g c =
    let ts = (g.S.ReadingSurface.mesh c.args.s.now).triangles in
    ap (λ o. unwrap_or o 0) c.from_residual-in_err-t.ensures ∙ apex_gone ts c.args.u c.args.v c.in_ok-side.field-0 (c.in_ok-side.ensures) (c.in_err-t.ensures)

pub returns : goal.returns
returns g c =
    let ts = (g.S.ReadingSurface.mesh c.args.s.now).triangles in
    c.opposite.ensures ∙ apex_found ts c.args.u c.args.v c.in_ok-side.field-0 (tri_of c.in_ok-t.t) (c.in_ok-side.ensures) (c.in_ok-t.ensures)
