use Rattle.std.proofs.Common.{ap, ◌∙◌}
use Rattle.std.specs.List.{slice_get}
use Rattle.mesh.specs.Edges.{rising}
use Rattle.edges.proofs.Pairing.{rising_pairs}
use Rattle.edges.proofs.numbering.edge_at.Goals as goal

pub returns : goal.returns
returns g c =
    let n = c.args.number in
    c.nth.ensures ∙ ap (λ l. slice_get (rising l) n) c.add_all.ensures.listed ∙ ap (λ l. slice_get l n) (rising_pairs (g.S.ReadingSurface.mesh c.args.surface.now).triangles)
