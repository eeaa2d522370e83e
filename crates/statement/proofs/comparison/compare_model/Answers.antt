use Rattle.std.proofs.Common.{[], map, is_none, refl, ap, ◌∙◌}
use Rattle.mesh.specs.Meshes.{mesh_of}
use Rattle.runs.specs.Jobs.{base_fault}
use Rattle.statement.specs.Selections.{selected}
use Rattle.statement.proofs.Bases.{one_answer}
use Rattle.statement.proofs.Comparing.{compared_as}
use Rattle.statement.proofs.Selecting.{map-selected}
use Rattle.statement.proofs.comparison.compare_model.Goals as goal

pub returns-clause-answer : goal.returns-clause-answer
returns-clause-answer g c = one_answer c.compare_parts.result (is_none (base_fault g.P.Place.kind 1024 2048 (mesh_of [] []) c.args.model.now.base.now)) c.compare_parts.ensures.answer

pub returns-clause-compared : goal.returns-clause-compared
returns-clause-compared g c =
    let k = g.P.Place.kind in
    let sheet = c.args.model.now.base.now in
    let records = ap (map (λ r. r.now)) c.as_slice-records.ensures.value in
    let selected = ap (map (λ r. r.now)) c.select.ensures ∙ map-selected (λ r. r.now) c.args.selection c.as_slice-records.result.now ∙ ap (selected c.args.selection) records in
    compared_as k k sheet sheet refl refl refl refl refl records selected c.compare_parts.result c.compare_parts.ensures.compared
