-- A level that a run of calls leads to balances.
use Rattle.std.proofs.Common.{length, sym, ap, ◌∙◌, arith, eq-eqb}
use Rattle.std.proofs.lemmas.Bool.{and_from}
use Rattle.place.specs.Kinds.{Kind, Lawful}
use Rattle.mesh.specs.Meshes.{vertex_total}
use Rattle.survey.specs.Survey.{edge_count, counted_unless}
use Rattle.survey.proofs.Exact.{closed_survey}
use Rattle.runs.specs.Calls.{State, report}
use Rattle.runs.proofs.Whole.{ended, reports_true}
use Rattle.job.specs.Answers.{report_of}
use Rattle.job.specs.Balance.{balanced}
use Rattle.job.specs.Levels.{RunsBalance}

pub runs_balance : {P D : Type 0} (k : Kind P D) → Lawful k → (s : State P) → RunsBalance k s
unfolding edge_count
runs_balance k law s vr tr sheet calls r =
    let m = s.mesh in
    let n = s.numbers in
    let t = reports_true k law vr tr sheet calls s r in
    let v = t.vertices in
    let f = t.triangles in
    let a = t.few_vertices in
    let b = t.few_triangles in
    let fine = closed_survey (vertex_total m) m.triangles (record { few_vertices = omega arith; few_triangles = omega arith; closed = (ended k law vr tr sheet calls s r).closed }) in
    ap (λ o. balanced (counted_unless o (vertex_total m) m.triangles) (report_of n)) fine
    ∙ and_from _ _ (eq-eqb (vertex_total m) (report n).vertices (sym v))
    (and_from _ _ (eq-eqb (edge_count m.triangles) (report n).edges (sym t.edges)) (eq-eqb (length m.triangles) (report n).triangles (sym f)))
