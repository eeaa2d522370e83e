use Rattle.std.proofs.Common.{◌≡◌, length, cond, ap, ◌∙◌, rules}
use Rattle.runs.specs.Outcome.{split_answer}
use Rattle.mesh.specs.Growth.{replace_corner}
use Rattle.job.specs.Answers.{job_of}
use Rattle.conformance.specs.Offers.{ordered, answer_by}
use Rattle.conformance.proofs.Offers.{told_same}
use Rattle.conformance.proofs.play.offer.Goals as goal

pub returns : goal.returns
returns g c =
    let k = g.P.Place.kind in
    let before = g.S.ReadingSurface.mesh c.args.store.now in
    let order = c.args.step.order in
    let room = c.replace_corner.ensures.room in
    let value = c.deref_mut.ensures.value in
    let len = c.in_ok-table.ensures.len in
    let items = c.in_ok-table.ensures.items in
    let long : length c.deref_mut.result.now ≡ order.table = search rules in
    let mesh : g.S.ReadingSurface.mesh c.replace_corner.new.self ≡ ordered before order = c.replace_corner.ensures.after ∙ ap (λ b. cond b (replace_corner before order.triangle order.corner order.vertex) before) c.replace_corner.ensures.answer in
    c.from-answer.ensures ∙ (told_same c.split.result ∙ ap answer_by (c.split.ensures.answer ∙ (λ i. split_answer k (room.0 i) (room.1 i) (long i) (mesh i) (job_of c.args.job.now) c.args.step.record.now)))
