use Rattle.std.proofs.Common.{◌≡◌, ℕ, ◌-◌, sym, ap, ◌∙◌, rules}
use Rattle.mesh.specs.Follow.{back_steps}
use Rattle.mesh.specs.Meshes.{parents}
use Rattle.mesh.proofs.Following.{still}
use Rattle.job.proofs.Steps.{back_more}
use Rattle.job.proofs.following.back_from.Goals as goal

pub returns-then-next-at : goal.returns-then-next-at
returns-then-next-at g c =
    let ps = parents (g.S.ReadingSurface.mesh c.args.store.now) in
    sym (still (c.args.v - c.loop.counter) ps c.loop.at (sym c.back_step-next.ensures ∙ c.if-next-at.true)) ∙ c.loop.invariant

pub loop-preserved : goal.loop-preserved
loop-preserved g c =
    let ps = parents (g.S.ReadingSurface.mesh c.args.store.now) in
    sym (back_more ps c.args.v c.loop.counter c.loop.at c.back_step-next.result (search rules) c.back_step-next.ensures) ∙ c.loop.invariant

pub returns : goal.returns
returns g c =
    let ps = parents (g.S.ReadingSurface.mesh c.args.store.now) in
    let k : c.args.v - c.loop.counter ≡ 0 = search rules in sym (ap (λ (m : ℕ). back_steps m ps c.loop.at) k) ∙ c.loop.invariant
