use Rattle.std.proofs.Common.{◌<◌, not, length, sym, ap, ◌∙◌, arith}
use Rattle.std.proofs.lemmas.Bool.{ne_eqb}
use Rattle.engine.proofs.Parents.{unite_links}
use Rattle.engine.proofs.joining.unite.Goals as goal

pub returns-clause-joins : goal.returns-clause-joins
returns-clause-joins c =
    let i = c.args.i in
    let j = c.args.j in
    let ps = c.find-b.new.parents in
    let a = c.find-a.result in
    let b = c.find-b.result in
    let ha : a < length ps = omega arith in
    let hb : b < length ps = omega arith in
    λ l o.
    let fa = c.find-a.ensures.root l o in
    let fb = c.find-b.ensures.root l fa.2 in (
      sym (ap not (ne_eqb (l i) (l j) (λ e. c.if-a-b.false (sym fa.0 ∙ e ∙ fb.0)))),
      λ _. unite_links ps l i j a b _ _ c.max.ensures c.min.ensures fa.0 fb.0 ha hb c.if-a-b.false fa.1 fb.1 fb.2,
    )
