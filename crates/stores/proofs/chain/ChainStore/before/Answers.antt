use Rattle.std.proofs.Common.{◌*◌, not, eqb, None, sym, refl, ap, ◌∙◌, arith, rules}
use borrow.Author.Tests.{tests}
use Rattle.std.specs.List.{last_or}
use Rattle.std.proofs.lemmas.List.{map-id}
use Rattle.std.proofs.lemmas.Iterator.{items_from_drains}
use Rattle.std.proofs.lemmas.Iterator.Consumers.{YieldsList-at, YieldsList-from_first}
use Rattle.std.proofs.lemmas.Iterator.Search.{YieldsList-from_take_while}
use Rattle.stores.specs.Chains.{walk, vertex_at, next_at, first_at}
use Rattle.stores.specs.Walks.{corners_left}
use Rattle.stores.proofs.Seeking.{before_last}
use Rattle.stores.proofs.chain.ChainStore.before.Goals as goal

pub corners_at-requires : goal.corners_at-requires
corners_at-requires g c = omega (arith, c.args.self.now.placed c.args.i c.requires, ap (λ z. z.vertex) c.corner-v.ensures)

pub returns : goal.returns
returns g c =
    let s = c.args.self.now in
    let n = 3 * s.triangle_count in
    let rs = s.tables.triangles.now in
    let v = vertex_at rs c.args.i in
    let h = first_at s.tables.vertices.now v in
    let l = s.placed c.args.i c.requires in
    let here = ap (λ z. walk n (next_at rs) (first_at s.tables.vertices.now z.vertex)) c.corner-v.ensures in
    let r = c.last.ensures.ran in
    before_last n rs h v c.args.i c.last.result (s.ends v l) (s.holds v l) c.requires refl
    (r.2 ∙ ap (last_or None) (sym (map-id r.0) ∙ items_from_drains r.0 (r.1.1.0, r.1.1.1, λ z. (r.1.0, r.1.1.2))
    (YieldsList-from_take_while _ (λ j. not (eqb j c.args.i)) (YieldsList-at c.take_while.ensures.source (YieldsList-from_first (λ x. x) corners_left (walk n (next_at rs) h) (c.corners_at.ensures ∙ here)))
    c.take_while.ensures.closure c.take_while.ensures.done (λ x b q k. search (rules, tests)))))
