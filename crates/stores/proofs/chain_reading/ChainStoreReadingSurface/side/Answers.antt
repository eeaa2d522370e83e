use Rattle.std.proofs.Common.{◌≤◌, ◌*◌, ◌/◌, length, sym, ◌∙◌, rules}
use borrow.Author.Tests.{tests}
use Rattle.std.specs.List.{slice_get}
use Rattle.std.proofs.lemmas.Iterator.{YieldsList-from_map}
use Rattle.std.proofs.lemmas.Iterator.Adapters.{option_map_id}
use Rattle.std.proofs.lemmas.Iterator.Consumers.{YieldsList-at, YieldsList-from_first, YieldsList-from_filter, min_from_yields_List}
use Rattle.stores.specs.Records.{front}
use Rattle.stores.specs.Chains.{walk, next_at, first_at, corners_in}
use Rattle.stores.specs.Walks.{corners_left}
use Rattle.stores.proofs.Lowest.{tells, along_side, none_side}
use Rattle.stores.proofs.chain_reading.ChainStoreReadingSurface.side.Goals as goal

pub returns-then-u-self : goal.returns-then-u-self
returns-then-u-self g c =
    let s = c.args.self.now in
    let h : s.triangle_count ≤ length s.tables.triangles.now = search rules in
    none_side s.tables.triangles.now _ _ s.triangle_count s.vertex_count h c.if-u-self.true s.placed

pub returns : goal.returns
returns g c =
    let s = c.args.self.now in
    let n = s.triangle_count in
    let rs = s.tables.triangles.now in
    let h = first_at s.tables.vertices.now c.args.u in
    let l : n ≤ length rs = search rules in
    along_side rs c.args.u c.args.v n h c.min.result l (s.holds c.args.u c.if-u-self.false)
    (sym (option_map_id c.min.result) ∙ min_from_yields_List _ c.min.result c.min.ensures.ran
    (YieldsList-from_filter _ (λ t. tells c.args.u c.args.v (slice_get (front corners_in n rs) t))
    (YieldsList-at c.filter.ensures.source
    (YieldsList-from_map _ (λ i. i / 3) (YieldsList-at c.map.ensures.source (YieldsList-from_first (λ x. x) corners_left (walk (3 * n) (next_at rs) h) c.corners_at.ensures)) c.map.ensures.closure (λ x r q k. search (rules, tests))))
    c.filter.ensures.closure (λ x b q k. search (rules, tests))))
