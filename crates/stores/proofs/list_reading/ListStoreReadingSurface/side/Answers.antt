use Rattle.std.proofs.Common.{◌≡◌, is_some, take, ◌∙◌, rules}
use borrow.Author.Tests.{tests}
use Rattle.std.proofs.lemmas.Iterator.{YieldsList-from_slice}
use Rattle.std.proofs.lemmas.Iterator.Adapters.{position_from-zero}
use Rattle.std.proofs.lemmas.Iterator.Search.{position_from_yields_List}
use Rattle.mesh.specs.Triangles.{tri_of}
use Rattle.mesh.specs.Sides.{corner_of}
use Rattle.stores.proofs.Searching.{side_position}
use Rattle.stores.proofs.list_reading.ListStoreReadingSurface.side.Goals as goal

pub returns : goal.returns
returns g c =
    let s = c.args.self.now in
    let ts = take s.triangle_count s.triangles.now in
    let p = position_from_yields_List (λ t. is_some (corner_of c.args.u c.args.v (tri_of t))) _ _ c.position.result c.position.ensures.ran (YieldsList-from_slice ts (c.iter.ensures.rest ∙ c.in_use.ensures)) (λ x b q k. search (rules, tests)) in
    let m : c.map.result ≡ c.position.result = search rules in
    m ∙ p ∙ position_from-zero (λ t. is_some (corner_of c.args.u c.args.v (tri_of t))) ts ∙ side_position tri_of c.args.u c.args.v 0 ts
