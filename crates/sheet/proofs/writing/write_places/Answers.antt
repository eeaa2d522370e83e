use Rattle.std.proofs.Common.{◌≡◌, ◌+◌, ◌*◌, length, sym, ap, ◌∙◌, arith, rules}
use Rattle.std.specs.Option.{option_map}
use Rattle.mesh.specs.Meshes.{places}
use Rattle.mesh.specs.Passes.{places_left}
use Rattle.mesh.proofs.Tests.{some_inj}
use Rattle.mesh.proofs.Passing.{places_turn, places_end, places_more}
use Rattle.sheet.specs.Writing.{vertex_bytes, put_at}
use Rattle.sheet.proofs.Joins.{put_none}
use Rattle.sheet.proofs.Rows.{held_more, held_all, rows_all, row_put}
use Rattle.sheet.proofs.Exact.{there_value}
use Rattle.sheet.proofs.writing.write_places.Goals as goal

pub loop-v-init : goal.loop-v-init
loop-v-init g c =
    let s = c.into_iter-v-iterator.result in
    let z : s.count ≡ 0 = search rules in
    let left : places_left g.S.ReadingSurface.mesh s.iter ≡ places (g.S.ReadingSurface.mesh c.args.surface.now) = search rules in
    rw z (left, omega arith, sym (put_none 14 c.args.out.now), λ x m. elim m [ ])

pub loop-v-preserved : goal.loop-v-preserved
loop-v-preserved g c =
    let k = g.S.Kind.Place.kind in
    let m = g.S.ReadingSurface.mesh c.args.surface.now in
    let v = c.loop-v.v-iterator.count in
    let i = c.loop-v.invariant in
    let now = c.in-Some.ensures.steps in
    let p = c.in-Some.place in
    let turn = places_turn m v p _ (sym i.0 ∙ now.0) in
    let h = (places_more m v p turn.0).0 in
    let x = there_value m.vertices v h in
    let same : x.0.place ≡ p = some_inj (sym (turn.0 ∙ ap (option_map (λ y. y.place)) x.1)) in
    let told = c.WIDTH.ensures ∙ g.met.S.Kind.Place.constant.width_told in
    let at = 14 + c.in-Some.v * c.WIDTH.result in
    rw now.2 (
      turn.1,
      omega arith,
      row_put (vertex_bytes k) k.width (λ y. g.met.S.Kind.Place.lawful.long y.place) 14 at v m.vertices x.0 c.args.out.now c.loop-v.out c.put_place.new.out h x.1 c.requires (λ j. 14 + now.1 j * told j) i.2
          (c.put_place.ensures.after ∙ ap (λ q. put_at at (k.bytes q) c.loop-v.out) (sym same)),
      held_more k m.vertices v x.0 h x.1 i.3 (ap k.holds same ∙ c.put_place.ensures.held),
    )

pub returns : goal.returns
returns g c =
    let k = g.S.Kind.Place.kind in
    let m = g.S.ReadingSurface.mesh c.args.surface.now in
    let v = c.loop-v.v-iterator.count in
    let i = c.loop-v.invariant in
    let end = places_end m v (sym i.0 ∙ c.in-None.ensures.steps.0.0) in
    let e : v ≡ length m.vertices = omega arith in
    record {
      after = rows_all (vertex_bytes k) 14 v m.vertices c.args.out.now c.loop-v.out e i.2;
      held = held_all k m.vertices v e i.3;
    }
