-- The sides of triangles with new corners, found by the old ones.
use Rattle.std.proofs.Common.{◌≡◌, ℕ, zero, suc, ◌+◌, ◌*◌, ◌/◌, ◌<◌, ◌≤◌, Bool, false, cond, List, [], ◌∷◌, ◌++◌, map, length, take, drop, is_some, Some, None, Option, sym, refl, ap, ◌∙◌, subst, arith}
use lib.ListN.{length-map}
use Rattle.std.proofs.Math.Seq.{take-append_seam}
use Rattle.std.proofs.lemmas.List.{drop_all}
use Rattle.std.proofs.lemmas.Option.{slice_get-map, slice_get_within}
use Rattle.std.specs.Option.{option_map}
use Rattle.std.specs.List.{slice_get}
use Rattle.mesh.specs.Lists.{Apart, Mem, later, one_more}
use Rattle.mesh.specs.Triangles.{Tri, tri}
use Rattle.mesh.specs.Sides.{Side, corner_of, side, side_of, sides}
use Rattle.mesh.specs.Rings.{Corner, at_first, at_second, at_third}
use Rattle.mesh.specs.Meshes.{Mesh, vertex_total, triangle_total}
use Rattle.mesh.proofs.Links.{corner_there, found, link_nth, link_side, lowest, nth_link, side_link, there_corner}
use Rattle.mesh.proofs.Passing.{left_more}
use Rattle.mesh.proofs.Tests.{none_some, some_inj}
use Rattle.forest.specs.Marks.{has_side}
use Rattle.forest.specs.Trees.{trees}
use Rattle.forest.specs.Splitting.{added_triangles, all_numbers, first_twice, kept_triangles, marked_of, split_parents}
use Rattle.forest.specs.Numbering.{corner_number, renamed}
use Rattle.forest.specs.Tables.{word_tris}
use Rattle.forest.specs.Theorems.{first_with, led_back, origin}
use Rattle.forest.proofs.Marking.{mem_has, out_has}
use Rattle.forest.proofs.Checking.{marks_edges, planted, unclosed_none}
use Rattle.forest.proofs.Forests.{Ready}
use Rattle.forest.proofs.Sewn.{led_all}
use Rattle.forest.proofs.Wholes.{never_early, twice_added}
use Rattle.engine.specs.Clashes.{Leading, Sewable, has_some_side}
use Rattle.engine.proofs.Words.{words_counted}

-- the corners of a triangle that is led back
corner_led : (V : ℕ) (ps : List ℕ) (t : Tri) {p q r : ℕ} → Corner t p q r → Corner (led_back V ps t) (origin V ps p) (origin V ps q) (origin V ps r)
corner_led V ps (tri x y z) at_first = at_first
corner_led V ps (tri x y z) at_second = at_second
corner_led V ps (tri x y z) at_third = at_third

-- a side of the first triangle is none of another
first_alone : (t : Tri) (ts : List Tri) → Apart (sides (t ∷ ts)) → {u w y : ℕ} → Corner t u w y → Mem (side u w) (sides ts) → ⊥
first_alone (tri x y z) ts (one_more f (one_more g (one_more h ap))) at_first m = f (later (later m))
first_alone (tri x y z) ts (one_more f (one_more g (one_more h ap))) at_second m = g (later m)
first_alone (tri x y z) ts (one_more f (one_more g (one_more h ap))) at_third m = h m

-- a side that lies in one triangle lies in no other
one_triangle : (ts : List Tri) → Apart (sides ts) → (i j : ℕ) (a b : Tri) {u w y z : ℕ} → slice_get ts i ≡ Some a → slice_get ts j ≡ Some b → Corner a u w y → Corner b u w z → i ≡ j
one_triangle [] ap i j a b e f c d = none_some e
one_triangle (t ∷ ts) ap zero zero a b e f c d = refl
one_triangle (t ∷ ts) ap zero (suc j) a b {u} {w} {y} e f c d = absurd (first_alone t ts ap (subst (λ (x : Tri). Corner x u w y) (sym (some_inj e)) c) (link_side (nth_link ts j b f d)))
one_triangle (t ∷ ts) ap (suc i) zero a b {u} {w} {z = z} e f c d = absurd (first_alone t ts ap (subst (λ (x : Tri). Corner x u w z) (sym (some_inj f)) d) (link_side (nth_link ts i a e c)))
one_triangle (tri x y z ∷ ts) (one_more f1 (one_more f2 (one_more f3 apart))) (suc i) (suc j) a b e f c d = ap suc (one_triangle ts apart i j a b e f c d)

module _ (V : ℕ) (ts us : List Tri) (ps : List ℕ) (led : map (led_back V ps) us ≡ ts) (once : Apart (sides ts)) (p q : ℕ) where
  -- a new triangle with the side comes from an old one
  old_there : (j : ℕ) (x : Tri) → slice_get us j ≡ Some x → slice_get ts j ≡ Some (led_back V ps x)
  old_there j x e = ap (λ os. slice_get os j) (sym led) ∙ (slice_get-map (led_back V ps) us j ∙ ap (option_map (led_back V ps)) e)

  -- where no old triangle has the side that it came from, no new one has it
  pub side_none : side_of ts (origin V ps p) (origin V ps q) ≡ None → has_side (side p q) (sides us) ≡ false
  side_none e = out_has (side p q) (sides us) (λ m.
      let l = side_link us m in
      let a = link_nth us l.1 in
      let k = lowest ts (origin V ps p) (origin V ps q) a.num (led_back V ps a.one) (old_there a.num a.one a.there_is) (corner_led V ps a.one a.corner) in
      none_some (sym e ∙ k.2))

  -- else the new one with this number has it, or none does
  pub side_some : (t : ℕ) (x : Tri) → side_of ts (origin V ps p) (origin V ps q) ≡ Some t → slice_get us t ≡ Some x → is_some (corner_of p q x) ≡ has_side (side p q) (sides us)
  side_some t x e h = go (corner_of p q x) refl
    where
      go : (o : Option ℕ) → corner_of p q x ≡ o → is_some (corner_of p q x) ≡ has_side (side p q) (sides us)
      go (Some k) i = ap is_some i ∙ sym (mem_has (side p q) (sides us) (link_side (nth_link us t x h (corner_there p q k x i).1)))
      go None i = ap is_some i ∙ sym (out_has (side p q) (sides us) (λ m.
          let l = side_link us m in
          let a = link_nth us l.1 in
          let f = found ts (origin V ps p) (origin V ps q) t e in
          let same = one_triangle ts once a.num t (led_back V ps a.one) f.one (old_there a.num a.one a.there_is) f.there_is (corner_led V ps a.one a.corner) f.corner in
          let is : a.one ≡ x = some_inj (sym a.there_is ∙ (ap (slice_get us) same ∙ h)) in
          let k = there_corner x (subst (λ (y : Tri). Corner y p q l.0) is a.corner) in
          none_some (sym i ∙ k.1)))

-- a triangle that the side question finds is one of those with new corners
pub side_within : (ts : List Tri) (u w t : ℕ) → side_of ts u w ≡ Some t → t < length ts
side_within ts u w t e = let f = found ts u w t e in slice_get_within ts t f.one f.there_is

-- the first with a listed side, from t on
pub with_here : (n : ℕ) (ss : List Side) (us : List Tri) (t : ℕ) (x : Tri) (b : Bool) → slice_get us t ≡ Some x → has_some_side x ss ≡ b → first_with (n + t) ss (drop t us) ≡ cond b (Some (n + t)) (first_with (n + (t + 1)) ss (drop (t + 1) us))
with_here n ss us t (tri x y z) b e h =
    ap (first_with (n + t) ss) (left_more us t (tri x y z) (sym e)).1
    ∙ (ap (λ c. cond c (Some (n + t)) (first_with (suc (n + t)) ss (drop (t + 1) us))) h
    ∙ ap (λ i. cond b (Some (n + t)) (first_with i ss (drop (t + 1) us))) (let j : suc (n + t) ≡ n + (t + 1) = omega arith in j))

pub with_end : (n : ℕ) (ss : List Side) (ws : List ℕ) (t : ℕ) → length ws / 3 ≤ t → first_with (n + t) ss (drop t (word_tris ws)) ≡ None
with_end n ss ws t h = ap (first_with (n + t) ss) (drop_all t (word_tris ws) (let e = words_counted ws in omega arith))

module _ (V : ℕ) (ts us : List Tri) (ps : List ℕ) (more : List Tri) (s : Sewable V ts us ps more) where
  -- the kept triangles lead back to the old ones
  pub sewable_led : map (led_back V ps) us ≡ ts
  sewable_led =
      let ms = marked_of ts s.marks in
      let kept = kept_triangles V ts ms in
      let added = added_triangles V ts ms s.codes in
      let p = planted V ts s.marks s.code_count s.marks_pass in
      let ready : (k : ℕ) → Mem k (trees V ms) → Ready ts ms k = λ k m. (p.long k m, (never_early V ts s.marks).0 (s.closed, p.free) k m) in
      let coded = unclosed_none ms 0 (trees V ms) s.codes s.codes_close in
      let front : take (length ts) (kept ++ added) ≡ kept = ap (λ n. take n (kept ++ added)) (sym (length-map ts (renamed (corner_number ts ms (trees V ms) (all_numbers V ts ms))))) ∙ take-append_seam kept added in
      (λ j. map (led_back V (s.has_parents j)) (s.is_kept j))
      ∙ (ap (map (led_back V (split_parents V ts ms))) (sym front)
      ∙ led_all V ts ms s.codes s.closed (marks_edges V ts s.marks s.closed) ready coded)

  -- and the first that has a side of a kept one is the first with a side twice
  pub sewable_twice : first_with (length ts) (sides us) more ≡ first_twice 0 [] (us ++ more)
  sewable_twice =
      let ms = marked_of ts s.marks in
      (λ j. first_with (length ts) (sides (s.is_kept j)) (s.is_added j))
      ∙ (sym (twice_added V ts s.marks s.code_count s.codes s.closed s.marks_pass s.codes_close)
      ∙ (λ j. first_twice 0 [] (sym s.is_kept j ++ sym s.is_added j)))

  -- what the old triangles and the new corners must be for the sides to be found
  pub sewable_leading : {P : Type 0} (m : Mesh P) (ws : List ℕ) → V ≡ vertex_total m → ts ≡ m.triangles → us ≡ word_tris ws → length ws ≡ 3 * triangle_total m → Leading m ws ps
  sewable_leading m ws v t u w = record {
    whole = w;
    led = (λ j. map (led_back (sym v j) ps) (sym u j)) ∙ (sewable_led ∙ t);
    once = subst (λ (os : List Tri). Apart (sides os)) t s.closed.once;
  }
