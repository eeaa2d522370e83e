-- Tables by vertex, with one triangle more.
use Rattle.std.proofs.Common.{◌≡◌, ℕ, zero, suc, ◌+◌, ◌*◌, ◌<◌, ◌≤◌, cond, eqb, List, map, length, replicate, get_or, set, Some, None, Option, sym, subst, ap, ◌∙◌, add-one, arith, length-set}
use Rattle.std.proofs.lemmas.Bool.Decides.{nat_tests}
use Rattle.std.proofs.lemmas.Grind.{common_steps}
use Rattle.std.specs.List.{slice_get}
use Rattle.std.proofs.lemmas.List.{get_or-map, get_or-replicate, length-replicate}
use Rattle.mesh.specs.Triangles.{Tri, tri}
use Rattle.survey.specs.declared.tally.Corners.{Corners}
use Rattle.survey.specs.Ringwalk.{corners_in, corners_one, corners_to, touches, last_one, last_to}
use Rattle.survey.specs.Tables.{Below, Small, Zero, Counted, Seen, Added, Noted}

bumped_at : (xs ys : List ℕ) (u v : ℕ) → u < length xs → ys ≡ set xs u (get_or xs u 0 + 1) → get_or ys v 0 ≡ get_or xs v 0 + cond (eqb u v) 1 0
bumped_at xs ys u v h e = grind (arith, nat_tests, common_steps)

-- three writes, one after another, note a triangle's corners
pub added_three : (xs ys zs ws : List ℕ) (a b c : ℕ) → length xs ≡ 16384 → Below 16384 (tri a b c) → ys ≡ set xs a (get_or xs a 0 + 1) → zs ≡ set ys b (get_or ys b 0 + 1) → ws ≡ set zs c (get_or zs c 0 + 1) → Added xs (tri a b c) ws
added_three xs ys zs ws a b c e d f g h = record {
  each = λ v k.
      let l = ap length f ∙ length-set xs a (get_or xs a 0 + 1) in
      let m = ap length g ∙ length-set ys b (get_or ys b 0 + 1) in
      let p = bumped_at xs ys a v (omega arith) f in
      let q = bumped_at ys zs b v (omega arith) g in
      let r = bumped_at zs ws c v (omega arith) h in omega arith;
}

pub noted_three : (xs ys zs ws : List ℕ) (a b c i : ℕ) → length xs ≡ 16384 → Below 16384 (tri a b c) → ys ≡ set xs a i → zs ≡ set ys b i → ws ≡ set zs c i → Noted xs (tri a b c) i ws
noted_three xs ys zs ws a b c i e d f g h = record { each = λ v k. grind (arith, nat_tests, common_steps) }

corners_more : (ts : List Tri) (v i : ℕ) (t : Tri) → slice_get ts i ≡ Some t → corners_to ts v (i + 1) ≡ corners_to ts v i + corners_in v t
corners_more ts v i t e = ap (corners_to ts v) (add-one i) ∙ ap (λ (o : Option Tri). corners_to ts v i + corners_one v o) e

corners_small : (v : ℕ) (o : Option Tri) → corners_one v o ≤ 3
corners_small v None = omega arith
corners_small v (Some (tri a b c)) = grind (arith, nat_tests)

to_small : (ts : List Tri) (v n : ℕ) → corners_to ts v n ≤ 3 * n
to_small ts v zero = omega arith
to_small ts v (suc n) = let h = to_small ts v n in let k = corners_small v (slice_get ts n) in omega arith

pub counted_small : (ts : List Tri) (i : ℕ) (xs : List ℕ) → Counted ts i xs → i ≤ 32768 → Small xs (3 * 32768)
counted_small ts i xs c h = record { each = λ v k. let e = c.each v k in let l = to_small ts v i in omega arith }

pub counted_more : (ts : List Tri) (i : ℕ) (t : Tri) (xs ys : List ℕ) → Counted ts i xs → slice_get ts i ≡ Some t → Added xs t ys → Counted ts (i + 1) ys
counted_more ts i t xs ys c e a = record { each = λ v k. let p = c.each v k in let q = a.each v k in let r = corners_more ts v i t e in omega arith }

last_more : (ts : List Tri) (v i : ℕ) (t : Tri) → slice_get ts i ≡ Some t → last_to ts v (i + 1) ≡ cond (touches v t) i (last_to ts v i)
last_more ts v i t e = ap (last_to ts v) (add-one i) ∙ ap (last_one v i (last_to ts v i)) e

pub seen_more : (ts : List Tri) (i : ℕ) (t : Tri) (xs ys : List ℕ) → Seen ts i xs → slice_get ts i ≡ Some t → Noted xs t i ys → Seen ts (i + 1) ys
seen_more ts i t xs ys c e a = record { each = λ v k. a.each v k ∙ (ap (cond (touches v t) i) (c.each v k) ∙ sym (last_more ts v i t e)) }

-- a table whose entries are all alike, with a zero in each
pub zero_each : (f : Corners → ℕ) (x : Corners) (n : ℕ) → n ≡ 16384 → f x ≡ 0 → Zero (map f (replicate n x))
zero_each f x n e z = record {
  each = λ v h.
      let k : v < n = omega arith in
      let l : v < length (replicate n x) = rw length-replicate k in
      get_or-map f (replicate n x) v x 0 l ∙ (ap f (get_or-replicate n v x x k) ∙ z);
}

pub counted_none : (ts : List Tri) (xs : List ℕ) → Zero xs → Counted ts 0 xs
counted_none ts xs z = record { each = λ v h. z.each v h }

pub seen_none : (ts : List Tri) (xs : List ℕ) → Zero xs → Seen ts 0 xs
seen_none ts xs z = record { each = λ v h. z.each v h }

-- the same number by another name
pub counted_at : (ts : List Tri) (i j : ℕ) (xs : List ℕ) → i ≡ j → Counted ts i xs → Counted ts j xs
counted_at ts i j xs e c = subst (λ n. Counted ts n xs) e c

pub seen_at : (ts : List Tri) (i j : ℕ) (xs : List ℕ) → i ≡ j → Seen ts i xs → Seen ts j xs
seen_at ts i j xs e c = subst (λ n. Seen ts n xs) e c
