-- Marked edges, found by their keys.
use Rattle.std.proofs.Common.{◌≡◌, ℕ, zero, suc, ◌+◌, ◌*◌, ◌/◌, ◌%◌, ◌<◌, ◌≤◌, min, max, Bool, true, false, cond, ◌||◌, eqb, List, [], ◌∷◌, length, get_or, sym, refl, ap, ◌∙◌, ⊎_elim, arith}
use Rattle.std.specs.Prelude.{Result, Ok, Err, MatchResult}
use Rattle.std.specs.List.Sorted.{IsBinarySearchResult}
use Rattle.std.specs.Ordering.{nat_cmp}
use Rattle.std.proofs.lemmas.Bool.{false_from_ne_true, or_left, cases_eq, cases_lt}
use Rattle.std.proofs.lemmas.List.Sorted.{searched}
use Rattle.mesh.specs.Lists.{Mem, now, later}
use Rattle.mesh.specs.Sides.{Side, side}
use Rattle.mesh.proofs.Members.{map_mem}
use Rattle.forest.specs.Marks.{same_side, has_side, is_marked}
use Rattle.forest.specs.Tables.{key_side, key_sides, flags_of, Climbing}
use Rattle.forest.proofs.Marking.{same_true, true_same, out_has, marked_mem}
use Rattle.engine.specs.Marking.{marked, Upward}

-- a member of a list stands at some index
pub mem_at : {k : ℕ} (ks : List ℕ) → Mem k ks → (i : ℕ) × (i < length ks) × (get_or ks i 0 ≡ k)
mem_at [] m = elim m [ ]
mem_at (k ∷ ks) now = (0, omega arith, refl)
mem_at (k ∷ ks) (later m) = let r = mem_at ks m in (suc r.0, omega (arith, r.1), r.2)

-- a side that no key stands for is not marked
no_key : (s : Side) (ks ns : List ℕ) → ((i : ℕ) → i < length ks → key_side (get_or ks i 0) ≡ s → ⊥) → has_side s (marked ks ns) ≡ false
no_key s ks ns none =
    out_has s (marked ks ns)
    (λ m. let k = map_mem key_side ks (marked_mem (key_sides ks) (flags_of ns) m) in
    let r = mem_at ks k.1 in none r.0 r.1 (ap key_side r.2 ∙ sym k.2))

-- a side that one key stands for is marked if the number at its index is 1
key_marked : (s : Side) (ks ns : List ℕ) (e : ℕ) → e < length ks → length ns ≡ length ks → key_side (get_or ks e 0) ≡ s
    → ((i : ℕ) → i < length ks → key_side (get_or ks i 0) ≡ s → i ≡ e) → eqb (get_or ns e 0) 1 ≡ has_side s (marked ks ns)
key_marked s [] ns e l n is one = absurd (omega arith)
key_marked s (k ∷ ks) [] e l n is one = absurd (omega arith)
key_marked s (k ∷ ks) (m ∷ ns) zero l n is one = go (eqb m 1)
  where
    rest : has_side s (marked ks ns) ≡ false
    rest = no_key s ks ns (λ i h q. let o : suc i ≡ 0 = one (suc i) (omega arith) q in omega arith)

    go : (b : Bool) → b ≡ has_side s (cond b (key_side k ∷ marked ks ns) (marked ks ns))
    go true = sym (or_left (same_side s (key_side k)) (has_side s (marked ks ns)) (true_same s (key_side k) (sym is)))
    go false = sym rest
key_marked s (k ∷ ks) (m ∷ ns) (suc e) l n is one = go (eqb m 1) (key_marked s ks ns e (omega arith) (omega arith) is later_one)
  where
    later_one : (i : ℕ) → i < length ks → key_side (get_or ks i 0) ≡ s → i ≡ e
    later_one i h q = let o : suc i ≡ suc e = one (suc i) (omega arith) q in omega arith

    other : same_side s (key_side k) ≡ false
    other = false_from_ne_true (same_side s (key_side k)) (λ t. let o : 0 ≡ suc e = one 0 (omega arith) (sym (same_true s (key_side k) t)) in omega arith)

    go : (b : Bool) → eqb (get_or ns e 0) 1 ≡ has_side s (marked ks ns) → eqb (get_or ns e 0) 1 ≡ has_side s (cond b (key_side k ∷ marked ks ns) (marked ks ns))
    go true rest = rest ∙ ap (λ b. b || has_side s (marked ks ns)) (sym other)
    go false rest = rest

-- the key of a side, and no other has it
pub key_is : (u v k : ℕ) → v < 16384 → k ≡ 16384 * u + v → key_side k ≡ side u v
key_is u v k l e = let p : k / 16384 ≡ u = omega arith in let q : k % 16384 ≡ v = omega arith in cc

pub one_key : (j k : ℕ) → key_side j ≡ key_side k → j ≡ k
one_key j k e = let p : j / 16384 ≡ k / 16384 = cc in let q : j % 16384 ≡ k % 16384 = cc in omega arith

pub never_falls : (ks : List ℕ) → Climbing ks → (i j : ℕ) → i ≤ j → j < length ks → get_or ks i 0 ≤ get_or ks j 0
never_falls ks up i j le l = ⊎_elim (λ (e : i ≡ j). omega (arith, ap (λ n. get_or ks n 0) e)) (λ n. omega (arith, up i j (omega arith) l)) (cases_eq i j)

-- no key is there twice
pub never_twice : (ks : List ℕ) → Climbing ks → (i j : ℕ) → i < length ks → j < length ks → get_or ks i 0 ≡ get_or ks j 0 → i ≡ j
never_twice ks up i j l k e =
    ⊎_elim
    (λ (h : i < j). absurd (omega (arith, up i j h k)))
    (λ (h : j ≤ i). ⊎_elim (λ (o : j < i). absurd (omega (arith, up j i o l))) (λ (o : i ≤ j). omega arith) (cases_lt j i))
    (cases_lt i j)

-- what a search for a side's key tells of it
pub looked_up : (s : Side) (k : ℕ) (ks ns : List ℕ) (r : Result ℕ ℕ) (t : Bool) → Climbing ks → length ns ≡ length ks → key_side k ≡ s → IsBinarySearchResult (λ y. nat_cmp y k) ks r
    → MatchResult r (λ e. t ≡ eqb (get_or ns e 0) 1) (λ e. t ≡ false) → t ≡ has_side s (marked ks ns)
looked_up s k ks ns (Ok e) t up n of found is =
    let h = searched ks k (Ok e) found (never_falls ks up) in
    is ∙ key_marked s ks ns e h.0 n (ap key_side h.1 ∙ of) (λ i l q. never_twice ks up i e l h.0 (one_key (get_or ks i 0) k (q ∙ sym of) ∙ sym h.1))
looked_up s k ks ns (Err e) t up n of found is =
    let h = searched ks k (Err e) found (never_falls ks up) in
    is ∙ sym (no_key s ks ns (λ i l q. let same : get_or ks i 0 ≡ k = one_key (get_or ks i 0) k (q ∙ sym of) in
    ⊎_elim (λ (o : i < e). omega (arith, h.1 i o)) (λ (o : e ≤ i). omega (arith, h.2 i o l)) (cases_lt i e)))

key_ends : (k a b : ℕ) → key_side k ≡ side a b → (k / 16384 ≡ a) × (k % 16384 ≡ b)
key_ends k a b e = (cc, cc)

-- where all keys go upward, a side that does not is not marked
pub down_absent : (a b : ℕ) (ks ns : List ℕ) → Upward ks → b ≤ a → has_side (side a b) (marked ks ns) ≡ false
down_absent a b ks ns up h = no_key (side a b) ks ns (λ i l e. let k = key_ends (get_or ks i 0) a b e in omega (arith, up i l, k.0, k.1))

-- nor is one with an end that no key has room for
pub high_absent : (a b : ℕ) (ks ns : List ℕ) → 16384 ≤ b → has_side (side a b) (marked ks ns) ≡ false
high_absent a b ks ns h = no_key (side a b) ks ns (λ i l e. let k = key_ends (get_or ks i 0) a b e in omega (arith, k.1))

-- so one direction tells of both
pub one_way : (v x : ℕ) (ks ns : List ℕ) → Upward ks → has_side (side (min v x) (max v x)) (marked ks ns) ≡ is_marked (marked ks ns) v x
one_way v x ks ns up = ⊎_elim rises falls (cases_lt v x)
  where
    or_false : (b c : Bool) → c ≡ false → b ≡ (b || c)
    or_false true c e = refl
    or_false false c e = sym e

    rises : v < x → has_side (side (min v x) (max v x)) (marked ks ns) ≡ is_marked (marked ks ns) v x
    rises h =
        let p : min v x ≡ v = omega arith in
        let q : max v x ≡ x = omega arith in
        let s : side (min v x) (max v x) ≡ side v x = cc in
        ap (λ s. has_side s (marked ks ns)) s ∙ or_false (has_side (side v x) (marked ks ns)) (has_side (side x v) (marked ks ns)) (down_absent x v ks ns up (omega arith))

    falls : x ≤ v → has_side (side (min v x) (max v x)) (marked ks ns) ≡ is_marked (marked ks ns) v x
    falls h =
        let p : min v x ≡ x = omega arith in
        let q : max v x ≡ v = omega arith in
        let s : side (min v x) (max v x) ≡ side x v = cc in
        ap (λ s. has_side s (marked ks ns)) s ∙ ap (λ b. b || has_side (side x v) (marked ks ns)) (sym (down_absent v x ks ns up h))
