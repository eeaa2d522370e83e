-- Marked edges, and tests on sides.
use Rattle.std.proofs.Common.{◌≡◌, ℕ, Bool, true, false, not, eqb, List, [], ◌∷◌, sym, refl, ap, ◌∙◌, inl, inr, ⊎_elim, eq-eqb, eqb-true}
use native.Mathlib.Decide.{ℕ_discrete}
use borrow.Author.Tests.{not-true, clash}
use Rattle.std.proofs.lemmas.Bool.{and_parts, and_from, or_cases, or_left, or_right, false_from_ne_true}
use Rattle.mesh.specs.Lists.{Mem, now, later, Apart, no_one, one_more}
use Rattle.mesh.specs.Sides.{Side, side}
use Rattle.forest.specs.Marks.{same_side, has_side, marked_edges, Marked, is_marked}
use Rattle.mesh.proofs.Members.{mem_cases, mem_eq}

pub same_true : (s t : Side) → same_side s t ≡ true → s ≡ t
same_true (side a b) (side c d) e = let h = and_parts (eqb a c) (eqb b d) e in let i = eqb-true a c h.0 in let j = eqb-true b d h.1 in cc

pub true_same : (s t : Side) → s ≡ t → same_side s t ≡ true
true_same (side a b) (side c d) e = let i : a ≡ c = cc in let j : b ≡ d = cc in and_from (eqb a c) (eqb b d) (eq-eqb a c i) (eq-eqb b d j)

pub has_mem : (s : Side) (ss : List Side) → has_side s ss ≡ true → Mem s ss
has_mem s [] e = absurd (clash e)
has_mem s (t ∷ ss) e = ⊎_elim (λ i. mem_eq (same_true s t i) now) (λ i. later (has_mem s ss i)) (or_cases (same_side s t) (has_side s ss) e)

pub mem_has : (s : Side) (ss : List Side) → Mem s ss → has_side s ss ≡ true
mem_has s [] m = elim m [ ]
mem_has s (t ∷ ss) m = ⊎_elim (λ (e : s ≡ t). or_left (same_side s t) (has_side s ss) (true_same s t e)) (λ k. or_right (same_side s t) (has_side s ss) (mem_has s ss k)) (mem_cases m)

pub has_out : (s : Side) (ss : List Side) → has_side s ss ≡ false → Mem s ss → ⊥
has_out s ss e m = clash (sym e ∙ mem_has s ss m)

pub out_has : (s : Side) (ss : List Side) → (Mem s ss → ⊥) → has_side s ss ≡ false
out_has s ss n = false_from_ne_true (has_side s ss) (λ e. n (has_mem s ss e))

pub absent_out : (s : Side) (ss : List Side) → not (has_side s ss) ≡ true → Mem s ss → ⊥
absent_out s ss e = has_out s ss (not-true (has_side s ss) e)

pub absent_true : (s : Side) (ss : List Side) → (Mem s ss → ⊥) → not (has_side s ss) ≡ true
absent_true s ss n = ap not (out_has s ss n)

-- z is no marked neighbour of v
abbrev pub Unmarked : (ℕ → ℕ → Type 0) → ℕ → ℕ → Type 0
Unmarked M v z = M v z → ⊥

module _ (ms : List Side) (v x : ℕ) where
  pub marks_true : is_marked ms v x ≡ true → Marked ms v x
  marks_true e = ⊎_elim (λ i. inl (has_mem (side v x) ms i)) (λ i. inr (has_mem (side x v) ms i)) (or_cases (has_side (side v x) ms) (has_side (side x v) ms) e)

  pub true_marks : Marked ms v x → is_marked ms v x ≡ true
  true_marks m = ⊎_elim (λ k. or_left (has_side (side v x) ms) (has_side (side x v) ms) (mem_has (side v x) ms k)) (λ k. or_right (has_side (side v x) ms) (has_side (side x v) ms) (mem_has (side x v) ms k)) m

  pub marks_false : is_marked ms v x ≡ false → Unmarked (Marked ms) v x
  marks_false e m = clash (sym e ∙ true_marks m)

  pub false_marks : Unmarked (Marked ms) v x → is_marked ms v x ≡ false
  false_marks n = false_from_ne_true (is_marked ms v x) (λ e. n (marks_true e))

  pub marked_dec : Dec (Marked ms v x)
  marked_dec = go (is_marked ms v x) refl
    where
      go : (b : Bool) → is_marked ms v x ≡ b → Dec (Marked ms v x)
      go true e = yes (marks_true e)
      go false e = no (marks_false e)

  pub unmarked_dec : Dec (Unmarked (Marked ms) v x)
  unmarked_dec = go marked_dec
    where
      go : Dec (Marked ms v x) → Dec (Unmarked (Marked ms) v x)
      go (yes m) = no (λ u. u m)
      go (no n) = yes n

  pub marked_of : (Unmarked (Marked ms) v x → ⊥) → Marked ms v x
  marked_of n = go marked_dec
    where
      go : Dec (Marked ms v x) → Marked ms v x
      go (yes m) = m
      go (no u) = absurd (n u)

  pub marked_back : Marked ms v x → Marked ms x v
  marked_back m = ⊎_elim (λ k. inr k) (λ k. inl k) m

pub touched_dec : (ms : List Side) (v : ℕ) → Dec ((x : ℕ) × Marked ms v x)
touched_dec [] v = no (λ r. ⊎_elim (λ k. elim k [ ]) (λ k. elim k [ ]) r.1)
touched_dec (side i j ∷ ms) v = go (ℕ_discrete v i) (ℕ_discrete v j) (touched_dec ms v)
  where
    rest : (v ≡ i → ⊥) → (v ≡ j → ⊥) → (((x : ℕ) × Marked ms v x) → ⊥) → (x : ℕ) → Marked (side i j ∷ ms) v x → ⊥
    rest a b f x (inl m) = ⊎_elim (λ (e : side v x ≡ side i j). a (cc)) (λ k. f (x, inl k)) (mem_cases m)
    rest a b f x (inr m) = ⊎_elim (λ (e : side x v ≡ side i j). b (cc)) (λ k. f (x, inr k)) (mem_cases m)

    go : Dec (v ≡ i) → Dec (v ≡ j) → Dec ((x : ℕ) × Marked ms v x) → Dec ((x : ℕ) × Marked (side i j ∷ ms) v x)
    go (yes e) d f = yes (j, inl (rw e now))
    go (no a) (yes e) f = yes (i, inr (rw e now))
    go (no a) (no b) (yes r) = yes (r.0, ⊎_elim (λ k. inl (later k)) (λ k. inr (later k)) r.1)
    go (no a) (no b) (no f) = no (λ r. rest a b f r.0 r.1)

-- the marked edges of a list
pub marked_mem : (es : List Side) (bs : List Bool) {s : Side} → Mem s (marked_edges es bs) → Mem s es
marked_mem [] bs m = elim m [ ]
marked_mem (e ∷ es) [] m = elim m [ ]
marked_mem (e ∷ es) (true ∷ bs) {s} m = ⊎_elim (λ (i : s ≡ e). mem_eq i now) (λ k. later (marked_mem es bs k)) (mem_cases m)
marked_mem (e ∷ es) (false ∷ bs) m = later (marked_mem es bs m)

pub marked_apart : {es : List Side} → Apart es → (bs : List Bool) → Apart (marked_edges es bs)
marked_apart no_one bs = no_one
marked_apart (one_more n a) [] = no_one
marked_apart (one_more {x} {xs} n a) (true ∷ bs) = one_more (λ m. n (marked_mem xs bs m)) (marked_apart a bs)
marked_apart (one_more n a) (false ∷ bs) = marked_apart a bs
