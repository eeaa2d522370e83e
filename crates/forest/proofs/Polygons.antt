-- The fans of one polygon.
use Rattle.std.proofs.Common.{◌≡◌, ℕ, zero, suc, ◌+◌, ◌-◌, ◌<◌, ◌≤◌, Bool, true, false, cond, eqb, ◌⊎◌, List, [], ◌∷◌, length, get_or, take, sym, refl, ap, ◌∙◌, subst, inl, inr, ⊎_elim, arith, eq-eqb, ne_eqb, eqb-true}
use borrow.Author.Tests.{eqb-false, clash}
use Rattle.mesh.specs.Lists.{Mem, Apart}
use Rattle.mesh.specs.Triangles.{Tri}
use Rattle.mesh.specs.Sides.{Side}
use Rattle.mesh.specs.Rings.{Link, here, there}
use Rattle.forest.specs.Loops.{read_as}
use Rattle.forest.specs.Polygons.{Code, after, cut, open_part, closes}
use Rattle.forest.specs.Theorems.{Part, edge, node, Ends}
use Rattle.mesh.proofs.Walks.{Rel}
use Rattle.mesh.proofs.Links.{turned, link_turn}
use Rattle.forest.proofs.Fans.{Fan, part_within, part_lt, no_link, link_cases}
use Rattle.forest.proofs.Rings.{walk_back, link_flipped, flipped_link}
use Rattle.forest.proofs.Renaming.{numbered, link_old}
use Rattle.forest.proofs.Circle.{after_it, before_it, circle_numbered}
use Rattle.forest.proofs.Codes.{polygon_filled}
use Rattle.forest.proofs.Loops.{nth_mem, nth_apart}

pub fan_back : {R S : Rel} {x y : ℕ} → ((p q : ℕ) → R p q → S q p) → ((p q : ℕ) → S p q → R q p) → Fan R x y → Fan S y x
fan_back f g a = record {
  way = walk_back f a.way;
  before = λ p q s. walk_back f (a.behind q p (g p q s));
  behind = λ p q s. walk_back f (a.before q p (g p q s));
}

pub fan_read : (b : Bool) (us : List Tri) (u : ℕ) {x y : ℕ} → Fan (Link us u) x y → Fan (Link (read_as b us) u) (cond b y x) (cond b x y)
fan_read true us u f = fan_back (λ p q l. link_flipped l) (λ p q l. flipped_link us l) f
fan_read false us u f = f

pub read_link : (b : Bool) (us : List Tri) {u p q : ℕ} → Link (read_as b us) u p q → Link us u p q ⊎ Link us u q p
read_link true us l = inr (flipped_link us l)
read_link false us l = inl l

-- the codes of a tree
pub closes_ends : (o n : ℕ) (cs : List Code) → closes o n cs ≡ true → Ends o (take n cs) × (length (take n cs) ≡ n)
closes_ends zero zero [] e = (tt, refl)
closes_ends zero zero (c ∷ cs) e = (tt, refl)
closes_ends zero (suc n) cs e = absurd (clash e)
closes_ends (suc o) zero cs e = absurd (clash e)
closes_ends (suc o) (suc n) [] e = absurd (clash e)
closes_ends (suc o) (suc n) (c ∷ cs) e = let h = closes_ends (after c o) n cs e in (h.0, ap suc h.1)

pub part_codes : (n : ℕ) (cs : List Code) → 2 ≤ n → closes 1 (n - 2) cs ≡ true → Part 1 n (cut (take (n - 2) cs) (open_part 1 n ∷ []))
part_codes n cs h e =
    let c = closes_ends 1 (n - 2) cs e in
    let l = c.1 in
    let i : suc (1 + length (take (n - 2) cs)) ≡ n = omega arith in
    subst (λ (z : ℕ). Part 1 z (cut (take (n - 2) cs) (open_part 1 z ∷ []))) i (polygon_filled (take (n - 2) cs) 1 c.0)

-- the corners of a triangle of a part differ
pub part_proper : {a b : ℕ} {ts : List Tri} {v x y : ℕ} → Part a b ts → Link ts v x y → v ≡ x → ⊥
part_proper edge l e = no_link l
part_proper (node l r) (here c) e = let h = part_lt l in let k = part_lt r in let t = turned c in omega arith
part_proper {v = v} (node {a} {o} {b} {ls} {rs} l r) (there k) e = ⊎_elim (λ h. part_proper l h e) (λ h. part_proper r h e) (link_cases ls k)

module _ (N : Side → Side) (L : List Side) (d : Side) (n : ℕ) (len : length L ≡ n) (two : 2 ≤ n)
    (nexts : (i : ℕ) → suc i < n → get_or L (suc i) d ≡ N (get_or L i d)) (round : N (get_or L (n - 1) d) ≡ get_or L 0 d) where
  abbrev idx : ℕ → ℕ
  idx j = cond (eqb j n) 0 j

  abbrev pub spot : ℕ → Side
  spot j = get_or L (cond (eqb j n) 0 j) d

  spot_suc : (i : ℕ) → i < n → spot (suc i) ≡ N (get_or L i d)
  spot_suc i h = go (eqb (suc i) n) refl
    where
      go : (b : Bool) → eqb (suc i) n ≡ b → get_or L (cond b 0 (suc i)) d ≡ N (get_or L i d)
      go true e = let k = eqb-true (suc i) n e in let j : n - 1 ≡ i = omega arith in sym round ∙ ap (λ z. N (get_or L z d)) j
      go false e = let k = eqb-false (suc i) n e in nexts i (omega arith)

  idx_lt : (j : ℕ) → j ≤ n → idx j < n
  idx_lt j h = go (eqb j n) refl
    where
      go : (b : Bool) → eqb j n ≡ b → cond b 0 j < n
      go true e = omega arith
      go false e = let k = eqb-false j n e in omega arith

  idx_inj : (i j : ℕ) → 1 ≤ i → i ≤ n → 1 ≤ j → j ≤ n → idx i ≡ idx j → i ≡ j
  idx_inj i j a b c f e = go (eqb i n) (eqb j n) refl refl e
    where
      go : (x y : Bool) → eqb i n ≡ x → eqb j n ≡ y → cond x 0 i ≡ cond y 0 j → i ≡ j
      go true true p q e = eqb-true i n p ∙ sym (eqb-true j n q)
      go true false p q e = absurd (omega arith)
      go false true p q e = absurd (omega arith)
      go false false p q e = e

  after_idx : (j : ℕ) → after_it n j ≡ suc (idx j)
  after_idx j = go (eqb j n)
    where
      go : (b : Bool) → cond b 1 (j + 1) ≡ suc (cond b 0 j)
      go true = refl
      go false = omega arith

  spot_after : (j : ℕ) → j ≤ n → spot (after_it n j) ≡ N (spot j)
  spot_after j h = ap spot (after_idx j) ∙ spot_suc (idx j) (idx_lt j h)

  spot_before : (i : ℕ) → i < n → spot (before_it n (suc i)) ≡ get_or L i d
  spot_before zero h = rw (eq-eqb n n refl) refl
  spot_before (suc i) h =
      let a : suc (suc i) ≡ 1 → ⊥ = λ e. omega arith in
      let b : suc (suc i) - 1 ≡ suc i = omega arith in
      let c : suc i ≡ n → ⊥ = λ e. omega arith in
      ap spot (ap (λ z. cond z n (suc (suc i) - 1)) (ne_eqb (suc (suc i)) 1 a) ∙ b) ∙ ap (λ z. get_or L (cond z 0 (suc i)) d) (ne_eqb (suc i) n c)

  module _ (apart : Apart L) (number : Side → ℕ) (inj : (s t : Side) → Mem s L → Mem t L → number s ≡ number t → s ≡ t) (c : List Tri) (part : Part 1 n c) where
    spot_mem : (j : ℕ) → j ≤ n → Mem (spot j) L
    spot_mem j h = nth_mem L d (idx j) (let k = idx_lt j h in let e = len in omega arith)

    pub spots_inj : (i j : ℕ) → 1 ≤ i → i ≤ n → 1 ≤ j → j ≤ n → number (spot i) ≡ number (spot j) → i ≡ j
    spots_inj i j a b x y e =
        idx_inj i j a b x y (nth_apart d apart (idx i) (idx j) (let k = idx_lt i b in let e = len in omega arith) (let k = idx_lt j y in let e = len in omega arith) (inj (spot i) (spot j) (spot_mem i b) (spot_mem j y) e))

    pub polygon_fan : (b : Bool) (i : ℕ) → i < n
        → Fan (Link (read_as b (numbered (λ j. number (spot j)) c)) (number (N (get_or L i d)))) (cond b (number (N (N (get_or L i d)))) (number (get_or L i d))) (cond b (number (get_or L i d)) (number (N (N (get_or L i d)))))
    polygon_fan b i h =
        let f = circle_numbered two part (λ j. number (spot j)) spots_inj (suc i) (omega arith) (omega arith) in
        let x = spot_suc i h in let y = spot_before i h in
        let z : spot (after_it n (suc i)) ≡ N (N (get_or L i d)) = spot_after (suc i) (omega arith) ∙ ap N x in
        fan_read b (numbered (λ j. number (spot j)) c) (number (N (get_or L i d))) (cast (ap number x) (ap number y) (ap number z) f)
      where
        cast : {u u' x x' y y' : ℕ} {us : List Tri} → u ≡ u' → x ≡ x' → y ≡ y' → Fan (Link us u) x y → Fan (Link us u') x' y'
        cast p q r f = rw (← p, ← q, ← r) f

    plain_only : {u p q : ℕ} → Link (numbered (λ j. number (spot j)) c) u p q → (s : Side) × Mem s L × (u ≡ number s)
    plain_only l = let k = link_old (λ v x y. number (spot v)) c l in let w = part_within part k.3 in (spot k.0, spot_mem k.0 w.1, k.4)

    pub polygon_only : (b : Bool) {u p q : ℕ} → Link (read_as b (numbered (λ j. number (spot j)) c)) u p q → (s : Side) × Mem s L × (u ≡ number s)
    polygon_only b {u} l = ⊎_elim {C = (s : Side) × Mem s L × (u ≡ number s)} (λ l. plain_only l) (λ l. plain_only l) (read_link b (numbered (λ j. number (spot j)) c) l)

    plain_proper : {u p q : ℕ} → Link (numbered (λ j. number (spot j)) c) u p q → (u ≡ p → ⊥) × (u ≡ q → ⊥)
    plain_proper {u} {p} {q} l =
        let k = link_old (λ v x y. number (spot v)) c l in
        let a = part_within part k.3 in let b = part_within part (link_turn k.3) in let e = part_within part (link_turn (link_turn k.3)) in (
          λ i. part_proper part k.3 (spots_inj k.0 k.1 a.0 a.1 b.0 b.1 (sym k.4 ∙ i ∙ k.5)),
          λ i. part_proper part (link_turn (link_turn k.3)) (spots_inj k.2 k.0 e.0 e.1 a.0 a.1 (sym k.6 ∙ sym i ∙ k.4)),
        )

    pub polygon_proper : (b : Bool) {u p q : ℕ} → Link (read_as b (numbered (λ j. number (spot j)) c)) u p q → u ≡ p → ⊥
    polygon_proper b {u} {p} {q} l = ⊎_elim {C = u ≡ p → ⊥} (λ l. (plain_proper l).0) (λ l. (plain_proper l).1) (read_link b (numbered (λ j. number (spot j)) c) l)
