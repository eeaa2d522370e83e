-- Sectors: the corners at a vertex from one marked edge to the next.
use Rattle.std.proofs.Common.{◌≡◌, ℕ, suc, ◌≤◌, Bool, true, false, cond, eqb, ◌⊎◌, List, [], ◌∷◌, ◌++◌, length, sym, refl, ap, ◌∙◌, subst, inl, inr, ⊎_elim, arith, length-append, eq-eqb, eqb-true}
use borrow.Author.Tests.{clash}
use Rattle.mesh.specs.Lists.{Mem, now, later, Apart, no_one, one_more}
use Rattle.mesh.specs.Triangles.{Tri, tri}
use Rattle.mesh.specs.Sides.{Side, side}
use Rattle.mesh.specs.Rings.{Corner, at_first, at_second, at_third, Link, here, there, Walk, stop, step}
use Rattle.mesh.proofs.Walks.{Sharp}
use Rattle.mesh.proofs.Members.{mem_cases, apart_le, mem_left, mem_right}
use Rattle.forest.proofs.Rings.{FullRing}

-- The corners at v from (v, w, y) to (v, x, t), over edges v–x that are free
pub data Sector (ts : List Tri) (v : ℕ) (Free : ℕ → Type 0) : ℕ → ℕ → ℕ → ℕ → Type 0 where
  one : {x t : ℕ} → Link ts v x t → Sector ts v Free x t x t
  more : {w y z x t : ℕ} → Sector ts v Free w y z x → Free x → Link ts v x t → Sector ts v Free w y x t

-- (v, p, q) is a corner of the sector
abbrev pub On : {ts : List Tri} {v : ℕ} {Free : ℕ → Type 0} {w y x t : ℕ} → Sector ts v Free w y x t → ℕ → ℕ → Type 0
On (one {x} {t} l) p q = (p ≡ x) × (q ≡ t)
On (more {x = x} {t = t} k e l) p q = On k p q ⊎ ((p ≡ x) × (q ≡ t))

module _ {ts : List Tri} {v : ℕ} {Free : ℕ → Type 0} where
  pub on_first : {w y x t : ℕ} (k : Sector ts v Free w y x t) → On k w y
  on_first (one l) = (refl, refl)
  on_first (more k e l) = inl (on_first k)

  pub on_last : {w y x t : ℕ} (k : Sector ts v Free w y x t) → On k x t
  on_last (one l) = (refl, refl)
  on_last (more k e l) = inr (refl, refl)

  pub on_link : {w y x t : ℕ} (k : Sector ts v Free w y x t) (p q : ℕ) → On k p q → Link ts v p q
  on_link (one l) p q h = rw (h.0, h.1) l
  on_link (more k e l) p q (inl h) = on_link k p q h
  on_link (more k e l) p q (inr h) = rw (h.0, h.1) l

module _ (ts : List Tri) (v : ℕ) (Free : ℕ → Type 0) where
  -- one arrival gives one sector
  module _ (into : (x x' t : ℕ) → Link ts v x t → Link ts v x' t → x ≡ x') where
    into_eq : (x x' : ℕ) {t t' : ℕ} → t ≡ t' → Link ts v x t → Link ts v x' t' → x ≡ x'
    into_eq x x' {t} {t'} e l l' = into x x' t l (rw e l')

    pub sector_same : {w y x t w' y' x' t' : ℕ} → t ≡ t' → (k : Sector ts v Free w y x t) (k' : Sector ts v Free w' y' x' t') → (Free w → ⊥) → (Free w' → ⊥)
        → (w ≡ w') × ((p q : ℕ) → On k p q → On k' p q)
    sector_same s (one {x} l) (one {x = x'} l') n n' = let e = into_eq x x' s l l' in (e, λ p q h. (h.0 ∙ e, h.1 ∙ s))
    sector_same s (one {x} l) (more {x = x'} k e l') n n' = absurd (n (rw (into_eq x x' s l l') e))
    sector_same s (more {x = x} k e l) (one {x = x'} l') n n' = absurd (n' (rw (into_eq x x' s l l') at e))
    sector_same s (more {x = x} k e l) (more {x = x'} k' e' l') n n' =
        let i = into_eq x x' s l l' in let h = sector_same i k k' n n' in
        (h.0, λ p q o. ⊎_elim (λ o. inl (h.1 p q o)) (λ o. inr (o.0 ∙ i, o.1 ∙ s)) o)

  -- on from a corner to the end of its sector
  data Onward : ℕ → ℕ → ℕ → Type 0 where
    done : {p q : ℕ} → Onward p q q
    on : {p q r t : ℕ} → Free q → Link ts v q r → Onward q r t → Onward p q t

  onward_more : {p q x t : ℕ} → Onward p q x → Free x → Link ts v x t → Onward p q t
  onward_more done e l = on e l done
  onward_more (on e' l' o) e l = on e' l' (onward_more o e l)

  on_onward : {w y x t : ℕ} (k : Sector ts v Free w y x t) (p q : ℕ) → On k p q → Onward p q t
  on_onward (one l) p q h = rw h.1 done
  on_onward (more k e l) p q (inl h) = onward_more (on_onward k p q h) e l
  on_onward (more k e l) p q (inr h) = rw h.1 done

  module _ (sharp : Sharp (Link ts v)) where
    onward_same : {p q t t' : ℕ} → Onward p q t → Onward p q t' → (Free t → ⊥) → (Free t' → ⊥) → t ≡ t'
    onward_same done done n n' = refl
    onward_same done (on e l o) n n' = absurd (n e)
    onward_same (on e l o) done n n' = absurd (n' e)
    onward_same (on {q = q} {r = r} e l o) (on {r = r'} e' l' o') n n' = let s = sharp q r r' l l' in onward_same o (rw s o') n n'

    -- no corner on two sectors
    pub sector_apart : {w y x t w' y' x' t' : ℕ} (k : Sector ts v Free w y x t) (k' : Sector ts v Free w' y' x' t') → (Free t → ⊥) → (Free t' → ⊥) → (p q : ℕ) → On k p q → On k' p q → t ≡ t'
    sector_apart k k' n n' p q h h' = onward_same (on_onward k p q h) (on_onward k' p q h') n n'

  -- each corner on a sector
  abbrev pub Ending : ℕ → ℕ → Type 0
  Ending p q = (w : ℕ) × (y : ℕ) × (Free w → ⊥) × Sector ts v Free w y p q

  abbrev Through : ℕ → ℕ → Type 0
  Through p q = (w : ℕ) × (y : ℕ) × (x : ℕ) × (t : ℕ) × (Free w → ⊥) × (Free t → ⊥) × (k : Sector ts v Free w y x t) × On k p q

  module _ (dec : (x : ℕ) → Dec (Free x)) where
    pub next_ending : {a b : ℕ} (p : ℕ) → Dec (Free a) → Ending p a → Link ts v a b → Ending a b
    next_ending p (yes e) k l = (k.0, k.1, k.2, more k.3 e l)
    next_ending {a} {b} p (no n) k l = (a, b, n, one l)

    pub ending_walk : {a q : ℕ} (p : ℕ) → Ending p a → Walk (Link ts v) a q → (r : ℕ) × Ending r q
    ending_walk p k stop = (p, k)
    ending_walk p k (step {x} {y} l w) = ending_walk x (next_ending p (dec x) k l) w

    ahead : {x q m : ℕ} (w y : ℕ) (k : Sector ts v Free w y x q) → (Free w → ⊥) → (a b : ℕ) → On k a b → Walk (Link ts v) q m → (Free m → ⊥) → Through a b
    ahead {x} {q} w y k n a b h stop f = (w, y, x, q, n, f, k, h)
    ahead {x} {q} w y k n a b h (step {y = r} l u) f = go (dec q) (λ e. ahead w y (more k e l) n a b (inl h) u f)
      where
        go : Dec (Free q) → (Free q → Through a b) → Through a b
        go (yes e) c = c e
        go (no g) c = (w, y, x, q, n, g, k, h)

    -- m is marked and has a link: each corner lies on a sector from marked to marked
    pub sector_through : FullRing (Link ts v) → (m n p q : ℕ) → (Free m → ⊥) → Link ts v m n → Link ts v p q → Through p q
    sector_through g m n p q f l c =
        let a = ending_walk m (m, n, f, one l) (g.round m n p q l c) in
        let b = next_ending a.0 (dec p) a.1 c in
        ahead b.0 b.1 b.3 b.2 p q (on_last b.3) (g.round p q m n c l) f

-- a corner put before a sector
module _ (ts : List Tri) (v : ℕ) (Free : ℕ → Type 0) where
  abbrev pub sector_before : {w' w y x t : ℕ} → Link ts v w' w → Free w → Sector ts v Free w y x t → Sector ts v Free w' w x t
  sector_before l e (one k) = more (one l) e k
  sector_before l e (more k e' k') = more (sector_before l e k) e' k'

  pub on_before : {w' w y x t : ℕ} (l : Link ts v w' w) (e : Free w) (k : Sector ts v Free w y x t) (p q : ℕ) → On k p q ⊎ ((p ≡ w') × (q ≡ w)) → On (sector_before l e k) p q
  on_before l e (one k) p q (inl h) = inr h
  on_before l e (one k) p q (inr h) = inl h
  on_before l e (more k e' k') p q (inl (inl h)) = inl (on_before l e k p q (inl h))
  on_before l e (more k e' k') p q (inl (inr h)) = inr h
  on_before l e (more k e' k') p q (inr h) = inl (on_before l e k p q (inr h))

-- A vertex has no more corners than there are triangles, so that a sector has none too many.
abbrev links_of : ℕ → Tri → List Side
links_of v (tri x y z) = cond (eqb x v) (side y z ∷ []) [] ++ (cond (eqb y v) (side z x ∷ []) [] ++ cond (eqb z v) (side x y ∷ []) [])

abbrev links_at : ℕ → List Tri → List Side
links_at v [] = []
links_at v (t ∷ ts) = links_of v t ++ links_at v ts

mem_cond : {t : Side} (b : Bool) → b ≡ true → Mem t (cond b (t ∷ []) [])
mem_cond true e = now
mem_cond false e = absurd (clash e)

corner_links : {t : Tri} {v x y : ℕ} → Corner t v x y → Mem (side x y) (links_of v t)
corner_links {t = tri a b c} {v} at_first = mem_left _ (mem_cond (eqb v v) (eq-eqb v v refl))
corner_links {t = tri a b c} {v} at_second = mem_right (cond (eqb a v) (side b c ∷ []) []) (mem_left _ (mem_cond (eqb v v) (eq-eqb v v refl)))
corner_links {t = tri a b c} {v} at_third = mem_right (cond (eqb a v) (side b c ∷ []) []) (mem_right (cond (eqb b v) (side c a ∷ []) []) (mem_cond (eqb v v) (eq-eqb v v refl)))

link_in : {ts : List Tri} {v x y : ℕ} → Link ts v x y → Mem (side x y) (links_at v ts)
link_in (here c) = mem_left _ (corner_links c)
link_in (there {t = t} {v = v} l) = mem_right (links_of v t) (link_in l)

one_of : (p q r : Bool) (a b c : Side) → (p ≡ true → q ≡ true → ⊥) → (q ≡ true → r ≡ true → ⊥) → (r ≡ true → p ≡ true → ⊥) → length (cond p (a ∷ []) [] ++ (cond q (b ∷ []) [] ++ cond r (c ∷ []) [])) ≤ 1
one_of true true r a b c f g h = absurd (f refl refl)
one_of true false true a b c f g h = absurd (h refl refl)
one_of true false false a b c f g h = omega arith
one_of false true true a b c f g h = absurd (g refl refl)
one_of false true false a b c f g h = omega arith
one_of false false true a b c f g h = omega arith
one_of false false false a b c f g h = omega arith

links_few : (ts : List Tri) (v : ℕ) → ((v x y : ℕ) → Link ts v x y → v ≡ x → ⊥) → length (links_at v ts) ≤ length ts
links_few [] v f = omega arith
links_few (tri x y z ∷ ts) v f =
    let a = one_of (eqb x v) (eqb y v) (eqb z v) (side y z) (side z x) (side x y)
    (λ e i. f x y z (here at_first) (eqb-true x v e ∙ sym (eqb-true y v i)))
    (λ e i. f y z x (here at_second) (eqb-true y v e ∙ sym (eqb-true z v i)))
    (λ e i. f z x y (here at_third) (eqb-true z v e ∙ sym (eqb-true x v i))) in
    let r = links_few ts v (λ v x y l. f v x y (there l)) in
    let l = length-append (links_of v (tri x y z)) (links_at v ts) in
    omega arith

module _ (ts : List Tri) (v : ℕ) (Free : ℕ → Type 0) where
  abbrev pub steps : {w y x t : ℕ} → Sector ts v Free w y x t → ℕ
  steps (one l) = 1
  steps (more k e l) = suc (steps k)

  abbrev pub corners : {w y x t : ℕ} → Sector ts v Free w y x t → List Side
  corners (one {x} {t} l) = side x t ∷ []
  corners (more {x = x} {t = t} k e l) = side x t ∷ corners k

  pub corners_on : {w y x t : ℕ} (k : Sector ts v Free w y x t) (p q : ℕ) → Mem (side p q) (corners k) → On k p q
  corners_on (one {x} {t} l) p q m = ⊎_elim {C = (p ≡ x) × (q ≡ t)} (λ (e : side p q ≡ side x t). ((cc), (cc))) (λ m. elim m [ ]) (mem_cases m)
  corners_on (more {x = x} {t = t} k e l) p q m = ⊎_elim {C = On k p q ⊎ ((p ≡ x) × (q ≡ t))} (λ (e : side p q ≡ side x t). inr ((cc), (cc))) (λ m. inl (corners_on k p q m)) (mem_cases m)

  pub on_corners : {w y x t : ℕ} (k : Sector ts v Free w y x t) (p q : ℕ) → On k p q → Mem (side p q) (corners k)
  on_corners (one {x} {t} l) p q h = rw (h.0, h.1) now
  on_corners (more k e l) p q (inl h) = later (on_corners k p q h)
  on_corners (more {x = x} {t = t} k e l) p q (inr h) = rw (h.0, h.1) now

  length_corners : {w y x t : ℕ} (k : Sector ts v Free w y x t) → length (corners k) ≡ steps k
  length_corners (one l) = refl
  length_corners (more k e l) = ap suc (length_corners k)

  -- the sector as far as a corner of it
  upto : {w y x t : ℕ} (k : Sector ts v Free w y x t) (p q : ℕ) → On k p q → (k' : Sector ts v Free w y p q) × (steps k' ≤ steps k)
  upto {w} {y} (one {x} {t} l) p q h = subst (λ (p : ℕ). (k' : Sector ts v Free x t p q) × (steps k' ≤ 1)) (sym h.0) (subst (λ (q : ℕ). (k' : Sector ts v Free x t x q) × (steps k' ≤ 1)) (sym h.1) (one l, omega arith))
  upto {w} {y} (more k e l) p q (inl h) = let i = upto k p q h in (i.0, omega (arith, i.1))
  upto {w} {y} (more {x = x} {t = t} k e l) p q (inr h) =
      subst (λ (p : ℕ). (k' : Sector ts v Free w y p q) × (steps k' ≤ suc (steps k))) (sym h.0) (subst (λ (q : ℕ). (k' : Sector ts v Free w y x q) × (steps k' ≤ suc (steps k))) (sym h.1) (more k e l, omega arith))

  module _ (into : (x x' t : ℕ) → Link ts v x t → Link ts v x' t → x ≡ x') where
    steps_same : {w y x t w' y' x' t' : ℕ} → t ≡ t' → (k : Sector ts v Free w y x t) (k' : Sector ts v Free w' y' x' t') → (Free w → ⊥) → (Free w' → ⊥) → steps k ≡ steps k'
    steps_same s (one {x} l) (one {x = x'} l') n n' = refl
    steps_same {t = t} s (one {x} l) (more {x = x'} k e l') n n' = absurd (n (rw (into x x' t l (rw s l')) e))
    steps_same {t = t} s (more {x = x} k e l) (one {x = x'} l') n n' = absurd (n' (rw (into x x' t l (rw s l')) at e))
    steps_same {t = t} s (more {x = x} k e l) (more {x = x'} k' e' l') n n' = ap suc (steps_same (into x x' t l (rw s l')) k k' n n')

    pub corners_apart : {w y x t : ℕ} (k : Sector ts v Free w y x t) → (Free w → ⊥) → Apart (corners k)
    corners_apart (one l) n = one_more (λ m. elim m [ ]) no_one
    corners_apart (more {x = x} {t = t} k e l) n =
        one_more (λ m. let i = upto k x t (corners_on k x t m) in let h = steps_same refl i.0 (more k e l) n n in omega (arith, i.1)) (corners_apart k n)

    pub sector_short : ((v x y : ℕ) → Link ts v x y → v ≡ x → ⊥) → {w y x t : ℕ} (k : Sector ts v Free w y x t) → (Free w → ⊥) → steps k ≤ length ts
    sector_short proper k n =
        let f = links_few ts v proper in
        let h = apart_le (λ s. s) (λ x z e. e) (links_at v ts) (corners_apart k n) each in
        let e = length_corners k in omega arith
      where
        each : (z : Side) → Mem z (corners k) → Mem z (links_at v ts)
        each (side p q) m = link_in (on_link k p q (corners_on k p q m))
