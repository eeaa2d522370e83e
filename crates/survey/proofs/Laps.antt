-- A lap of a relation: from x to a, and not by a before.
use Rattle.std.proofs.Common.{◌≡◌, ℕ, suc, ◌≤◌, List, [], ◌∷◌, length, sym, refl, ap, ⊎_elim, arith}
use native.Mathlib.Decide.{ℕ_discrete}
use Rattle.mesh.specs.Lists.{Mem, now, later, Apart, no_one, one_more}
use Rattle.mesh.specs.Rings.{Walk, stop, step, OneRing}
use Rattle.mesh.proofs.Walks.{Rel, Sharp, walk_append, walk_start, walk_end}
use Rattle.mesh.proofs.Members.{mem_cases, apart_covers, apart_le}

pub data Lap (R : ℕ → ℕ → Type 0) (a : ℕ) : ℕ → ℕ → Type 0 where
  home : Lap R a 0 a
  on : {n x y : ℕ} → (x ≡ a → ⊥) → R x y → Lap R a n y → Lap R a (suc n) x

abbrev starts : {R : Rel} {a n x : ℕ} → Lap R a n x → List ℕ
starts home = []
starts (on {x = x} f r l) = x ∷ starts l

length_starts : {R : Rel} {a n x : ℕ} (l : Lap R a n x) → length (starts l) ≡ n
length_starts home = refl
length_starts (on f r l) = ap suc (length_starts l)

lap_at : {R : Rel} {a n x y : ℕ} → x ≡ y → Lap R a n x → Lap R a n y
lap_at e l = rw e at l

lap_same : {R : Rel} {a n m x z : ℕ} → Sharp R → x ≡ z → Lap R a n x → Lap R a m z → n ≡ m
lap_same s e home home = refl
lap_same s e home (on f r l) = absurd (f (sym e))
lap_same s e (on f r l) home = absurd (f e)
lap_same {R} s e (on {x = x} {y = y} f r l) (on {x = w} {y = z} g q k) = let q' : R x z = rw e q in ap suc (lap_same s (s x y z r q') l k)

never_home : {R : Rel} {a n x : ℕ} (l : Lap R a n x) → Mem a (starts l) → ⊥
never_home home m = elim m [ ]
never_home (on f r l) m = ⊎_elim (λ e. f (sym e)) (λ k. never_home l k) (mem_cases m)

from_start : {R : Rel} {a n x z : ℕ} (l : Lap R a n x) → Mem z (starts l) → (m : ℕ) × (m ≤ n) × Lap R a m z
from_start home m = elim m [ ]
from_start {R} {a} {z = z} (on {n} {x} f r l) m =
    ⊎_elim {C = (m : ℕ) × (m ≤ suc n) × Lap R a m z} (λ (e : z ≡ x). (suc n, (omega arith), lap_at (sym e) (on f r l))) (λ k. let h = from_start l k in let i = h.1 in (h.0, (omega arith), h.2)) (mem_cases m)

starts_apart : {R : Rel} {a n x : ℕ} → Sharp R → (l : Lap R a n x) → Apart (starts l)
starts_apart s home = no_one
starts_apart s (on f r l) = one_more (λ m. let k = from_start l m in let e = lap_same s refl (on f r l) k.2 in let i = k.1 in omega arith) (starts_apart s l)

pub lap_walk : {R : Rel} {a n x : ℕ} → Lap R a n x → Walk R x a
lap_walk home = stop
lap_walk (on f r l) = step r (lap_walk l)

lap_to : {R : Rel} {a n x z : ℕ} (l : Lap R a n x) → Mem z (starts l) → Walk R x z
lap_to home m = elim m [ ]
lap_to {z = z} (on {x = x} f r l) m = ⊎_elim (λ (e : z ≡ x). walk_end (sym e) stop) (λ k. step r (lap_to l k)) (mem_cases m)

lap_link : {R : Rel} {a n x z : ℕ} (l : Lap R a n x) → Mem z (starts l) → (y : ℕ) × R z y
lap_link home m = elim m [ ]
lap_link {R} {z = z} (on {x = x} {y = y} f r l) m = ⊎_elim {C = (y : ℕ) × R z y} (λ (e : z ≡ x). (y, rw e r)) (λ k. lap_link l k) (mem_cases m)

pub lap_of : {R : Rel} {a x : ℕ} → Walk R x a → (n : ℕ) × Lap R a n x
lap_of stop = (0, home)
lap_of {R} {a} (step {x} {y} r w) = go (ℕ_discrete x a) (lap_of w)
  where
    go : Dec (x ≡ a) → (n : ℕ) × Lap R a n y → (n : ℕ) × Lap R a n x
    go (yes e) h = (0, lap_at (sym e) home)
    go (no f) h = (suc h.0, on f r h.1)

head_in : {R : Rel} {a n x : ℕ} (l : Lap R a n x) → Mem x (a ∷ starts l)
head_in home = now
head_in (on f r l) = later now

under : {a x z : ℕ} {xs : List ℕ} → Mem z (a ∷ xs) → Mem z (a ∷ (x ∷ xs))
under now = now
under (later m) = later (later m)

follow : {R : Rel} {a n x p q : ℕ} → Sharp R → (l : Lap R a n x) → Mem p (starts l) → R p q → Mem q (a ∷ starts l)
follow s home m r = elim m [ ]
follow {R} {a} {p = p} {q = q} s (on {x = x} {y = y} f t l) m r =
    ⊎_elim {C = Mem q (a ∷ (x ∷ starts l))}
    (λ (e : p ≡ x). let t' : R p y = rw e t in let i = s p q y r t' in rw i (under (head_in l))) (λ k. under (follow s l k r)) (mem_cases m)

kept : {R : Rel} {a b n : ℕ} → Sharp R → R a b → (l : Lap R a n b) → (p q : ℕ) → R p q → Mem p (a ∷ starts l) → Mem q (a ∷ starts l)
kept {R} {a} {b} s t l p q r m =
    ⊎_elim {C = Mem q (a ∷ starts l)} (λ (e : p ≡ a). let t' : R p b = rw e t in let i = s p q b r t' in rw i (head_in l)) (λ k. follow s l k r) (mem_cases m)

walk_kept : {R : Rel} {x y : ℕ} (P : ℕ → Type 0) → ((p q : ℕ) → R p q → P p → P q) → Walk R x y → P x → P y
walk_kept P f stop h = h
walk_kept P f (step {x} {y} r w) h = walk_kept P f w (f x y r h)

-- a lap with as many links as there are is the one ring
pub lap_reaches : {R : Rel} {a b n : ℕ} (os : List ℕ) → Sharp R → ((p q : ℕ) → R p q → Mem p os) → R a b → Lap R a n b → length os ≤ suc n → OneRing R
lap_reaches {R} {a} {b} {n} os s into t l h = record { some = (a, b, t); all = λ p q p' q' r r'. walk_append (back p (on_it p q r)) (forth p' (on_it p' q' r')) }
  where
    all_apart : Apart (a ∷ starts l)
    all_apart = one_more (never_home l) (starts_apart s l)

    inside : (z : ℕ) → Mem z (a ∷ starts l) → Mem z os
    inside z m = ⊎_elim (λ (e : z ≡ a). rw e (into a b t)) (λ k. let y = lap_link l k in into z y.0 y.1) (mem_cases m)

    on_it : (p q : ℕ) → R p q → Mem p (a ∷ starts l)
    on_it p q r = let e = length_starts l in let k : length os ≤ length (a ∷ starts l) = omega arith in apart_covers os all_apart inside k p (into p q r)

    forth : (p : ℕ) → Mem p (a ∷ starts l) → Walk R a p
    forth p m = ⊎_elim (λ (e : p ≡ a). walk_end (sym e) stop) (λ k. step t (lap_to l k)) (mem_cases m)

    back : (p : ℕ) → Mem p (a ∷ starts l) → Walk R p a
    back p m = ⊎_elim (λ (e : p ≡ a). walk_start e stop) (λ k. lap_walk (from_start l k).2) (mem_cases m)

-- and the one ring is such a lap
pub reaches_lap : {R : Rel} {a b : ℕ} (os : List ℕ) → Sharp R → ((p q : ℕ) → R p q → Mem p os) → ((p : ℕ) → Mem p os → (q : ℕ) × R p q) → Apart os → R a b → Walk R b a → ((p q : ℕ) → R p q → Walk R a p) → (n : ℕ) × Lap R a n b × (suc n ≡ length os)
reaches_lap {R} {a} {b} os s into out d t w f = go (lap_of w)
  where
    go : (n : ℕ) × Lap R a n b → (n : ℕ) × Lap R a n b × (suc n ≡ length os)
    go h =
        let l = h.1 in
        let e = length_starts l in
        let le = apart_le (λ (z : ℕ). z) (λ x z i. i) os (one_more (never_home l) (starts_apart s l)) (λ z m. ⊎_elim (λ (i : z ≡ a). rw i (into a b t)) (λ k. let y = lap_link l k in into z y.0 y.1) (mem_cases m)) in
        let ge = apart_le (λ (z : ℕ). z) (λ x z i. i) (a ∷ starts l) d (λ z m. let y = out z m in walk_kept (λ (z : ℕ). Mem z (a ∷ starts l)) (λ p q r. kept s t l p q r) (f z y.0 y.1) now) in
        (h.0, l, (omega arith))
