-- The numbers of the positions.
use Rattle.std.proofs.Common.{◌≡◌, ℕ, suc, ◌+◌, ◌<◌, ◌≤◌, Bool, true, false, cond, eqb, ◌⊎◌, List, [], ◌∷◌, length, get_or, sym, refl, ap, ◌∙◌, inl, inr, ⊎_elim, arith, eqb-true}
use native.Mathlib.Decide.{ℕ_discrete}
use borrow.Author.Tests.{eqb-false, clash}
use Rattle.std.proofs.lemmas.Bool.{or_cases, or_parts}
use Rattle.mesh.specs.Lists.{Mem, now, later, Apart, no_one, one_more}
use Rattle.mesh.specs.Sides.{Side}
use Rattle.forest.specs.Marks.{same_side}
use Rattle.forest.specs.Trees.{start}
use Rattle.forest.specs.Numbering.{has, unused, parents}
use Rattle.mesh.proofs.Members.{mem_cases, mem_eq}
use Rattle.forest.proofs.Marking.{same_true, true_same}

-- a position, by the side that it starts, with its number
pub data Entry : Type 0 where
  entry : Side → ℕ → Entry

abbrev pub entries : List ℕ → ℕ → List Side → List Entry
entries seen n [] = []
entries seen n (s ∷ ss) = entry s (cond (has (start s) seen) n (start s)) ∷ entries (start s ∷ seen) (cond (has (start s) seen) (suc n) n) ss

-- the number of the position that s starts
abbrev pub number_of : List Entry → Side → ℕ
number_of [] s = 0
number_of (entry t n ∷ es) s = cond (same_side t s) n (number_of es s)

pub has_true : (v : ℕ) (xs : List ℕ) → has v xs ≡ true → Mem v xs
has_true v [] e = absurd (clash e)
has_true v (x ∷ xs) e = ⊎_elim (λ i. rw (eqb-true x v i) now) (λ i. later (has_true v xs i)) (or_cases (eqb x v) (has v xs) e)

pub has_false : (v : ℕ) (xs : List ℕ) → has v xs ≡ false → Mem v xs → ⊥
has_false v [] e m = elim m [ ]
has_false v (x ∷ xs) e m =
    let h = or_parts (eqb x v) (has v xs) e in
    ⊎_elim (λ (i : v ≡ x). eqb-false x v h.0 (sym i)) (λ k. has_false v xs h.1 k) (mem_cases m)

-- an earlier position's vertex takes the next number; a new one keeps its own
abbrev pub Taken : List ℕ → ℕ → ℕ → ℕ → ℕ → Type 0
Taken seen n v m n' = ((m ≡ n) × (n' ≡ suc n) × Mem v seen) ⊎ ((m ≡ v) × (n' ≡ n) × (Mem v seen → ⊥))

pub taken : (seen : List ℕ) (n v : ℕ) → Taken seen n v (cond (has v seen) n v) (cond (has v seen) (suc n) n)
taken seen n v = go (has v seen) refl
  where
    go : (b : Bool) → has v seen ≡ b → Taken seen n v (cond b n v) (cond b (suc n) n)
    go true e = inl (refl, refl, has_true v seen e)
    go false e = inr (refl, refl, has_false v seen e)

entry_side : {s t : Side} {m n : ℕ} → entry s m ≡ entry t n → s ≡ t
entry_side e = cc

entry_number : {s t : Side} {m n : ℕ} → entry s m ≡ entry t n → m ≡ n
entry_number e = cc

pub unused_le : (seen : List ℕ) (n : ℕ) (ss : List Side) → n ≤ unused seen n ss
unused_le seen n [] = omega arith
unused_le seen n (s ∷ ss) =
    let v = start s in let n' = cond (has v seen) (suc n) n in
    let h = unused_le (v ∷ seen) n' ss in
    ⊎_elim (λ t. omega (arith, t.1)) (λ t. omega (arith, t.1)) (taken seen n v)

pub numbered_side : (seen : List ℕ) (n : ℕ) (ss : List Side) {s : Side} {m : ℕ} → Mem (entry s m) (entries seen n ss) → Mem s ss
numbered_side seen n [] k = elim k [ ]
numbered_side seen n (t ∷ ss) {s} {m} k =
    ⊎_elim (λ (e : entry s m ≡ entry t (cond (has (start t) seen) n (start t))). mem_eq (entry_side e) now) (λ k. later (numbered_side (start t ∷ seen) (cond (has (start t) seen) (suc n) n) ss k)) (mem_cases k)

pub side_numbered : (seen : List ℕ) (n : ℕ) (ss : List Side) {s : Side} → Mem s ss → (m : ℕ) × Mem (entry s m) (entries seen n ss)
side_numbered seen n [] k = elim k [ ]
side_numbered seen n (t ∷ ss) {s} k =
    ⊎_elim {C = (m : ℕ) × Mem (entry s m) (entries seen n (t ∷ ss))} (λ (e : s ≡ t). (cond (has (start t) seen) n (start t), mem_eq (ap (λ z. entry z (cond (has (start t) seen) n (start t))) e) now))
    (λ k. let r = side_numbered (start t ∷ seen) (cond (has (start t) seen) (suc n) n) ss k in (r.0, later r.1)) (mem_cases k)

abbrev pub Form : List ℕ → ℕ → ℕ → Side → ℕ → Type 0
Form seen n n' s m = ((m ≡ start s) × (Mem (start s) seen → ⊥)) ⊎ ((n ≤ m) × (m < n'))

pub numbered_form : (seen : List ℕ) (n : ℕ) (ss : List Side) {s : Side} {m : ℕ} → Mem (entry s m) (entries seen n ss) → Form seen n (unused seen n ss) s m
numbered_form seen n [] k = elim k [ ]
numbered_form seen n (t ∷ ss) {s} {m} k = go (taken seen n v) (unused_le (v ∷ seen) n' ss) (mem_cases k) (λ k. numbered_form (v ∷ seen) n' ss k)
  where
    v : ℕ
    v = start t

    n' : ℕ
    n' = cond (has (start t) seen) (suc n) n

    m' : ℕ
    m' = cond (has (start t) seen) n (start t)

    u : ℕ
    u = unused (start t ∷ seen) (cond (has (start t) seen) (suc n) n) ss

    go : Taken seen n v m' n' → n' ≤ u → (entry s m ≡ entry t m') ⊎ Mem (entry s m) (entries (v ∷ seen) n' ss) → (Mem (entry s m) (entries (v ∷ seen) n' ss) → Form (v ∷ seen) n' u s m) → Form seen n u s m
    go (inl h) l (inl e) f = let i = entry_number e in inr (omega (arith, h.0, h.1), omega (arith, h.0, h.1))
    go (inr h) l (inl e) f = let i = entry_number e in let j = ap start (entry_side e) in inl (i ∙ h.0 ∙ sym j, λ k. h.2 (mem_eq (sym j) k))
    go t l (inr k) f = ⊎_elim {C = Form seen n u s m} (λ r. inl (r.0, λ k. r.1 (later k))) (λ r. inr (⊎_elim (λ h. omega (arith, r.0, h.1)) (λ h. omega (arith, r.0, h.1)) t, r.1)) (f k)

module _ (V : ℕ) where
  -- no number twice
  pub numbered_once : (seen : List ℕ) (n : ℕ) (ss : List Side) → ((s : Side) → Mem s ss → start s < V) → V ≤ n → {s t : Side} {m : ℕ} → Mem (entry s m) (entries seen n ss) → Mem (entry t m) (entries seen n ss) → s ≡ t
  numbered_once seen n [] low h k l = elim k [ ]
  numbered_once seen n (r ∷ ss) low h {s} {t} {m} k l =
      go (mem_cases k) (mem_cases l) (λ k l. numbered_once (v ∷ seen) n' ss (λ s m. low s (later m)) (⊎_elim (λ q. omega (arith, h, q.1)) (λ q. omega (arith, h, q.1)) (taken seen n v)) k l)
    where
      v : ℕ
      v = start r

      n' : ℕ
      n' = cond (has (start r) seen) (suc n) n

      m' : ℕ
      m' = cond (has (start r) seen) n (start r)

      other : (s : Side) → m ≡ m' → Mem (entry s m) (entries (v ∷ seen) n' ss) → ⊥
      other s e k = both (taken seen n v) (numbered_form (v ∷ seen) n' ss k)
        where
          small : start s < V
          small = low s (later (numbered_side (v ∷ seen) n' ss k))

          small' : v < V
          small' = low r now

          both : Taken seen n v m' n' → Form (v ∷ seen) n' (unused (v ∷ seen) n' ss) s m → ⊥
          both (inl a) (inl b) = let x = small in omega (arith, a.0, b.0)
          both (inl a) (inr b) = omega (arith, a.0, a.1, b.0)
          both (inr a) (inl b) = b.1 (mem_eq (sym b.0 ∙ e ∙ a.0) now)
          both (inr a) (inr b) = let x = small' in omega (arith, a.0, a.1, b.0)

      go : (entry s m ≡ entry r m') ⊎ Mem (entry s m) (entries (v ∷ seen) n' ss) → (entry t m ≡ entry r m') ⊎ Mem (entry t m) (entries (v ∷ seen) n' ss)
          → (Mem (entry s m) (entries (v ∷ seen) n' ss) → Mem (entry t m) (entries (v ∷ seen) n' ss) → s ≡ t) → s ≡ t
      go (inl e) (inl i) f = entry_side e ∙ sym (entry_side i)
      go (inl e) (inr l) f = absurd (other t (entry_number e) l)
      go (inr k) (inl i) f = absurd (other s (entry_number i) k)
      go (inr k) (inr l) f = f k l

-- the number looked up
pub number_mem : (es : List Entry) {s : Side} {m : ℕ} → Mem (entry s m) es → Mem (entry s (number_of es s)) es
number_mem [] k = elim k [ ]
number_mem (entry t n ∷ es) {s} {m} k = go (same_side t s) refl (mem_cases k) (λ k. number_mem es k)
  where
    go : (b : Bool) → same_side t s ≡ b → (entry s m ≡ entry t n) ⊎ Mem (entry s m) es → (Mem (entry s m) es → Mem (entry s (number_of es s)) es) → Mem (entry s (cond b n (number_of es s))) (entry t n ∷ es)
    go true e k f = mem_eq (ap (λ z. entry z n) (sym (same_true t s e))) now
    go false e (inl i) f = absurd (clash (sym e ∙ true_same t s (sym (entry_side i))))
    go false e (inr k) f = later (f k)

pub number_is : (seen : List ℕ) (n : ℕ) {ss : List Side} → Apart ss → {s : Side} {m : ℕ} → Mem (entry s m) (entries seen n ss) → number_of (entries seen n ss) s ≡ m
number_is seen n no_one k = elim k [ ]
number_is seen n (one_more {x = t} {xs = ss} out a) {s} {m} k = go (same_side t s) refl (mem_cases k) (λ k. number_is (start t ∷ seen) n' a k)
  where
    n' : ℕ
    n' = cond (has (start t) seen) (suc n) n

    m' : ℕ
    m' = cond (has (start t) seen) n (start t)

    es : List Entry
    es = entries (start t ∷ seen) n' ss

    go : (b : Bool) → same_side t s ≡ b → (entry s m ≡ entry t m') ⊎ Mem (entry s m) es → (Mem (entry s m) es → number_of es s ≡ m) → cond b m' (number_of es s) ≡ m
    go true e (inl i) f = sym (entry_number i)
    go true e (inr k) f = absurd (out (mem_eq (same_true t s e) (numbered_side (start t ∷ seen) n' ss k)))
    go false e (inl i) f = absurd (clash (sym e ∙ true_same t s (sym (entry_side i))))
    go false e (inr k) f = f k

-- each new number is taken, and each vertex of a position keeps its own at one
pub number_new : (seen : List ℕ) (n : ℕ) (ss : List Side) (u : ℕ) → n ≤ u → u < unused seen n ss → (s : Side) × Mem (entry s u) (entries seen n ss)
number_new seen n [] u low high = absurd (omega arith)
number_new seen n (t ∷ ss) u low high = go (taken seen n v) (λ h. number_new (v ∷ seen) n' ss u h high) (ℕ_discrete u n)
  where
    v : ℕ
    v = start t

    n' : ℕ
    n' = cond (has (start t) seen) (suc n) n

    m' : ℕ
    m' = cond (has (start t) seen) n (start t)

    go : Taken seen n v m' n' → (n' ≤ u → (s : Side) × Mem (entry s u) (entries (v ∷ seen) n' ss)) → Dec (u ≡ n) → (s : Side) × Mem (entry s u) (entries seen n (t ∷ ss))
    go (inl h) f (yes e) = (t, mem_eq (ap (λ z. entry t z) (e ∙ sym h.0)) now)
    go (inl h) f (no i) = let r = f (omega (arith, h.1)) in (r.0, later r.1)
    go (inr h) f d = let r = f (omega (arith, h.1)) in (r.0, later r.1)

pub number_old : (seen : List ℕ) (n : ℕ) (ss : List Side) (v : ℕ) (s : Side) → Mem s ss → start s ≡ v → (Mem v seen → ⊥) → (t : Side) × Mem (entry t v) (entries seen n ss)
number_old seen n [] v s k e f = elim k [ ]
number_old seen n (t ∷ ss) v s k e f = go (taken seen n (start t)) (mem_cases k) (ℕ_discrete v (start t)) (λ k g. number_old (start t ∷ seen) n' ss v s k e g)
  where
    n' : ℕ
    n' = cond (has (start t) seen) (suc n) n

    m' : ℕ
    m' = cond (has (start t) seen) n (start t)

    head : Taken seen n (start t) m' n' → v ≡ start t → (r : Side) × Mem (entry r v) (entries seen n (t ∷ ss))
    head (inl h) i = absurd (f (mem_eq i h.2))
    head (inr h) i = (t, mem_eq (ap (λ z. entry t z) (i ∙ sym h.0)) now)

    go : Taken seen n (start t) m' n' → (s ≡ t) ⊎ Mem s ss → Dec (v ≡ start t) → (Mem s ss → (Mem v (start t ∷ seen) → ⊥) → (r : Side) × Mem (entry r v) (entries (start t ∷ seen) n' ss)) → (r : Side) × Mem (entry r v) (entries seen n (t ∷ ss))
    go h k (yes i) g = head h i
    go h (inl i) (no j) g = absurd (j (sym e ∙ ap start i))
    go h (inr k) (no j) g = let r = g k (λ m. ⊎_elim (λ i. j i) f (mem_cases m)) in (r.0, later r.1)

-- the parents of the new numbers
pub parents_counted : (seen : List ℕ) (n : ℕ) (ss : List Side) → unused seen n ss ≡ n + length (parents seen ss)
parents_counted seen n [] = omega arith
parents_counted seen n (s ∷ ss) = go (has (start s) seen) (λ n. parents_counted (start s ∷ seen) n ss)
  where
    go : (b : Bool) → ((n : ℕ) → unused (start s ∷ seen) n ss ≡ n + length (parents (start s ∷ seen) ss))
        → unused (start s ∷ seen) (cond b (suc n) n) ss ≡ n + length (cond b (start s ∷ parents (start s ∷ seen) ss) (parents (start s ∷ seen) ss))
    go true f = let h = f (suc n) in omega arith
    go false f = f n

pub parents_mem : (seen : List ℕ) (ss : List Side) (p : ℕ) → Mem p (parents seen ss) → (s : Side) × Mem s ss × (start s ≡ p)
parents_mem seen [] p m = elim m [ ]
parents_mem seen (s ∷ ss) p m = go (has (start s) seen) m (λ k. parents_mem (start s ∷ seen) ss p k)
  where
    go : (b : Bool) → Mem p (cond b (start s ∷ parents (start s ∷ seen) ss) (parents (start s ∷ seen) ss)) → (Mem p (parents (start s ∷ seen) ss) → (t : Side) × Mem t ss × (start t ≡ p)) → (t : Side) × Mem t (s ∷ ss) × (start t ≡ p)
    go true m f = ⊎_elim {C = (t : Side) × Mem t (s ∷ ss) × (start t ≡ p)} (λ (e : p ≡ start s). (s, now, sym e)) (λ k. let r = f k in (r.0, later r.1, r.2)) (mem_cases m)
    go false m f = let r = f m in (r.0, later r.1, r.2)

-- a number is its vertex, or new with its vertex as parent
pub number_parent : (seen : List ℕ) (n : ℕ) (ss : List Side) {s : Side} {m : ℕ} → Mem (entry s m) (entries seen n ss) → (m ≡ start s) ⊎ ((i : ℕ) × (m ≡ n + i) × (get_or (parents seen ss) i 0 ≡ start s))
number_parent seen n [] k = elim k [ ]
number_parent seen n (t ∷ ss) {s} {m} k = go (has (start t) seen) (mem_cases k) (λ n k. number_parent (start t ∷ seen) n ss k)
  where
    rest : List ℕ
    rest = parents (start t ∷ seen) ss

    go : (b : Bool) → (entry s m ≡ entry t (cond b n (start t))) ⊎ Mem (entry s m) (entries (start t ∷ seen) (cond b (suc n) n) ss)
        → ((n : ℕ) → Mem (entry s m) (entries (start t ∷ seen) n ss) → (m ≡ start s) ⊎ ((i : ℕ) × (m ≡ n + i) × (get_or rest i 0 ≡ start s)))
        → (m ≡ start s) ⊎ ((i : ℕ) × (m ≡ n + i) × (get_or (cond b (start t ∷ rest) rest) i 0 ≡ start s))
    go true (inl e) f = let a = entry_number e in inr (0, omega arith, ap start (sym (entry_side e)))
    go false (inl e) f = inl (entry_number e ∙ ap start (sym (entry_side e)))
    go true (inr k) f = ⊎_elim {C = (m ≡ start s) ⊎ ((i : ℕ) × (m ≡ n + i) × (get_or (start t ∷ rest) i 0 ≡ start s))} (λ e. inl e) (λ r. inr (suc r.0, omega (arith, r.1), r.2)) (f (suc n) k)
    go false (inr k) f = f n k
