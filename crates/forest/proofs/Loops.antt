-- A loop that does not come round early passes each side of its tree once.
use Rattle.std.proofs.Common.{◌≡◌, ℕ, zero, suc, ◌<◌, ◌≤◌, ◌⊎◌, List, [], ◌∷◌, length, get_or, sym, refl, ap, ◌∙◌, inl, inr, ⊎_elim, arith}
use Rattle.mesh.specs.Lists.{Mem, now, later, Apart, no_one, one_more}
use Rattle.mesh.specs.Sides.{Side}
use Rattle.forest.specs.Loops.{loop}
use Rattle.mesh.proofs.Members.{mem_cases, apart_covers, mem_eq}

module _ {A : Type 0} where
  pub nth_mem : (xs : List A) (d : A) (i : ℕ) → i < length xs → Mem (get_or xs i d) xs
  nth_mem [] d i h = absurd (omega arith)
  nth_mem (x ∷ xs) d zero h = now
  nth_mem (x ∷ xs) d (suc i) h = later (nth_mem xs d i (omega arith))

  pub mem_nth : {z : A} {xs : List A} (d : A) → Mem z xs → (i : ℕ) × (i < length xs) × (get_or xs i d ≡ z)
  mem_nth d now = (0, omega arith, refl)
  mem_nth d (later m) = let k = mem_nth d m in (suc k.0, omega (arith, k.1), k.2)

  pub nth_apart : (d : A) {xs : List A} → Apart xs → (i j : ℕ) → i < length xs → j < length xs → get_or xs i d ≡ get_or xs j d → i ≡ j
  nth_apart d no_one i j h k e = absurd (omega arith)
  nth_apart d (one_more n a) zero zero h k e = refl
  nth_apart d (one_more {x} {xs} n a) zero (suc j) h k e = absurd (n (rw e (nth_mem xs d j (omega arith))))
  nth_apart d (one_more {x} {xs} n a) (suc i) zero h k e = absurd (n (rw (sym e) (nth_mem xs d i (omega arith))))
  nth_apart d (one_more n a) (suc i) (suc j) h k e = ap suc (nth_apart d a i j (omega arith) (omega arith) e)

module _ (N : Side → Side) where
  pub loop_length : (n : ℕ) (s : Side) → length (loop N n s) ≡ n
  loop_length zero s = refl
  loop_length (suc n) s = ap suc (loop_length n (N s))

  loop_back : (n : ℕ) (t y : Side) → Mem y (loop N n (N t)) → (z : Side) × Mem z (loop N n t) × (y ≡ N z)
  loop_back zero t y m = elim m [ ]
  loop_back (suc n) t y m = go (mem_cases m) (λ k. loop_back n (N t) y k)
    where
      go : (y ≡ N t) ⊎ Mem y (loop N n (N (N t))) → (Mem y (loop N n (N (N t))) → (z : Side) × Mem z (loop N n (N t)) × (y ≡ N z)) → (z : Side) × Mem z (loop N (suc n) t) × (y ≡ N z)
      go (inl e) f = (t, now, e)
      go (inr k) f = let r = f k in (r.0, later r.1, r.2)

  loop_longer : (n : ℕ) (t z : Side) → Mem z (loop N n t) → Mem z (loop N (suc n) t)
  loop_longer zero t z m = elim m [ ]
  loop_longer (suc n) t z m = ⊎_elim (λ (e : z ≡ t). rw e now) (λ k. later (loop_longer n (N t) z k)) (mem_cases m)

  pub nth_next : (n : ℕ) (s d : Side) (i : ℕ) → suc i < n → get_or (loop N n s) (suc i) d ≡ N (get_or (loop N n s) i d)
  nth_next zero s d i h = absurd (omega arith)
  nth_next (suc zero) s d i h = absurd (omega arith)
  nth_next (suc (suc n)) s d zero h = refl
  nth_next (suc (suc n)) s d (suc i) h = nth_next (suc n) (N s) d i (omega arith)

  module _ (P : Side → Type 0) (step : (s : Side) → P s → P (N s)) (inj : (s t : Side) → P s → P t → N s ≡ N t → s ≡ t) where
    pub loop_all : (n : ℕ) (s z : Side) → P s → Mem z (loop N n s) → P z
    loop_all zero s z p m = elim m [ ]
    loop_all (suc n) s z p m = ⊎_elim (λ (e : z ≡ s). rw e p) (λ k. loop_all n (N s) z (step s p) k) (mem_cases m)

    pub loop_apart : (n : ℕ) (s : Side) → P s → (Mem s (loop N n (N s)) → ⊥) → Apart (loop N (suc n) s)
    loop_apart zero s p f = one_more (λ m. elim m [ ]) no_one
    loop_apart (suc n) s p f = one_more f (loop_apart n (N s) (step s p) (λ m. again (loop_back n (N s) (N s) m)))
      where
        again : (z : Side) × Mem z (loop N n (N s)) × (N s ≡ N z) → ⊥
        again r =
            let q = loop_all n (N s) r.0 (step s p) r.1 in
            let e = inj s r.0 p q r.2 in
            f (mem_eq e (loop_longer n (N s) r.0 r.1))

    -- a list of the sides, no longer than the loop: the loop passes them all, and comes round
    module _ (n : ℕ) (s : Side) (p : P s) (f : Mem s (loop N n (N s)) → ⊥) (all : List Side) (in_all : (z : Side) → P z → Mem z all) (all_in : (z : Side) → Mem z all → P z) (few : length all ≤ suc n) where
      pub loop_covers : (z : Side) → P z → Mem z (loop N (suc n) s)
      loop_covers z q = apart_covers all (loop_apart n s p f) (λ z m. in_all z (loop_all (suc n) s z p m)) (let e = loop_length (suc n) s in omega arith) z (in_all z q)

      pub loop_round : (d : Side) → N (get_or (loop N (suc n) s) n d) ≡ s
      loop_round d = go (mem_nth d (loop_covers (N last) (step last q)))
        where
          last : Side
          last = get_or (loop N (suc n) s) n d

          len : length (loop N (suc n) s) ≡ suc n
          len = loop_length (suc n) s

          q : P last
          q = loop_all (suc n) s last p (nth_mem (loop N (suc n) s) d n (let e = len in omega arith))

          go : (i : ℕ) × (i < length (loop N (suc n) s)) × (get_or (loop N (suc n) s) i d ≡ N last) → N last ≡ s
          go r = at r.0 (let e = len in omega (arith, r.1)) r.2
            where
              at : (i : ℕ) → i < suc n → get_or (loop N (suc n) s) i d ≡ N last → N last ≡ s
              at zero h e = sym e
              at (suc i) h e =
                  let a = nth_next (suc n) s d i h in
                  let x = get_or (loop N (suc n) s) i d in
                  let px = loop_all (suc n) s x p (nth_mem (loop N (suc n) s) d i (let l = len in omega arith)) in
                  let b = inj x last px q (sym a ∙ e) in
                  let c = nth_apart d (loop_apart n s p f) i n (let l = len in omega arith) (let l = len in omega arith) b in
                  absurd (omega arith)
