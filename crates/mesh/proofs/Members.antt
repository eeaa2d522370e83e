-- Members of lists, and lists without repetition.
use Rattle.std.proofs.Common.{◌≡◌, suc, ◌≤◌, Bool, true, false, cond, ◌⊎◌, List, [], ◌∷◌, ◌++◌, map, length, filter, refl, ap, ◌∙◌, inl, inr, ⊎_elim, arith}
use Rattle.mesh.specs.Lists.{Mem, now, later, Apart, no_one, one_more}

module _ {A : Type 0} where
  pub mem_cases : {x z : A} {xs : List A} → Mem z (x ∷ xs) → (z ≡ x) ⊎ Mem z xs
  mem_cases now = inl refl
  mem_cases (later m) = inr m

  -- the list without one element
  abbrev without : {x : A} {xs : List A} → Mem x xs → List A
  without (now {xs = xs}) = xs
  without (later {y = y} m) = y ∷ without m

  length_without : {x : A} {xs : List A} (m : Mem x xs) → length xs ≡ suc (length (without m))
  length_without now = refl
  length_without (later m) = ap suc (length_without m)

  mem_without : {x z : A} {xs : List A} (m : Mem x xs) → Mem z xs → (z ≡ x) ⊎ Mem z (without m)
  mem_without now now = inl refl
  mem_without now (later k) = inr k
  mem_without (later m) now = inr now
  mem_without (later m) (later k) = ⊎_elim (λ e. inl e) (λ k. inr (later k)) (mem_without m k)

  abbrev pub Within : List A → List A → Type 0
  Within xs ys = (z : A) → Mem z xs → Mem z ys

  within_without : {x : A} (xs : List A) {ys : List A} (m : Mem x ys) → (Mem x xs → ⊥) → Within xs ys → Within xs (without m)
  within_without {x} xs m f w z k = ⊎_elim (λ (e : z ≡ x). absurd (f (rw e at k))) (λ h. h) (mem_without m (w z k))

  -- the pigeonhole: what has no room to spare is covered
  pub apart_covers : {xs : List A} (ys : List A) → Apart xs → Within xs ys → length ys ≤ length xs → Within ys xs
  apart_covers [] no_one w h z k = k
  apart_covers (y ∷ ys) no_one w h z k = absurd (omega arith)
  apart_covers ys (one_more {x} {xs} f a) w h z k =
      let m = w x now in
      let e = length_without m in
      let h' : length (without m) ≤ length xs = omega arith in
      ⊎_elim (λ (i : z ≡ x). rw i now) (λ i. later (apart_covers (without m) a (within_without xs m f (λ z k. w z (later k))) h' z i)) (mem_without m k)

  -- a list without repetition, sent into ys by g, is no longer than ys
  module _ (g : A → A) (inj : (x z : A) → g x ≡ g z → x ≡ z) where
    sent_without : {x : A} (xs : List A) {ys : List A} (m : Mem (g x) ys) → (Mem x xs → ⊥) → ((z : A) → Mem z xs → Mem (g z) ys) → (z : A) → Mem z xs → Mem (g z) (without m)
    sent_without {x} xs m f w z k = ⊎_elim (λ (e : g z ≡ g x). absurd (f (rw (inj z x e) at k))) (λ h. h) (mem_without m (w z k))

    pub apart_le : {xs : List A} (ys : List A) → Apart xs → ((z : A) → Mem z xs → Mem (g z) ys) → length xs ≤ length ys
    apart_le ys no_one w = omega arith
    apart_le ys (one_more {x} {xs} f a) w =
        let m = w x now in
        let h = apart_le (without m) a (sent_without xs m f (λ z k. w z (later k))) in
        let e = length_without m in omega arith

  module _ (p : A → Bool) where
    pub kept_mem : {z : A} (xs : List A) → Mem z (filter p xs) → Mem z xs × (p z ≡ true)
    kept_mem [] m = elim m [ ]
    kept_mem {z} (x ∷ xs) m = go (p x) refl m (λ k. kept_mem xs k)
      where
        go : (b : Bool) → p x ≡ b → Mem z (cond b (x ∷ filter p xs) (filter p xs)) → (Mem z (filter p xs) → Mem z xs × (p z ≡ true)) → Mem z (x ∷ xs) × (p z ≡ true)
        go true e k f = ⊎_elim {C = Mem z (x ∷ xs) × (p z ≡ true)} (λ (i : z ≡ x). (rw i now, ap p i ∙ e)) (λ k. (later (f k).0, (f k).1)) (mem_cases k)
        go false e k f = (later (f k).0, (f k).1)

    pub mem_kept : {z : A} {xs : List A} → Mem z xs → p z ≡ true → Mem z (filter p xs)
    mem_kept {z} (now {xs = xs}) e = rw e now
    mem_kept {z} (later {y = y} {xs = xs} m) e = go (p y) (mem_kept m e)
      where
        go : (b : Bool) → Mem z (filter p xs) → Mem z (cond b (y ∷ filter p xs) (filter p xs))
        go true k = later k
        go false k = k

    pub kept_apart : {xs : List A} → Apart xs → Apart (filter p xs)
    kept_apart no_one = no_one
    kept_apart (one_more {x} {xs} f a) = go (p x) (kept_apart a)
      where
        go : (b : Bool) → Apart (filter p xs) → Apart (cond b (x ∷ filter p xs) (filter p xs))
        go true k = one_more (λ m. f (kept_mem xs m).0) k
        go false k = k

module _ {A : Type 0} where
  pub mem_left : {s : A} {xs : List A} (ys : List A) → Mem s xs → Mem s (xs ++ ys)
  mem_left ys now = now
  mem_left ys (later m) = later (mem_left ys m)

  pub mem_right : {s : A} (xs : List A) {ys : List A} → Mem s ys → Mem s (xs ++ ys)
  mem_right [] m = m
  mem_right (x ∷ xs) m = later (mem_right xs m)

  pub mem_split : {s : A} (xs : List A) {ys : List A} → Mem s (xs ++ ys) → Mem s xs ⊎ Mem s ys
  mem_split [] m = inr m
  mem_split (x ∷ xs) now = inl now
  mem_split (x ∷ xs) (later m) = ⊎_elim (λ k. inl (later k)) (λ k. inr k) (mem_split xs m)

  pub mem_eq : {s t : A} {xs : List A} → s ≡ t → Mem t xs → Mem s xs
  mem_eq e m = rw e m

  pub apart_append : {xs ys : List A} → Apart xs → Apart ys → ((z : A) → Mem z xs → Mem z ys → ⊥) → Apart (xs ++ ys)
  apart_append no_one b f = b
  apart_append {ys = ys} (one_more {x} {xs} n a) b f = one_more (λ m. ⊎_elim n (λ k. f x now k) (mem_split xs m)) (apart_append a b (λ z m k. f z (later m) k))

module _ {A B : Type 0} (f : A → B) where
  pub mem_map : {s : A} {xs : List A} → Mem s xs → Mem (f s) (map f xs)
  mem_map now = now
  mem_map (later m) = later (mem_map m)

  pub map_mem : {t : B} (xs : List A) → Mem t (map f xs) → (s : A) × Mem s xs × (t ≡ f s)
  map_mem [] m = elim m [ ]
  map_mem {t} (x ∷ xs) m = ⊎_elim {C = (s : A) × Mem s (x ∷ xs) × (t ≡ f s)} (λ (e : t ≡ f x). (x, now, e)) (λ k. let r = map_mem xs k in (r.0, later r.1, r.2)) (mem_cases m)

-- two lists without repetition that have the same members are equally long
pub same_length : {A : Type 0} {xs ys : List A} → Apart xs → Apart ys → ((z : A) → Mem z xs → Mem z ys) → ((z : A) → Mem z ys → Mem z xs) → length xs ≡ length ys
same_length {A} {xs} {ys} a b f g =
    let p = apart_le (λ (z : A). z) (λ x z i. i) ys a f in
    let q = apart_le (λ (z : A). z) (λ x z i. i) xs b g in omega arith
