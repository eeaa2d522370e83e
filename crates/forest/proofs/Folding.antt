-- The new numbers of the corners: a run gives that of the position that comes after it.
use Rattle.std.proofs.Common.{◌≡◌, ℕ, zero, suc, ◌-◌, ◌<◌, Bool, true, false, cond, List, [], ◌∷◌, ◌++◌, map, length, get_or, take, drop, sym, refl, ap, ◌∙◌, ⊎_elim, arith}
use Rattle.std.proofs.Math.Seq.{take-append_seam, drop-append_seam}
use Rattle.std.proofs.lemmas.List.{take-map, drop-map}
use Rattle.mesh.specs.Lists.{Mem, later, now}
use Rattle.mesh.specs.Triangles.{Tri}
use Rattle.mesh.specs.Sides.{Side, side}
use Rattle.forest.specs.Roots.{mirrored, root}
use Rattle.forest.specs.Loops.{around, hop, loop, loop_of, positions}
use Rattle.forest.specs.Numbering.{passes, renumber, renumber_all, run_numbers}
use Rattle.mesh.proofs.Members.{mem_cases, mem_left, mem_right, mem_split}
use Rattle.forest.proofs.Turning.{EdgesIn, Good}
use Rattle.forest.proofs.Forests.{Ready, tree_length, tree_mem, tree_round}
use Rattle.forest.proofs.Hops.{hop_next, next}
use Rattle.forest.proofs.Passing.{passed}

module _ {A : Type 0} (f : A → ℕ) where
  pub take_front : (xs ys : List A) → take (length xs) (map f (xs ++ ys)) ≡ map f xs
  take_front xs ys = take-map f (length xs) (xs ++ ys) ∙ ap (map f) (take-append_seam xs ys)

  pub drop_front : (xs ys : List A) → drop (length xs) (map f (xs ++ ys)) ≡ map f ys
  drop_front xs ys = drop-map f (length xs) (xs ++ ys) ∙ ap (map f) (drop-append_seam xs ys)

-- the numbers of a loop that comes round, turned by one, are those of the next sides
module _ (N : Side → Side) (f : Side → ℕ) where
  turned_on : (n : ℕ) (t d z : Side) → N (get_or (loop N (suc n) t) n d) ≡ z → map f (loop N n (N t)) ++ (f z ∷ []) ≡ map (λ s. f (N s)) (loop N (suc n) t)
  turned_on zero t d z e = ap (λ s. f s ∷ []) (sym e)
  turned_on (suc n) t d z e = ap (λ r. f (N t) ∷ r) (turned_on n (N t) d z e)

  pub loop_turned : (n : ℕ) (s d : Side) → N (get_or (loop N (suc n) s) n d) ≡ s → run_numbers (map f (loop N (suc n) s)) ≡ map (λ z. f (N z)) (loop N (suc n) s)
  loop_turned n s d e = turned_on n s d s e

map_same : {A B : Type 0} (f g : A → B) (xs : List A) → ((x : A) → Mem x xs → f x ≡ g x) → map f xs ≡ map g xs
map_same f g [] h = refl
map_same f g (x ∷ xs) h = let a = h x now in let b = map_same f g xs (λ x m. h x (later m)) in cc

-- one tree's runs
module _ (ts : List Tri) (ms : List Side) (b : Bool) (v x y : ℕ) (R : Side → ℕ) where
  renumber_keeps : (ss : List Side) (n : ℕ) → ((t : Side) → Mem t ss → passes ts ms b v x y t ≡ true → R t ≡ n) → renumber ts ms b ss (map R ss) v x y n ≡ n
  renumber_keeps [] n f = refl
  renumber_keeps (t ∷ ss) n f = go (passes ts ms b v x y t) refl (renumber_keeps ss n (λ t m. f t (later m)))
    where
      go : (c : Bool) → passes ts ms b v x y t ≡ c → renumber ts ms b ss (map R ss) v x y n ≡ n → renumber ts ms b ss (map R ss) v x y (cond c (R t) n) ≡ n
      go true e r = ap (renumber ts ms b ss (map R ss) v x y) (f t now e) ∙ r
      go false e r = r

  renumber_found : (ss : List Side) (n w : ℕ) {s : Side} → Mem s ss → passes ts ms b v x y s ≡ true → ((t : Side) → Mem t ss → passes ts ms b v x y t ≡ true → R t ≡ n) → renumber ts ms b ss (map R ss) v x y w ≡ n
  renumber_found [] n w m e f = elim m [ ]
  renumber_found (t ∷ ss) n w {s} m e f = ⊎_elim head (λ k. renumber_found ss n (cond (passes ts ms b v x y t) (R t) w) k e (λ t m. f t (later m))) (mem_cases m)
    where
      head : s ≡ t → renumber ts ms b ss (map R ss) v x y (cond (passes ts ms b v x y t) (R t) w) ≡ n
      head i =
          let p : passes ts ms b v x y t ≡ true = ap (passes ts ms b v x y) (sym i) ∙ e in
          ap (λ c. renumber ts ms b ss (map R ss) v x y (cond c (R t) w)) p ∙ (ap (renumber ts ms b ss (map R ss) v x y) (f t now p) ∙ renumber_keeps ss n (λ t m. f t (later m)))

-- all trees
module _ (V : ℕ) (ts : List Tri) (ms : List Side) (g : Good V ts) (edges : EdgesIn ts ms) (number : Side → ℕ) where
  pub runs_numbered : (k : ℕ) → Ready ts ms k → run_numbers (map number (loop_of ts ms k)) ≡ map (λ s. number (next ts ms s)) (loop_of ts ms k)
  runs_numbered k ready =
      full (around ms k) (omega (arith, ready.0)) (tree_round V ts ms g edges k ready)
      ∙ map_same (λ s. number (hop ts ms (mirrored ts ms k) s)) (λ s. number (next ts ms s)) (loop_of ts ms k) (λ s m. ap number (hop_next V ts ms g edges k s (tree_mem V ts ms g edges k ready s m)))
    where
      N : Side → Side
      N s = hop ts ms (mirrored ts ms k) s

      full : (n : ℕ) → 0 < n → N (get_or (loop N n (root ms k)) (n - 1) (side 0 0)) ≡ get_or (loop N n (root ms k)) 0 (side 0 0)
          → run_numbers (map number (loop N n (root ms k))) ≡ map (λ z. number (N z)) (loop N n (root ms k))
      full zero h e = absurd (omega arith)
      full (suc n) h e = let i : suc n - 1 ≡ n = omega arith in loop_turned N number n (root ms k) (side 0 0) (ap (λ j. N (get_or (loop N (suc n) (root ms k)) j (side 0 0))) (sym i) ∙ e)

  pub take_loop : (k : ℕ) → Ready ts ms k → (ss : List Side) → take (around ms k) (map number (loop_of ts ms k ++ ss)) ≡ map number (loop_of ts ms k)
  take_loop k ready ss = ap (λ n. take n (map number (loop_of ts ms k ++ ss))) (sym (tree_length V ts ms g edges k ready)) ∙ take_front number (loop_of ts ms k) ss

  pub drop_loop : (k : ℕ) → Ready ts ms k → (ss : List Side) → drop (around ms k) (map number (loop_of ts ms k ++ ss)) ≡ map number ss
  drop_loop k ready ss = ap (λ n. drop n (map number (loop_of ts ms k ++ ss))) (sym (tree_length V ts ms g edges k ready)) ∙ drop_front number (loop_of ts ms k) ss

  module _ (v x y : ℕ) where
    -- one tree, then the others
    one_tree : (k : ℕ) (ks : List ℕ) → Ready ts ms k → (w : ℕ) → renumber_all ts ms (k ∷ ks) (map number (positions ts ms (k ∷ ks))) v x y w
        ≡ renumber_all ts ms ks (map number (positions ts ms ks)) v x y (renumber ts ms (mirrored ts ms k) (loop_of ts ms k) (map (λ s. number (next ts ms s)) (loop_of ts ms k)) v x y w)
    one_tree k ks ready w =
        ap (λ ns. renumber_all ts ms ks ns v x y (renumber ts ms (mirrored ts ms k) (loop_of ts ms k) (run_numbers (take (around ms k) (map number (positions ts ms (k ∷ ks))))) v x y w)) (drop_loop k ready (positions ts ms ks))
        ∙ ap (λ ns. renumber_all ts ms ks (map number (positions ts ms ks)) v x y (renumber ts ms (mirrored ts ms k) (loop_of ts ms k) ns v x y w)) (ap run_numbers (take_loop k ready (positions ts ms ks)) ∙ runs_numbered k ready)

    as_read : (k : ℕ) → Ready ts ms k → (t : Side) → Mem t (loop_of ts ms k) → passes ts ms (mirrored ts ms k) v x y t ≡ passed ts ms v x y t
    as_read k ready t m = ap (λ i. passes ts ms (mirrored ts ms i) v x y t) (sym (tree_mem V ts ms g edges k ready t m).1)

    pub all_keep : (ks : List ℕ) → ((k : ℕ) → Mem k ks → Ready ts ms k) → (n : ℕ) → ((t : Side) → Mem t (positions ts ms ks) → passed ts ms v x y t ≡ true → number (next ts ms t) ≡ n) → renumber_all ts ms ks (map number (positions ts ms ks)) v x y n ≡ n
    all_keep [] ready n f = refl
    all_keep (k ∷ ks) ready n f =
        one_tree k ks (ready k now) n
        ∙ (ap (renumber_all ts ms ks (map number (positions ts ms ks)) v x y) (renumber_keeps ts ms (mirrored ts ms k) v x y (λ s. number (next ts ms s)) (loop_of ts ms k) n (λ t m e. f t (mem_left (positions ts ms ks) m) (sym (as_read k (ready k now) t m) ∙ e)))
        ∙ all_keep ks (λ i m. ready i (later m)) n (λ t m e. f t (mem_right (loop_of ts ms k) m) e))

    pub all_found : (ks : List ℕ) → ((k : ℕ) → Mem k ks → Ready ts ms k) → (n w : ℕ) {s : Side} → Mem s (positions ts ms ks) → passed ts ms v x y s ≡ true
        → ((t : Side) → Mem t (positions ts ms ks) → passed ts ms v x y t ≡ true → number (next ts ms t) ≡ n) → renumber_all ts ms ks (map number (positions ts ms ks)) v x y w ≡ n
    all_found [] ready n w m e f = elim m [ ]
    all_found (k ∷ ks) ready n w {s} m e f = one_tree k ks (ready k now) w ∙ ⊎_elim mine (λ q. all_found ks (λ i m. ready i (later m)) n after_one q e (λ t m e. f t (mem_right (loop_of ts ms k) m) e)) (mem_split (loop_of ts ms k) m)
      where
        after_one : ℕ
        after_one = renumber ts ms (mirrored ts ms k) (loop_of ts ms k) (map (λ s. number (next ts ms s)) (loop_of ts ms k)) v x y w

        mine : Mem s (loop_of ts ms k) → renumber_all ts ms ks (map number (positions ts ms ks)) v x y after_one ≡ n
        mine m =
            ap (renumber_all ts ms ks (map number (positions ts ms ks)) v x y) (renumber_found ts ms (mirrored ts ms k) v x y (λ s. number (next ts ms s)) (loop_of ts ms k) n w m (as_read k (ready k now) s m ∙ e)
            (λ t m e. f t (mem_left (positions ts ms ks) m) (sym (as_read k (ready k now) t m) ∙ e)))
            ∙ all_keep ks (λ i m. ready i (later m)) n (λ t m e. f t (mem_right (loop_of ts ms k) m) e)
