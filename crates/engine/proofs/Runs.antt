-- A run's corners take its number one after another, and so do the runs of a tree and of all trees.
use Rattle.std.proofs.Common.{◌≡◌, ℕ, zero, suc, ◌+◌, ◌-◌, ◌<◌, ◌≤◌, Bool, true, false, cond, ◌&&◌, ◌||◌, eqb, List, [], ◌∷◌, ◌++◌, map, take, drop, sym, refl, ap, ◌∙◌, arith}
use Rattle.std.proofs.lemmas.List.{take-append-drop, append-nil}
use Rattle.mesh.specs.Triangles.{Tri}
use Rattle.mesh.specs.Sides.{Side, side}
use Rattle.forest.specs.Marks.{same_side, has_side, is_marked}
use Rattle.forest.specs.Loops.{read_as, apex, run}
use Rattle.forest.specs.Numbering.{renamed}
use Rattle.forest.proofs.Naming.{renamed_same}
use Rattle.engine.specs.Corners.{Renumbers, is_corner}

-- one change after another
pub then_numbers : (ts : List Tri) (a b c : List ℕ) (g h k : ℕ → ℕ → ℕ → ℕ → ℕ) → Renumbers ts a b g → Renumbers ts b c h → ((x y z w : ℕ) → h x y z (g x y z w) ≡ k x y z w) → Renumbers ts a c k
then_numbers ts a b c g h k p q e f w =
    q (λ x y z. g x y z (f x y z)) (p f w)
    ∙ renamed_same (λ x y z. h x y z (g x y z (f x y z))) (λ x y z. k x y z (f x y z)) ts (λ x y z l. e x y z (f x y z))

pub same_numbers : (ts : List Tri) (a : List ℕ) (k : ℕ → ℕ → ℕ → ℕ → ℕ) → ((x y z w : ℕ) → w ≡ k x y z w) → Renumbers ts a a k
same_numbers ts a k e f w = w ∙ renamed_same f (λ x y z. k x y z (f x y z)) ts (λ x y z l. e x y z (f x y z))

-- a list from what is left of it
drop_one : {X : Type 0} (i : ℕ) (xs rest : List X) (x : X) → drop i xs ≡ x ∷ rest → (take (suc i) xs ≡ take i xs ++ x ∷ []) × (drop (suc i) xs ≡ rest)
drop_one zero [] rest x e = absurd (cc)
drop_one zero (y ∷ xs) rest x e = let d : y ≡ x = cc in (ap (λ z. z ∷ []) d, (cc))
drop_one (suc i) [] rest x e = absurd (cc)
drop_one (suc i) (y ∷ xs) rest x e = let k = drop_one i xs rest x e in (ap (λ zs. y ∷ zs) k.0, k.1)

drop_next : {X : Type 0} (i : ℕ) (xs rest : List X) (x : X) → drop i xs ≡ x ∷ rest → (take (i + 1) xs ≡ take i xs ++ x ∷ []) × (drop (i + 1) xs ≡ rest)
drop_next i xs rest x e =
    let z : i + 1 ≡ suc i = omega arith in
    let d = drop_one i xs rest x e in (ap (λ j. take j xs) z ∙ d.0, ap (λ j. drop j xs) z ∙ d.1)

pub none_left : {X : Type 0} (i : ℕ) (xs : List X) → drop i xs ≡ [] → take i xs ≡ xs
none_left i xs e = sym (append-nil (take i xs)) ∙ (ap (λ ys. take i xs ++ ys) (sym e) ∙ take-append-drop i xs)

-- the corner is among the listed ones at v
abbrev pub taken : Bool → ℕ → List Side → ℕ → ℕ → ℕ → Bool
taken m v cs x y z = eqb v x && has_side (cond m (side z y) (side y z)) cs

has_side_more : (c s : Side) (cs : List Side) → has_side c (cs ++ s ∷ []) ≡ (has_side c cs || same_side c s)
has_side_more c s [] = go (same_side c s)
  where
    go : (b : Bool) → (b || false) ≡ b
    go true = refl
    go false = refl
has_side_more c s (t ∷ cs) = ap (λ b. same_side c t || b) (has_side_more c s cs) ∙ go (same_side c t) (has_side c cs) (same_side c s)
  where
    go : (a b d : Bool) → (a || (b || d)) ≡ (a || b || d)
    go true b d = refl
    go false b d = refl

taken_more : (p a b : Bool) (n w : ℕ) → cond (p && b) n (cond (p && a) n w) ≡ cond (p && (a || b)) n w
taken_more true true true n w = refl
taken_more true true false n w = refl
taken_more true false true n w = refl
taken_more true false false n w = refl
taken_more false a b n w = refl

-- what the walk of a run has done: the corners of the run's first i have the number n, and the rest is to come
pub record Walked (ts : List Tri) (ms : List Side) (m : Bool) (N u v n i at : ℕ) (old new : List ℕ) : Type 0 where
  pub left : drop i (run N (read_as m ts) ms u v) ≡ run (N - i) (read_as m ts) ms at v
  pub done : Renumbers ts old new (λ x y z w. cond (taken m v (take i (run N (read_as m ts) ms u v)) x y z) n w)

pub walked_none : (ts : List Tri) (ms : List Side) (m : Bool) (N u v n : ℕ) (ws : List ℕ) → Walked ts ms m N u v n 0 u ws ws
walked_none ts ms m N u v n ws =
    let z : N - 0 ≡ N = omega arith in
    record { left = ap (λ k. run k (read_as m ts) ms u v) (sym z); done = same_numbers ts ws _ (λ x y z w. go (eqb v x) w) }
  where
    go : (b : Bool) (w : ℕ) → w ≡ cond (b && false) n w
    go true w = refl
    go false w = refl

module _ (ts : List Tri) (ms : List Side) (m : Bool) (N u v n i at x : ℕ) (old new after : List ℕ) (k : Walked ts ms m N u v n i at old new) (h : i < N)
    (q : x ≡ apex (read_as m ts) at v) (set : Renumbers ts new after (λ a b c w. cond (is_corner ts m at v a b c) n w)) where
  abbrev us : List Tri
  us = read_as m ts

  abbrev R : List Side
  R = run N us ms u v

  here : drop i R ≡ side x at ∷ cond (is_marked ms v x) [] (run (N - (i + 1)) us ms x v)
  here =
      let z : N - i ≡ suc (N - (i + 1)) = omega arith in
      k.left ∙ (ap (λ j. run j us ms at v) z ∙ ap (λ y. side y at ∷ cond (is_marked ms v y) [] (run (N - (i + 1)) us ms y v)) (sym q))

  one : (take (i + 1) R ≡ take i R ++ side x at ∷ []) × (drop (i + 1) R ≡ cond (is_marked ms v x) [] (run (N - (i + 1)) us ms x v))
  one = drop_next i R (cond (is_marked ms v x) [] (run (N - (i + 1)) us ms x v)) (side x at) here

  more : Renumbers ts old after (λ a b c w. cond (taken m v (take (i + 1) R) a b c) n w)
  more = then_numbers ts old new after (λ a b c w. cond (taken m v (take i R) a b c) n w) (λ a b c w. cond (is_corner ts m at v a b c) n w) (λ a b c w. cond (taken m v (take (i + 1) R) a b c) n w) k.done set (λ a b c w. go a b c w)
    where
      go : (a b c w : ℕ) → cond (is_corner ts m at v a b c) n (cond (taken m v (take i R) a b c) n w) ≡ cond (taken m v (take (i + 1) R) a b c) n w
      go a b c w =
          let s = cond m (side c b) (side b c) in
          ap (λ y. cond (eqb v a && same_side s (side y at)) n (cond (taken m v (take i R) a b c) n w)) (sym q)
          ∙ (taken_more (eqb v a) (has_side s (take i R)) (same_side s (side x at)) n w
          ∙ (ap (λ t. cond (eqb v a && t) n w) (sym (has_side_more s (side x at) (take i R)))
          ∙ ap (λ cs. cond (taken m v cs a b c) n w) (sym one.0)))

  pub walked_more : is_marked ms v x ≡ false → Walked ts ms m N u v n (i + 1) x old after
  walked_more f = record { left = one.1 ∙ ap (λ b. cond b [] (run (N - (i + 1)) us ms x v)) f; done = more }

  all : {cs : List Side} → take (i + 1) R ≡ cs → Renumbers ts old after (λ a b c w. cond (taken m v cs a b c) n w)
  all e f w = more f w ∙ ap (λ cs. map (renamed (λ a b c. cond (taken m v cs a b c) n (f a b c))) ts) e

  pub walked_here : is_marked ms v x ≡ true → Renumbers ts old after (λ a b c w. cond (taken m v R a b c) n w)
  walked_here f = all (none_left (i + 1) R (one.1 ∙ ap (λ b. cond b [] (run (N - (i + 1)) us ms x v)) f))

pub walked_all : (ts : List Tri) (ms : List Side) (m : Bool) (N u v n i at : ℕ) (old new : List ℕ) → Walked ts ms m N u v n i at old new → N ≤ i
    → Renumbers ts old new (λ a b c w. cond (taken m v (run N (read_as m ts) ms u v) a b c) n w)
walked_all ts ms m N u v n i at old new k h f w =
    let z : N - i ≡ 0 = omega arith in
    let e = none_left i (run N (read_as m ts) ms u v) (k.left ∙ ap (λ j. run j (read_as m ts) ms at v) z) in
    k.done f w ∙ ap (λ cs. map (renamed (λ a b c. cond (taken m v cs a b c) n (f a b c))) ts) e
