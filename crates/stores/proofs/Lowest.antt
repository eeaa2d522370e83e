-- The lowest triangle along a chain is the lowest of all.
use Rattle.std.proofs.Common.{◌≡◌, ℕ, ◌+◌, ◌*◌, ◌/◌, ◌<◌, ◌≤◌, min, Bool, true, false, eqb, ltb, List, [], ◌∷◌, map, length, get_or, is_some, Some, None, Option, sym, refl, ap, ◌∙◌, arith}
use borrow.Author.Tests.{clash}
use Rattle.std.specs.List.{slice_get, filter, fold, reduce}
use Rattle.std.proofs.lemmas.Bool.{and_from, eq-eqb, lt-ltb}
use Rattle.std.proofs.lemmas.Bool.Decides.{nat_tests}
use Rattle.std.proofs.lemmas.Option.{slice_get-get_or, slice_get_within}
use Rattle.mesh.specs.Triangles.{Tri, tri}
use Rattle.mesh.specs.Sides.{corner_of, side_of}
use Rattle.mesh.specs.Rings.{Corner}
use Rattle.mesh.proofs.Tests.{some_inj, none_some}
use Rattle.mesh.proofs.Links.{corner_there, there_corner, found, lowest}
use Rattle.stores.specs.declared.chain_record.ChainTriangle.{ChainTriangle}
use Rattle.stores.specs.Records.{front}
use Rattle.stores.specs.Chains.{walk, one, times, no_triangle, corners_in, corner_in, vertex_at, next_at, Holds}
use Rattle.stores.proofs.Counts.{one_self, one_below}
use Rattle.stores.proofs.Fronts.{length_front, front_there}

-- what was found, if anything, is below n and has the side
abbrev Fine : ℕ → (ℕ → Bool) → Option ℕ → Type 0
Fine n p None = Unit {0}
Fine n p (Some b) = (b < n) × (p b ≡ true)

-- something was found, and it is no higher than t
abbrev Under : Option ℕ → ℕ → Type 0
Under None t = ⊥
Under (Some b) t = b ≤ t

some_is : {A : Type 0} (o : Option A) → is_some o ≡ true → (x : A) × (o ≡ Some x)
some_is None e = absurd (clash e)
some_is (Some x) e = (x, refl)

side_there : (u v : ℕ) (t : Tri) → is_some (corner_of u v t) ≡ true → (y : ℕ) × Corner t u v y
side_there u v t e = let s = some_is (corner_of u v t) e in corner_there u v s.0 t s.1

-- a find that is no higher than any triangle with the side is what the side question finds
side_least : (ts : List Tri) (u v : ℕ) (p : ℕ → Bool) (o : Option ℕ) → ((j : ℕ) → j < length ts → (t : Tri) × (slice_get ts j ≡ Some t) × (is_some (corner_of u v t) ≡ p j)) → Fine (length ts) p o → ((j : ℕ) → j < length ts → p j ≡ true → Under o j) → o ≡ side_of ts u v
side_least ts u v p o at fine under = go o fine under (side_of ts u v) refl
  where
    least : (b : ℕ) → b < length ts → p b ≡ true → (k : ℕ) × (k ≤ b) × (side_of ts u v ≡ Some k)
    least b l e = let t = at b l in let c = side_there u v t.0 (t.2 ∙ e) in lowest ts u v b t.0 t.1 c.1

    held : (k : ℕ) → side_of ts u v ≡ Some k → (k < length ts) × (p k ≡ true)
    held k e =
        let q = found ts u v k e in
        let l : k < length ts = slice_get_within ts k q.one q.there_is in
        let t = at k l in
        let c = there_corner q.one q.corner in
        let i : t.0 ≡ q.one = some_inj (sym t.1 ∙ q.there_is) in
        (l, sym t.2 ∙ ap (λ x. is_some (corner_of u v x)) i ∙ ap is_some c.1)

    go : (o : Option ℕ) → Fine (length ts) p o → ((j : ℕ) → j < length ts → p j ≡ true → Under o j) → (s : Option ℕ) → side_of ts u v ≡ s → o ≡ s
    go None f n None e = refl
    go None f n (Some k) e = let h = held k e in absurd (n k h.0 h.1)
    go (Some b) f n None e = let c = least b f.0 f.1 in none_some (sym e ∙ c.2)
    go (Some b) f n (Some k) e =
        let h = held k e in
        let c = least b f.0 f.1 in
        let i : k ≡ c.0 = some_inj (sym e ∙ c.2) in
        let m : b ≤ k = n k h.0 h.1 in
        let q : b ≡ k = omega (arith, c.1) in
        ap Some q

fold_min_le : (b : ℕ) (xs : List ℕ) → fold min b xs ≤ b
fold_min_le b [] = omega arith
fold_min_le b (x ∷ xs) = let l = fold_min_le (min b x) xs in omega arith

min_has : (p : ℕ → Bool) (b t : ℕ) → p b ≡ true → p t ≡ true → p (min b t) ≡ true
min_has p b t e d = grind (arith, nat_tests)

-- the lowest of b and the triangles of the corners of which p holds
along_fine : (n : ℕ) (p : ℕ → Bool) (b : ℕ) (is : List ℕ) → b < n → p b ≡ true → ((i : ℕ) → 0 < times i is → i / 3 < n) → Fine n p (Some (fold min b (filter p (map (λ i. i / 3) is))))
along_fine n p b [] l e low = (l, e)
along_fine n p b (i ∷ is) l e low =
    let here : i / 3 < n = low i (omega (arith, one_self i)) in
    let rest : (j : ℕ) → 0 < times j is → j / 3 < n = λ j k. low j (omega arith) in
    let m = along_fine n p (min b (i / 3)) is (omega arith) in
    let k = along_fine n p b is l e rest in
    let h = min_has p b (i / 3) e in
    grind (arith, nat_tests)

along_under : (p : ℕ → Bool) (b j : ℕ) (is : List ℕ) → 0 < times j is → p (j / 3) ≡ true → fold min b (filter p (map (λ i. i / 3) is)) ≤ j / 3
along_under p b j [] l e = absurd (omega arith)
along_under p b j (i ∷ is) l e =
    let m = fold_min_le (min b (i / 3)) (filter p (map (λ i. i / 3) is)) in
    let r = along_under p (min b (i / 3)) j is in
    let t = along_under p b j is in
    grind (arith, nat_tests)

-- the lowest of the triangles of the corners of which p holds
abbrev lowest_of : (ℕ → Bool) → List ℕ → Option ℕ
lowest_of p is = reduce min (filter p (map (λ i. i / 3) is))

lowest_fine : (n : ℕ) (p : ℕ → Bool) (is : List ℕ) → ((i : ℕ) → 0 < times i is → i / 3 < n) → Fine n p (lowest_of p is)
lowest_fine n p [] low = tt
lowest_fine n p (i ∷ is) low =
    let here : i / 3 < n = low i (omega (arith, one_self i)) in
    let rest : (j : ℕ) → 0 < times j is → j / 3 < n = λ j k. low j (omega arith) in
    let a = along_fine n p (i / 3) is here in
    let r = lowest_fine n p is rest in
    grind (arith, nat_tests)

lowest_under : (p : ℕ → Bool) (j : ℕ) (is : List ℕ) → 0 < times j is → p (j / 3) ≡ true → Under (lowest_of p is) (j / 3)
lowest_under p j [] l e = absurd (omega arith)
lowest_under p j (i ∷ is) l e =
    let m = fold_min_le (i / 3) (filter p (map (λ i. i / 3) is)) in
    let r = along_under p (i / 3) j is in
    let t = lowest_under p j is in
    grind (arith, nat_tests)

-- corner k of triangle t
pub vertex_of_corner : (rs : List ChainTriangle) (t k : ℕ) → k < 3 → vertex_at rs (3 * t + k) ≡ (corner_in (get_or rs t no_triangle) k).vertex
vertex_of_corner rs t k l = grind (arith, nat_tests)

-- a triangle with the side has a corner at its start
start_corner : (x : ChainTriangle) (u v : ℕ) → is_some (corner_of u v (corners_in x)) ≡ true → (k : ℕ) × (k < 3) × ((corner_in x k).vertex ≡ u)
start_corner x u v e = grind (arith, nat_tests)

-- the triangle, if there is one, has the side u→v
abbrev pub tells : ℕ → ℕ → Option Tri → Bool
tells u v None = false
tells u v (Some t) = is_some (corner_of u v t)

side_at : (ts : List Tri) (u v j : ℕ) → j < length ts → (t : Tri) × (slice_get ts j ≡ Some t) × (is_some (corner_of u v t) ≡ tells u v (slice_get ts j))
side_at ts u v j l =
    let e = slice_get-get_or ts j (tri 0 0 0) l in
    (get_or ts j (tri 0 0 0), e, sym (ap (tells u v) e))

-- the chain at u holds the corners at u: the lowest triangle along it is what the side question finds
pub along_side : (rs : List ChainTriangle) (u v n h : ℕ) (o : Option ℕ) → n ≤ length rs → Holds (3 * n) rs h u → o ≡ lowest_of (λ t. tells u v (slice_get (front corners_in n rs) t)) (walk (3 * n) (next_at rs) h) → o ≡ side_of (front corners_in n rs) u v
along_side rs u v n h o k holds e =
    let is = walk (3 * n) (next_at rs) h in
    let ts = front corners_in n rs in
    let m : length ts ≡ n = length_front corners_in n rs k in
    let p : ℕ → Bool = λ t. tells u v (slice_get ts t) in
    let low : (i : ℕ) → 0 < times i is → i / 3 < length ts = λ i l. let b = one_below i (3 * n) (eqb (vertex_at rs i) u) (omega (arith, holds i)) in omega arith in
    e ∙ side_least ts u v p (lowest_of p is) (side_at ts u v) (lowest_fine (length ts) p is low)
    (λ t l y.
    let lt : t < n = omega arith in
    let there = front_there corners_in n rs t no_triangle lt k in
    let w = start_corner (get_or rs t no_triangle) u v (sym (ap (tells u v) there) ∙ y) in
    let j = 3 * t + w.0 in
    let a : j / 3 ≡ t = omega (arith, w.1) in
    let q : times j is ≡ 1 = holds j ∙ ap one (and_from (ltb j (3 * n)) (eqb (vertex_at rs j) u) (lt-ltb j (3 * n) (omega (arith, w.1))) (eq-eqb (vertex_at rs j) u (vertex_of_corner rs t w.0 w.1 ∙ w.2))) in
    rw a at (lowest_under p j is (omega arith) (ap p a ∙ y)))

-- where no corner is at u no triangle has a side from it
pub none_side : (rs : List ChainTriangle) (u v n m : ℕ) → n ≤ length rs → m ≤ u → ((i : ℕ) → i < 3 * n → vertex_at rs i < m) → None ≡ side_of (front corners_in n rs) u v
none_side rs u v n m k l placed =
    let ts = front corners_in n rs in
    let e : length ts ≡ n = length_front corners_in n rs k in
    side_least ts u v (λ t. tells u v (slice_get ts t)) None (side_at ts u v) tt
    (λ t j y.
    let lt : t < n = omega arith in
    let there = front_there corners_in n rs t no_triangle lt k in
    let w = start_corner (get_or rs t no_triangle) u v (sym (ap (tells u v) there) ∙ y) in
    absurd (omega (arith, placed (3 * t + w.0) (omega (arith, w.1)), vertex_of_corner rs t w.0 w.1, w.2)))
