-- What a write to a record does to the corners and to the first links.
use Rattle.std.proofs.Common.{◌≡◌, ℕ, zero, suc, ◌+◌, ◌*◌, ◌/◌, ◌%◌, ◌<◌, List, [], ◌∷◌, map, length, get_or, take, set, sym, refl, ap, ◌∙◌, ⊎_elim, arith}
use Rattle.std.proofs.lemmas.List.{get_or-set_same, get_or-set_other, set-set, take-map}
use Rattle.std.proofs.lemmas.Bool.{cases_eq}
use Rattle.std.proofs.lemmas.Bool.Decides.{nat_tests}
use Rattle.mesh.specs.Growth.{with_corner}
use Rattle.stores.specs.declared.chain_record.ChainCorner.{ChainCorner}
use Rattle.stores.specs.declared.chain_record.ChainTriangle.{ChainTriangle}
use Rattle.stores.specs.declared.chain_record.ChainVertex.{ChainVertex}
use Rattle.stores.specs.Records.{front}
use Rattle.stores.specs.Chains.{chain_corner, chain_triangle, no_triangle, no_vertex, corners_in, corner_in, with_link, corner_at, vertex_at, first_at, with_first, put_corner, put_first}

-- a write that keeps f
map_like : {X Y : Type 0} (f : X → Y) (xs : List X) (k : ℕ) (x d : X) → f x ≡ f (get_or xs k d) → map f (set xs k x) ≡ map f xs
map_like f [] k x d e = refl
map_like f (y ∷ ys) zero x d e = ap (λ z. z ∷ map f ys) e
map_like f (y ∷ ys) (suc k) x d e = ap (λ z. f y ∷ z) (map_like f ys k x d e)

pub front_like : {X Y : Type 0} (f : X → Y) (n : ℕ) (xs : List X) (k : ℕ) (x d : X) → f x ≡ f (get_or xs k d) → front f n (set xs k x) ≡ front f n xs
front_like f n xs k x d e = sym (take-map f n (set xs k x)) ∙ ap (take n) (map_like f xs k x d e) ∙ take-map f n xs

corner_in_same : (r : ChainTriangle) (k : ℕ) (x : ChainCorner) → k < 3 → corner_in (with_link r k x) k ≡ x
corner_in_same r k x h = grind (arith, nat_tests)

corner_in_other : (r : ChainTriangle) (k j : ℕ) (x : ChainCorner) → k < 3 → j < 3 → (j ≡ k → ⊥) → corner_in (with_link r k x) j ≡ corner_in r j
corner_in_other r k j x h l n = grind (arith, nat_tests)

pub corner_same : (rs : List ChainTriangle) (i : ℕ) (x : ChainCorner) → i / 3 < length rs → corner_at (put_corner rs i x) i ≡ x
corner_same rs i x h =
    let r = get_or rs (i / 3) no_triangle in
    ap (λ z. corner_in z (i % 3)) (get_or-set_same rs (i / 3) (with_link r (i % 3) x) no_triangle h) ∙ corner_in_same r (i % 3) x (omega arith)

pub corner_other : (rs : List ChainTriangle) (i : ℕ) (x : ChainCorner) (j : ℕ) → i / 3 < length rs → (j ≡ i → ⊥) → corner_at (put_corner rs i x) j ≡ corner_at rs j
corner_other rs i x j h n =
    let q = with_link (get_or rs (i / 3) no_triangle) (i % 3) x in
    ⊎_elim
    (λ (e : j / 3 ≡ i / 3).
    ap (λ z. corner_in (get_or (set rs (i / 3) q) z no_triangle) (j % 3)) e
    ∙ ap (λ z. corner_in z (j % 3)) (get_or-set_same rs (i / 3) q no_triangle h)
    ∙ corner_in_other (get_or rs (i / 3) no_triangle) (i % 3) (j % 3) x (omega arith) (omega arith) (λ z. n (omega arith))
    ∙ ap (λ z. corner_in (get_or rs z no_triangle) (j % 3)) (sym e))
    (λ (e : j / 3 ≡ i / 3 → ⊥). ap (λ z. corner_in z (j % 3)) (get_or-set_other rs (i / 3) (j / 3) q no_triangle e))
    (cases_eq (j / 3) (i / 3))

pub first_same : (vs : List ChainVertex) (v h : ℕ) → v < length vs → first_at (put_first vs v h) v ≡ h
first_same vs v h l = ap (λ z. z.first) (get_or-set_same vs v (with_first (get_or vs v no_vertex) h) no_vertex l)

pub first_other : (vs : List ChainVertex) (v h u : ℕ) → (u ≡ v → ⊥) → first_at (put_first vs v h) u ≡ first_at vs u
first_other vs v h u n = ap (λ z. z.first) (get_or-set_other vs v u (with_first (get_or vs v no_vertex) h) no_vertex n)

-- the triangle of a record with another corner
pub corners_with : (r : ChainTriangle) (k v y : ℕ) → corners_in (with_link r k (chain_corner v y)) ≡ with_corner k v (corners_in r)
corners_with r k v y = grind (arith, nat_tests)

corners_kept : (r : ChainTriangle) (k y : ℕ) → k < 3 → corners_in (with_link r k (chain_corner (corner_in r k).vertex y)) ≡ corners_in r
corners_kept r k y h = grind (arith, nat_tests)

-- another link leaves the triangles as they are
pub triangles_kept : (n : ℕ) (rs : List ChainTriangle) (p y : ℕ) → front corners_in n (put_corner rs p (chain_corner (vertex_at rs p) y)) ≡ front corners_in n rs
triangles_kept n rs p y = let r = get_or rs (p / 3) no_triangle in front_like corners_in n rs (p / 3) (with_link r (p % 3) (chain_corner (vertex_at rs p) y)) no_triangle (corners_kept r (p % 3) y (omega arith))

-- another first link leaves the vertices as they are
pub vertices_kept : {X : Type 0} (f : ChainVertex → X) → ((r : ChainVertex) (h : ℕ) → f (with_first r h) ≡ f r) → (m : ℕ) (vs : List ChainVertex) (v h : ℕ) → front f m (put_first vs v h) ≡ front f m vs
vertices_kept f fh m vs v h = front_like f m vs v (with_first (get_or vs v no_vertex) h) no_vertex (fh (get_or vs v no_vertex) h)

-- corner k of triangle t, written
pub put_at : (rs : List ChainTriangle) (t k : ℕ) (x : ChainCorner) → k < 3 → put_corner rs (3 * t + k) x ≡ set rs t (with_link (get_or rs t no_triangle) k x)
put_at rs t k x l = grind (arith, nat_tests)

put_again : (rs : List ChainTriangle) (t k : ℕ) (r : ChainTriangle) (x : ChainCorner) → t < length rs → k < 3 → put_corner (set rs t r) (3 * t + k) x ≡ set rs t (with_link r k x)
put_again rs t k r x h l =
    put_at (set rs t r) t k x l ∙ ap (λ z. set (set rs t r) t (with_link z k x)) (get_or-set_same rs t r no_triangle h) ∙ set-set rs t r (with_link r k x)

-- the three corners of triangle t, written one by one
pub put_three : (rs : List ChainTriangle) (t : ℕ) (x y z : ChainCorner) → t < length rs → put_corner (put_corner (put_corner rs (3 * t) x) (3 * t + 1) y) (3 * t + 2) z ≡ set rs t (chain_triangle x y z)
put_three rs t x y z h =
    let r = get_or rs t no_triangle in
    let n : 3 * t ≡ 3 * t + 0 = omega arith in
    ap (λ q. put_corner (put_corner q (3 * t + 1) y) (3 * t + 2) z) (ap (λ i. put_corner rs i x) n ∙ put_at rs t 0 x (omega arith))
    ∙ ap (λ q. put_corner q (3 * t + 2) z) (put_again rs t 1 (chain_triangle x (corner_in r 1) (corner_in r 2)) y h (omega arith))
    ∙ put_again rs t 2 (chain_triangle x y (corner_in r 2)) z h (omega arith)
