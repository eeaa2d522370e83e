-- Chains of corners. Corner k of triangle t has the number 3t + k, the link to corner i is i + 1, and 0 is the end.
use Rattle.std.specs.Prelude.{◌≡◌, ℕ, zero, suc, ◌+◌, ◌/◌, ◌%◌, ◌<◌, Bool, cond, ◌&&◌, List, [], ◌∷◌, get_or, Some, None, Option, ◌==◌, nat_lt, slice_index_or, slice_set}
use Rattle.mesh.specs.Triangles.{Tri, tri}
use Rattle.stores.specs.declared.chain_record.ChainCorner.{ChainCorner}
use Rattle.stores.specs.declared.chain_record.ChainTriangle.{ChainTriangle}
use Rattle.stores.specs.declared.chain_record.ChainVertex.{ChainVertex}
use Rattle.stores.specs.Records.{no_record}

abbrev pub chain_corner : ℕ → ℕ → ChainCorner
chain_corner v y = record { vertex = v; next = y }

abbrev pub chain_triangle : ChainCorner → ChainCorner → ChainCorner → ChainTriangle
chain_triangle x y z = record { corners = x ∷ y ∷ z ∷ [] }

-- what is read past the end of a record or of a table
abbrev pub no_corner : ChainCorner
no_corner = chain_corner 0 0

abbrev pub no_triangle : ChainTriangle
no_triangle = record { corners = [] }

abbrev pub no_vertex : ChainVertex
no_vertex = record { stored = no_record; first = 0 }

-- corner k of a record
abbrev pub corner_in : ChainTriangle → ℕ → ChainCorner
corner_in r k = slice_index_or r.corners k no_corner

-- a record's triangle
abbrev pub corners_in : ChainTriangle → Tri
corners_in r = tri (corner_in r 0).vertex (corner_in r 1).vertex (corner_in r 2).vertex

-- the record with another corner k
abbrev pub with_link : ChainTriangle → ℕ → ChainCorner → ChainTriangle
with_link r k x = cond (k == 0) (chain_triangle x (corner_in r 1) (corner_in r 2)) (cond (k == 1) (chain_triangle (corner_in r 0) x (corner_in r 2)) (chain_triangle (corner_in r 0) (corner_in r 1) x))

-- corner i of a table: its vertex, and the link that follows it
abbrev pub corner_at : List ChainTriangle → ℕ → ChainCorner
corner_at rs i = corner_in (slice_index_or rs (i / 3) no_triangle) (i % 3)

abbrev pub vertex_at : List ChainTriangle → ℕ → ℕ
vertex_at rs i = (corner_at rs i).vertex

abbrev pub next_at : List ChainTriangle → ℕ → ℕ
next_at rs i = (corner_at rs i).next

-- the link with which the chain of vertex v begins
abbrev pub first_at : List ChainVertex → ℕ → ℕ
first_at vs v = (get_or vs v no_vertex).first

-- the table with another corner i
abbrev pub put_corner : List ChainTriangle → ℕ → ChainCorner → List ChainTriangle
put_corner rs i x = slice_set rs (i / 3) (with_link (slice_index_or rs (i / 3) no_triangle) (i % 3) x)

-- the vertex with another first link
abbrev pub with_first : ChainVertex → ℕ → ChainVertex
with_first r h = record { stored = r.stored; first = h }

-- the table in which the chain of vertex v begins with the link h
abbrev pub put_first : List ChainVertex → ℕ → ℕ → List ChainVertex
put_first vs v h = slice_set vs v (with_first (slice_index_or vs v no_vertex) h)

-- the corners after a corner was taken out that the link y followed: y follows the corner before it
abbrev pub relinked : List ChainTriangle → Option ℕ → ℕ → List ChainTriangle
relinked rs None y = rs
relinked rs (Some p) y = put_corner rs p (chain_corner (vertex_at rs p) y)

-- the first links after a corner was taken out of the chain of vertex v: y is the first if none was before it
abbrev pub refirsted : List ChainVertex → Option ℕ → ℕ → ℕ → List ChainVertex
refirsted vs None v y = put_first vs v y
refirsted vs (Some p) v y = vs

-- the corner, if any, is one of n triangles
abbrev pub Within : Option ℕ → ℕ → Type 0
Within None n = Unit {0}
Within (Some p) n = p / 3 < n

-- the corners that at most n links lead to, from the link h on
abbrev pub walk : ℕ → (ℕ → ℕ) → ℕ → List ℕ
walk n f zero = []
walk zero f (suc i) = []
walk (suc n) f (suc i) = i ∷ walk n f (f i)

-- the link that is left after at most n
abbrev pub left_over : ℕ → (ℕ → ℕ) → ℕ → ℕ
left_over n f zero = 0
left_over zero f (suc i) = suc i
left_over (suc n) f (suc i) = left_over n f (f i)

-- 1 if it is true, else 0
abbrev pub one : Bool → ℕ
one b = cond b 1 0

-- how often i stands in the list
abbrev pub times : ℕ → List ℕ → ℕ
times i [] = 0
times i (x ∷ xs) = one (i == x) + times i xs

-- the chain that begins with the link h ends within n links
abbrev pub Ends : ℕ → List ChainTriangle → ℕ → Type 0
Ends n rs h = left_over n (next_at rs) h ≡ 0

-- the chain holds each of the first n corners that is at v once, and nothing else
abbrev pub Holds : ℕ → List ChainTriangle → ℕ → ℕ → Type 0
Holds n rs h v = (i : ℕ) → times i (walk n (next_at rs) h) ≡ one (nat_lt i n && vertex_at rs i == v)
