-- What is true of every split.
use Rattle.std.specs.Prelude.{◌≡◌, ℕ, zero, suc, ◌+◌, ◌-◌, ◌*◌, ◌<◌, ◌≤◌, Bool, true, cond, not, ◌||◌, List, [], ◌∷◌, ◌++◌, map, length, take, Some, None, filter, Option, ◌≢◌, nat_eq, nat_lt, slice_index}
use Rattle.std.specs.Option.{option_map}
use Rattle.std.specs.List.{slice_get}
use Rattle.fault.specs.declared.fault.Fault.TheVariants.{LoopTooShort}
use Rattle.place.specs.Kinds.{Kind}
use Rattle.mesh.specs.Lists.{Mem, Apart}
use Rattle.mesh.specs.Triangles.{Tri, tri}
use Rattle.mesh.specs.Sides.{Side, side, sides}
use Rattle.mesh.specs.Edges.{edges}
use Rattle.mesh.specs.Rings.{Walk, Link}
use Rattle.mesh.specs.Closed.{Closed}
use Rattle.mesh.specs.Meshes.{Vertex, Mesh, vertex_total}
use Rattle.mesh.specs.Follow.{follow_back}
use Rattle.forest.specs.Marks.{Marked, has_side, marked_edges, same_side}
use Rattle.forest.specs.Trees.{start, end, own, label, loop_free, tree_edges, below, trees}
use Rattle.forest.specs.Roots.{leaf, root, mirrored}
use Rattle.forest.specs.Loops.{whole, hop}
use Rattle.forest.specs.Numbering.{corner_number, passes}
use Rattle.forest.specs.Polygons.{Code, after, open_part, cut}
use Rattle.forest.specs.Splitting.{marked_of, all_positions, all_numbers, split_triangles, split_vertices, split_parents, forest_fault, sewing_fault, added_triangles, first_twice, first_unclosed, kept_triangles, first_closing}
use Rattle.forest.specs.Places.{displaced_at, place_fault, split_mesh}

-- the label of v is the lowest vertex that marked edges lead to, and two vertices have one label exactly if marked edges join them
abbrev pub LabelsMeant : Type 0
LabelsMeant =
    (ms : List Side) (v w : ℕ)
    → (label ms v ≡ label ms w → Walk (Marked ms) v w) × (Walk (Marked ms) v w → label ms v ≡ label ms w) × (Walk (Marked ms) v w → label ms v ≤ w) × Walk (Marked ms) v (label ms v)

-- where no edge closes a loop, the ends of each are joined by no walk over the others
abbrev pub ForestMeant : Type 0
ForestMeant = (ms : List Side) → loop_free own ms ≡ true → (i j : ℕ) → Mem (side i j) ms → Walk (Marked (filter (λ m. not (same_side m (side i j))) ms)) i j → ⊥

-- The edge n of es is marked by bs, and its ends are joined by lower marked edges, which form a forest.
pub record Closing (es : List Side) (bs : List Bool) (n : ℕ) : Type 0 where
  pub i : ℕ
  pub j : ℕ
  pub there_is : slice_get es n ≡ Some (side i j)
  pub marked : slice_get bs n ≡ Some true
  pub joined : Walk (Marked (marked_edges (take n es) (take n bs))) i j
  pub lower_free : loop_free own (marked_edges (take n es) (take n bs)) ≡ true

-- the first closing edge is the lowest whose ends are joined by lower marked edges, and there is one unless the marked edges are a forest
abbrev pub ClosingMeant : Type 0
ClosingMeant =
    (es : List Side) (bs : List Bool) → ((n : ℕ) → first_closing own 0 es bs ≡ Some n → Closing es bs n) × (first_closing own 0 es bs ≡ None → loop_free own (marked_edges es bs) ≡ true)

-- the numbers rise
abbrev pub Rising : List ℕ → Type 0
Rising [] = Unit {0}
Rising (k ∷ ks) = ((i : ℕ) → Mem i ks → k < i) × Rising ks

-- the sum of the listed numbers
abbrev pub sum : List ℕ → ℕ
sum [] = 0
sum (n ∷ ns) = n + sum ns

-- each marked edge is an edge of one tree
abbrev pub TreesSummed : Type 0
TreesSummed = (V : ℕ) (ms : List Side) → ((s : Side) → Mem s ms → start s < V) → sum (map (λ k. length (tree_edges ms k)) (trees V ms)) ≡ length ms

-- the trees are listed by their lowest vertices, rising
abbrev pub TreesOrdered : Type 0
TreesOrdered = (V : ℕ) (ms : List Side) → Rising (trees V ms) × ((k : ℕ) → Mem k (trees V ms) → (k < V) × (label ms k ≡ k))

-- what is known where the marks are on a closed mesh and form a forest
abbrev pub Forest : ℕ → List Tri → List Bool → Type 0
Forest V ts bs = Closed V ts × (loop_free own (marked_of ts bs) ≡ true)

-- a tree has one vertex more than edges
abbrev pub TreeCounted : Type 0
TreeCounted =
    (V : ℕ) (ts : List Tri) (bs : List Bool) → Forest V ts bs → (k : ℕ) → Mem k (trees V (marked_of ts bs))
    → length (filter (λ v. nat_eq (label (marked_of ts bs) v) k) (below V)) ≡ length (tree_edges (marked_of ts bs) k) + 1

-- the side s of the marked edges ms leaves the lowest leaf of the tree k
pub record Rooted (ms : List Side) (k : ℕ) (s : Side) : Type 0 where
  pub marked : Marked ms (start s) (end s)
  pub of_tree : label ms (start s) ≡ k
  pub is_leaf : leaf ms (start s) ≡ true
  pub lowest : (v : ℕ) → label ms v ≡ k → leaf ms v ≡ true → start s ≤ v

-- the root side of every tree leaves its lowest leaf
abbrev pub RootLowest : Type 0
RootLowest = (V : ℕ) (ts : List Tri) (bs : List Bool) → Forest V ts bs → (k : ℕ) → Mem k (trees V (marked_of ts bs)) → Rooted (marked_of ts bs) k (root (marked_of ts bs) k)

-- on a closed mesh no loop of a tree comes round too early, so that this fault is never found
abbrev pub NeverEarly : Type 0
NeverEarly =
    (V : ℕ) (ts : List Tri) (bs : List Bool)
    → (Forest V ts bs → (k : ℕ) → Mem k (trees V (marked_of ts bs)) → whole ts (marked_of ts bs) k ≡ true)
    × (Closed V ts → (n : ℕ) → forest_fault V ts bs n ≡ None → (cs : List Code) (k : ℕ) → sewing_fault V ts bs cs ≢ Some (LoopTooShort k))

-- n open parts end exactly with the last code
abbrev pub Ends : ℕ → List Code → Type 0
Ends zero [] = Unit {0}
Ends zero (c ∷ cs) = ⊥
Ends (suc n) [] = ⊥
Ends (suc n) (c ∷ cs) = Ends (after c n) cs

-- The part of a polygon over the positions a to b, with its triangles: a bare edge if b comes next to a, else a triangle
-- with a left part over o to b and a right part over a to o.
pub data Part : ℕ → ℕ → List Tri → Type 0 where
  edge : {a : ℕ} → Part a (suc a) []
  node : {a o b : ℕ} {ls rs : List Tri} → Part o b ls → Part a o rs → Part a b (tri b o a ∷ (ls ++ rs))

-- codes that end with the last of them fill the polygon that has two corners more
abbrev pub PolygonFilled : Type 0
PolygonFilled = (cs : List Code) (a : ℕ) → Ends 1 cs → Part a (suc (a + length cs)) (cut cs (open_part a (suc (a + length cs)) ∷ []))

-- the old vertex that u was split from, where ps are the parents of the vertices from V on
abbrev pub origin : ℕ → List ℕ → ℕ → ℕ
origin V ps u = cond (nat_lt u V) u (slice_index ps (u - V))

-- the triangle with each corner led back to the vertex that it was split from
abbrev pub led_back : ℕ → List ℕ → Tri → Tri
led_back V ps (tri x y z) = tri (origin V ps x) (origin V ps y) (origin V ps z)

-- no check of the split finds a fault
abbrev pub Accepted : ℕ → List Tri → List Bool → List Code → Type 0
Accepted V ts bs cs = (forest_fault V ts bs (length cs) ≡ None) × (sewing_fault V ts bs cs ≡ None)

-- what a split leaves, with F marked edges in K trees: V' vertices, of which the new ones have the parents ps, and the triangles us
pub record Kept (V : ℕ) (ts : List Tri) (F K : ℕ) (V' : ℕ) (ps : List ℕ) (us : List Tri) : Type 0 where
  pub closed : Closed V' us
  pub vertices : V' + K ≡ V + F
  pub triangles : length us + 2 * K ≡ length ts + 2 * F
  pub euler : V' + length us + length (edges ts) ≡ V + length ts + length (edges us)
  pub grown : V' ≡ V + length ps
  pub old_parents : (p : ℕ) → Mem p ps → p < V
  pub old_triangles : map (led_back V ps) (take (length ts) us) ≡ ts

-- a split that is accepted keeps a closed mesh closed
abbrev pub SplitKeeps : Type 0
SplitKeeps =
    (V : ℕ) (ts : List Tri) (bs : List Bool) (cs : List Code) → Closed V ts → Accepted V ts bs cs
    → Kept V ts (length (marked_of ts bs)) (length (trees V (marked_of ts bs)))
    (split_vertices V ts (marked_of ts bs)) (split_parents V ts (marked_of ts bs)) (split_triangles V ts (marked_of ts bs) cs)

-- The positions ss of the marked edges ms, with the numbers ns: each marked edge is passed once in each direction, no
-- number is given twice, each leads back to its position's vertex, and each new number is some position's.
pub record Placed (V : ℕ) (ms : List Side) (V' : ℕ) (ps : List ℕ) (ss : List Side) (ns : List ℕ) : Type 0 where
  pub count : length ss ≡ 2 * length ms
  pub apart : Apart ss
  pub marked : (s : Side) → Mem s ss → Marked ms (start s) (end s)
  pub passed : (s : Side) → Marked ms (start s) (end s) → Mem s ss
  pub numbered : length ns ≡ length ss
  pub once : Apart ns
  pub small : (n : ℕ) → Mem n ns → n < V'
  pub from : map (origin V ps) ns ≡ map start ss
  pub new : (n : ℕ) → V ≤ n → n < V' → Mem n ns

-- so it is in every split that is accepted
abbrev pub PositionsNumbered : Type 0
PositionsNumbered =
    (V : ℕ) (ts : List Tri) (bs : List Bool) (cs : List Code) → Closed V ts → Accepted V ts bs cs
    → Placed V (marked_of ts bs) (split_vertices V ts (marked_of ts bs)) (split_parents V ts (marked_of ts bs)) (all_positions V ts (marked_of ts bs)) (all_numbers V ts (marked_of ts bs))

-- the first of the triangles, numbered from n on, that has one of the listed sides
abbrev pub first_with : ℕ → List Side → List Tri → Option ℕ
first_with n ss [] = None
first_with n ss (tri x y z ∷ us) = cond (has_side (side x y) ss || (has_side (side y z) ss || has_side (side z x) ss)) (Some n) (first_with (suc n) ss us)

-- The first triangle with a side that a lower one has is the first added triangle that has a side of a kept one; if there is
-- none of these, no side is there twice.
abbrev pub TwiceAdded : Type 0
TwiceAdded =
    (V : ℕ) (ts : List Tri) (bs : List Bool) (n : ℕ) (cs : List Code) → Closed V ts → forest_fault V ts bs n ≡ None → first_unclosed (marked_of ts bs) 0 (trees V (marked_of ts bs)) cs ≡ None
    → first_twice 0 [] (split_triangles V ts (marked_of ts bs) cs) ≡ first_with (length ts) (sides (kept_triangles V ts (marked_of ts bs))) (added_triangles V ts (marked_of ts bs) cs)

-- The corners of the triangles ts, where the positions ss have the numbers ns: one at a vertex on no tree keeps its number,
-- and every other is in the run after some side and has the number of the position that starts with the next side.
pub record Renumbered (ts : List Tri) (ms : List Side) (ks : List ℕ) (ss : List Side) (ns : List ℕ) : Type 0 where
  pub stays : (v x y : ℕ) → ((z : ℕ) → Marked ms v z → ⊥) → corner_number ts ms ks ns v x y ≡ v
  pub met : (v x y z : ℕ) → Link ts v x y → Marked ms v z → (s : Side) × Mem s ss × (passes ts ms (mirrored ts ms (label ms (start s))) v x y s ≡ true)
  pub takes : (v x y i n : ℕ) (s : Side) → Mem s ss → passes ts ms (mirrored ts ms (label ms (start s))) v x y s ≡ true
      → slice_get ss i ≡ Some (hop ts ms (mirrored ts ms (label ms (start s))) s) → slice_get ns i ≡ Some n → corner_number ts ms ks ns v x y ≡ n

-- so it is in every split that is accepted
abbrev pub CornersRenumbered : Type 0
CornersRenumbered =
    (V : ℕ) (ts : List Tri) (bs : List Bool) (cs : List Code) → Closed V ts → Accepted V ts bs cs
    → Renumbered ts (marked_of ts bs) (trees V (marked_of ts bs)) (all_positions V ts (marked_of ts bs)) (all_numbers V ts (marked_of ts bs))

-- The vertices ws after a split of the vertices vs by the marked edges ms, where the new ones have the parents ps and the
-- positions ss have the numbers ns and the displacements ds.
pub record Moved {P D : Type 0} (k : Kind P D) (vs ws : List (Vertex P)) (ms : List Side) (V' : ℕ) (ps : List ℕ) (ss : List Side) (ns : List ℕ) (ds : List D) : Type 0 where
  pub count : length ws ≡ V'
  -- the old vertices keep their parents
  pub parents : map (λ w. w.parent) ws ≡ map (λ v. v.parent) vs ++ ps
  -- a vertex on no tree stays as it is
  pub stays : (v : ℕ) → v < length vs → ((x : ℕ) → Marked ms v x → ⊥) → slice_get ws v ≡ slice_get vs v
  -- the vertex of a position's number stands where its displacement brings the place of the position's old vertex
  pub moves : (i : ℕ) (s : Side) (n : ℕ) (d : D) → slice_get ss i ≡ Some s → slice_get ns i ≡ Some n → slice_get ds i ≡ Some d → option_map (λ w. w.place) (slice_get ws n) ≡ displaced_at k vs s d

-- what a split with a displacement for each position does to the places, if the kind refuses none
abbrev pub PlacesMoved : {P D : Type 0} → Kind P D → Type 0
PlacesMoved {P} {D} k =
    (m : Mesh P) (bs : List Bool) (cs : List Code) (ds : List D) → Closed (vertex_total m) m.triangles → Accepted (vertex_total m) m.triangles bs cs
    → length ds ≡ 2 * length (marked_of m.triangles bs) → place_fault k m bs ds ≡ None
    → Moved k m.vertices (split_mesh k m bs cs ds).vertices (marked_of m.triangles bs) (split_vertices (vertex_total m) m.triangles (marked_of m.triangles bs))
    (split_parents (vertex_total m) m.triangles (marked_of m.triangles bs)) (all_positions (vertex_total m) m.triangles (marked_of m.triangles bs))
    (all_numbers (vertex_total m) m.triangles (marked_of m.triangles bs)) ds

-- with the parents ps of new vertices behind those of V old ones, each vertex follows back to where the one that it was split from does
abbrev pub FollowsBack : Type 0
FollowsBack = (V : ℕ) (qs ps : List ℕ) → length qs ≡ V → ((p : ℕ) → Mem p ps → p < V) → (u : ℕ) → u < V + length ps → follow_back (qs ++ ps) u ≡ follow_back qs (origin V ps u)

-- the triangle with each corner followed back
abbrev pub followed : List ℕ → Tri → Tri
followed ps (tri x y z) = tri (follow_back ps x) (follow_back ps y) (follow_back ps z)

-- the corners of the old triangles follow back to where they did before the split
abbrev pub TrianglesFollow : Type 0
TrianglesFollow =
    (V : ℕ) (ts : List Tri) (bs : List Bool) (cs : List Code) (qs : List ℕ) → Closed V ts → Accepted V ts bs cs → length qs ≡ V
    → map (followed (qs ++ split_parents V ts (marked_of ts bs))) (take (length ts) (split_triangles V ts (marked_of ts bs) cs)) ≡ map (followed qs) ts
