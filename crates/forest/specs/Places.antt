-- Step 6: the places after a split.
use Rattle.std.specs.Prelude.{ℕ, zero, suc, Bool, cond, List, [], ◌∷◌, ◌++◌, length, is_some, Some, None, Option, nat_lt}
use Rattle.std.specs.Option.{option_map, unwrap_or}
use Rattle.std.specs.List.{slice_get}
use Rattle.fault.specs.declared.fault.Fault.{Fault}
use Rattle.fault.specs.declared.fault.Fault.TheVariants.{NoDisplacedPlace}
use Rattle.place.specs.Kinds.{Kind}
use Rattle.mesh.specs.Sides.{Side}
use Rattle.mesh.specs.Meshes.{Vertex, vertex_of, Mesh, mesh_of, vertex_total}
use Rattle.forest.specs.Trees.{start}
use Rattle.forest.specs.Polygons.{Code}
use Rattle.forest.specs.Splitting.{marked_of, all_positions, all_numbers, split_triangles}

-- the place of the vertex v before the split; the kind's origin if there is no such vertex
abbrev pub place_before : {P D : Type 0} → Kind P D → List (Vertex P) → ℕ → P
place_before k vs v = unwrap_or (option_map (λ x. x.place) (slice_get vs v)) k.origin

-- the place that the position s moves to by the displacement d, none if the kind refuses it
abbrev pub displaced_at : {P D : Type 0} → Kind P D → List (Vertex P) → Side → D → Option P
displaced_at k vs s d = k.displaced (place_before k vs (start s)) d

-- the same, where a refusal leaves the place as it was
abbrev pub place_after : {P D : Type 0} → Kind P D → List (Vertex P) → Side → D → P
place_after k vs s d = unwrap_or (displaced_at k vs s d) (place_before k vs (start s))

-- the number of the first of the positions ss whose displacement is refused, where they have the numbers ns and the displacements ds
abbrev pub first_refused : {P D : Type 0} → Kind P D → List (Vertex P) → List Side → List ℕ → List D → Option ℕ
first_refused k vs [] ns ds = None
first_refused k vs (s ∷ ss) [] ds = None
first_refused k vs (s ∷ ss) (n ∷ ns) [] = None
first_refused k vs (s ∷ ss) (n ∷ ns) (d ∷ ds) = cond (is_some (displaced_at k vs s d)) (first_refused k vs ss ns ds) (Some n)

-- the vertices ws with a new place for the vertex n
abbrev pub with_place : {P : Type 0} → ℕ → P → List (Vertex P) → List (Vertex P)
with_place n p [] = []
with_place zero p (w ∷ ws) = vertex_of p w.parent ∷ ws
with_place (suc n) p (w ∷ ws) = w ∷ with_place n p ws

-- the vertices ws after each position has moved the vertex of its number; the places vs are those before the split
abbrev pub moved : {P D : Type 0} → Kind P D → List (Vertex P) → List Side → List ℕ → List D → List (Vertex P) → List (Vertex P)
moved k vs [] ns ds ws = ws
moved k vs (s ∷ ss) [] ds ws = ws
moved k vs (s ∷ ss) (n ∷ ns) [] ws = ws
moved k vs (s ∷ ss) (n ∷ ns) (d ∷ ds) ws = moved k vs ss ns ds (with_place n (place_after k vs s d) ws)

-- the new vertices, in the order of their numbers: each at its place, with the vertex that it was split from as parent
abbrev pub added : {P D : Type 0} → Kind P D → List (Vertex P) → List Side → List ℕ → List D → List (Vertex P)
added k vs [] ns ds = []
added k vs (s ∷ ss) [] ds = []
added k vs (s ∷ ss) (n ∷ ns) [] = []
added k vs (s ∷ ss) (n ∷ ns) (d ∷ ds) = cond (nat_lt n (length vs)) (added k vs ss ns ds) (vertex_of (place_after k vs s d) (start s) ∷ added k vs ss ns ds)

-- the vertices after the split: the kept ones moved, then the new ones
abbrev pub split_places : {P D : Type 0} → Kind P D → List (Vertex P) → List Side → List ℕ → List D → List (Vertex P)
split_places k vs ss ns ds = moved k vs ss ns ds vs ++ added k vs ss ns ds

-- the fault that the displacements can have, where the marks and codes have none
abbrev pub place_fault : {P D : Type 0} → Kind P D → Mesh P → List Bool → List D → Option Fault
place_fault k m bs ds =
    let ms = marked_of m.triangles bs in
    option_map NoDisplacedPlace (first_refused k m.vertices (all_positions (vertex_total m) m.triangles ms) (all_numbers (vertex_total m) m.triangles ms) ds)

-- the mesh after the split
abbrev pub split_mesh : {P D : Type 0} → Kind P D → Mesh P → List Bool → List Code → List D → Mesh P
split_mesh k m bs cs ds =
    let ms = marked_of m.triangles bs in
    mesh_of (split_triangles (vertex_total m) m.triangles ms cs)
    (split_places k m.vertices (all_positions (vertex_total m) m.triangles ms) (all_numbers (vertex_total m) m.triangles ms) ds)
