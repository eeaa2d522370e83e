-- What an accepted split call leaves.
use Rattle.std.specs.Prelude.{◌≡◌, ℕ, ◌+◌, ◌*◌, ◌<◌, ◌≤◌, List, ◌++◌, map, take, Some, None, ◌≢◌}
use Rattle.fault.specs.declared.fault.Fault.TheVariants.{LoopTooShort}
use Rattle.place.specs.Kinds.{Kind}
use Rattle.mesh.specs.Lists.{Mem}
use Rattle.mesh.specs.Closed.{Closed}
use Rattle.mesh.specs.Meshes.{Mesh, vertex_total, triangle_total, parents}
use Rattle.forest.specs.Theorems.{followed}
use Rattle.runs.specs.Jobs.{Numbers}
use Rattle.runs.specs.Figures.{euler}
use Rattle.runs.specs.Outcome.{edge_total, edges_marked, trees_formed, mesh_made, split_fault}

-- the mesh m before the split, the mesh m' after it, with F edges marked that form K trees
pub record SplitKept {P : Type 0} (vertex_room triangle_room : ℕ) (m : Mesh P) (F K : ℕ) (m' : Mesh P) : Type 0 where
  pub was_closed : Closed (vertex_total m) m.triangles
  pub closed : Closed (vertex_total m') m'.triangles
  pub vertices : vertex_total m' + K ≡ vertex_total m + F
  pub triangles : triangle_total m' + 2 * K ≡ triangle_total m + 2 * F
  pub edges : edge_total m' + 3 * K ≡ edge_total m + 3 * F
  -- each tree has two edges or more
  pub half : 2 * K ≤ F
  pub figure : euler m' ≡ euler m
  -- the result keeps to the room
  pub vertices_fit : vertex_total m' ≤ vertex_room
  pub triangles_fit : triangle_total m' ≤ triangle_room
  -- the old vertices keep their parents, and those of the new ones are old vertices
  pub new_parents : List ℕ
  pub old_parents : parents m' ≡ parents m ++ new_parents
  pub from_old : (p : ℕ) → Mem p new_parents → p < vertex_total m
  -- the old triangles keep their numbers, and their corners follow back to where they did before
  pub old_triangles : map (followed (parents m')) (take (triangle_total m) m'.triangles) ≡ map (followed (parents m)) m.triangles

-- so it is with every split that is accepted
abbrev pub SplitOutcomeKeeps : {P D : Type 0} → Kind P D → Type 0
SplitOutcomeKeeps {P} {D} k =
    (vertex_room triangle_room table : ℕ) (m : Mesh P) (n : Numbers) (bs : List ℕ) → split_fault k vertex_room triangle_room table m n bs ≡ None
    → SplitKept vertex_room triangle_room m (edges_marked m bs) (trees_formed m bs) (mesh_made k m bs)

-- no split call is refused because the loop of a tree comes round too early
abbrev pub NeverTooShort : {P D : Type 0} → Kind P D → Type 0
NeverTooShort {P} {D} k =
    (vertex_room triangle_room table : ℕ) (m : Mesh P) (n : Numbers) (bs : List ℕ) (tree : ℕ) → split_fault k vertex_room triangle_room table m n bs ≢ Some (LoopTooShort tree)
