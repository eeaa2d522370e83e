-- What the bytes of a written sheet read as.
use Rattle.std.specs.Prelude.{◌≡◌, ℕ, suc, ◌^◌, ◌<◌, true, List, [], ◌∷◌, None, Ok, Err, Result}
use Rattle.fault.specs.declared.fault.Fault.{Fault}
use Rattle.place.specs.Kinds.{Kind}
use Rattle.mesh.specs.Lists.{Mem}
use Rattle.mesh.specs.Triangles.{Tri, tri}
use Rattle.mesh.specs.Closed.{Closed}
use Rattle.mesh.specs.Limits.{counts_fault}
use Rattle.mesh.specs.Meshes.{Mesh, Vertex, InLimits, mesh_of, vertex_of, vertex_total, triangle_total, places}
use Rattle.sheet.specs.Content.{sheet_mesh, sheet_fault, LaidOut}
use Rattle.sheet.specs.Writing.{sheet_bytes}

-- the vertices with the same places, each its own parent, numbered from i on
abbrev pub own_from : {P : Type 0} → ℕ → List (Vertex P) → List (Vertex P)
own_from i [] = []
own_from i (v ∷ vs) = vertex_of v.place i ∷ own_from (suc i) vs

-- the mesh with the same places and triangles, every vertex its own parent
abbrev pub own : {P : Type 0} → Mesh P → Mesh P
own m = mesh_of m.triangles (own_from 0 m.vertices)

-- every place is one that a program can hold
abbrev pub Held : {P D : Type 0} → Kind P D → List (Vertex P) → Type 0
Held {P} k vs = (v : Vertex P) → Mem v vs → k.holds v.place ≡ true

-- each corner is a number of 32 bits
abbrev pub ShortCorners : Tri → Type 0
ShortCorners (tri a b c) = (a < 2 ^ 32) × (b < 2 ^ 32) × (c < 2 ^ 32)

-- so is each corner of every triangle
abbrev pub Numbered : List Tri → Type 0
Numbered ts = (t : Tri) → Mem t ts → ShortCorners t

-- A mesh that its sheet gives back.
pub record Writable {P D : Type 0} (k : Kind P D) (m : Mesh P) : Type 0 where
  pub counts : counts_fault (vertex_total m) (triangle_total m) ≡ None
  pub held : Held k m.vertices
  pub numbered : Numbered m.triangles

-- The written sheet of a mesh is laid out as it should be, opens, and means the mesh, parents aside.
pub record ReadsBack {P D : Type 0} (k : Kind P D) (m : Mesh P) : Type 0 where
  pub laid_out : LaidOut k (sheet_bytes k m) (own m)
  pub no_fault : sheet_fault k (sheet_bytes k m) ≡ None
  pub same_mesh : sheet_mesh k (sheet_bytes k m) ≡ own m
  pub same_triangles : (sheet_mesh k (sheet_bytes k m)).triangles ≡ m.triangles
  pub same_places : places (sheet_mesh k (sheet_bytes k m)) ≡ places m

-- What was written reads back, if the counts are in their limits, as those of a closed mesh are.
abbrev pub BackIf : {P D : Type 0} → Result ℕ Fault → Kind P D → Mesh P → Type 0
BackIf (Ok n) k m = (counts_fault (vertex_total m) (triangle_total m) ≡ None → ReadsBack k m) × (Closed (vertex_total m) m.triangles → ReadsBack k m)
BackIf (Err f) k m = Unit {0}

-- What is written reads back, and different meshes with counts in their limits have different sheets.
pub record SheetsReadBack {P D : Type 0} (k : Kind P D) : Type 0 where
  pub read_back : (m : Mesh P) → Writable k m → ReadsBack k m
  -- a closed mesh no larger than a mesh may be has such counts, and its corners are below V
  pub closed : (m : Mesh P) → InLimits m → Held k m.vertices → Closed (vertex_total m) m.triangles → ReadsBack k m
  pub apart : (m n : Mesh P) → Writable k m → Writable k n → sheet_bytes k m ≡ sheet_bytes k n → (places m ≡ places n) × (m.triangles ≡ n.triangles)
