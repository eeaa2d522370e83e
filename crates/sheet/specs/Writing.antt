-- The bytes that the sheet of a mesh is written as.
use Rattle.std.specs.Prelude.{ℕ, ◌+◌, cond, List, [], ◌∷◌, ◌++◌, length, take, drop, Some, None, Ok, Err, Option, Result, nat_le}
use Rattle.fault.specs.declared.fault.Fault.{Fault}
use Rattle.fault.specs.declared.fault.Fault.TheVariants.{ShortBuffer}
use Rattle.place.specs.Kinds.{Kind}
use Rattle.place.specs.Words.{word_bytes}
use Rattle.mesh.specs.Triangles.{Tri, tri}
use Rattle.mesh.specs.Meshes.{Mesh, Vertex, vertex_total, triangle_total}
use Rattle.sheet.specs.Layout.{sheet_size}

-- what f gives for each item, one after another
abbrev pub rows : {X : Type 0} → (X → List ℕ) → List X → List ℕ
rows f [] = []
rows f (x ∷ xs) = f x ++ rows f xs

-- the bytes of a vertex are those of its place: its parent is not written
abbrev pub vertex_bytes : {P D : Type 0} → Kind P D → Vertex P → List ℕ
vertex_bytes k v = k.bytes v.place

-- the four bytes of each corner, in order
abbrev pub triangle_bytes : Tri → List ℕ
triangle_bytes (tri a b c) = word_bytes a ++ (word_bytes b ++ word_bytes c)

-- the version, which is 1, the kind, V and T
abbrev pub fixed_bytes : ℕ → ℕ → ℕ → List ℕ
fixed_bytes kind V T = 1 ∷ kind ∷ (word_bytes V ++ word_bytes T)

-- what follows the length field: the fixed part, the places in order, the triangles in order
abbrev pub body_bytes : {P D : Type 0} → Kind P D → Mesh P → List ℕ
body_bytes k m = fixed_bytes k.byte (vertex_total m) (triangle_total m) ++ (rows (vertex_bytes k) m.vertices ++ rows triangle_bytes m.triangles)

-- the sheet of a mesh: how many bytes follow, and these bytes
unfoldable pub sheet_bytes : {P D : Type 0} → Kind P D → Mesh P → List ℕ
sheet_bytes k m = word_bytes (length (body_bytes k m)) ++ body_bytes k m

-- how many bytes the sheet has: 14, the places, and twelve for each triangle
abbrev pub written_size : {P D : Type 0} → Kind P D → Mesh P → ℕ
written_size k m = sheet_size k.width (vertex_total m) (triangle_total m)

-- 9, with the number of bytes that are needed, where there are fewer
abbrev pub short_fault : ℕ → ℕ → Option Fault
short_fault needed have = cond (nat_le needed have) None (Some (ShortBuffer needed))

-- what the writer answers: how many bytes it wrote, or how many it needs where the buffer has fewer
unfoldable pub sheet_written : {P D : Type 0} → Kind P D → Mesh P → List ℕ → Result ℕ Fault
sheet_written k m out = cond (nat_le (written_size k m) (length out)) (Ok (written_size k m)) (Err (ShortBuffer (written_size k m)))

-- what the buffer holds then: the sheet and what stood behind it, or what it held before
unfoldable pub sheet_after : {P D : Type 0} → Kind P D → Mesh P → List ℕ → List ℕ
sheet_after k m out = cond (nat_le (written_size k m) (length out)) (sheet_bytes k m ++ drop (written_size k m) out) out

-- a list with other bytes from an offset on, which keeps what stands before and behind them
unfoldable pub put_at : ℕ → List ℕ → List ℕ → List ℕ
put_at at bs out = take at out ++ (bs ++ drop (at + length bs) out)

-- the first fourteen bytes of a sheet: how many bytes follow the first four, and the fixed part
abbrev pub head_bytes : ℕ → ℕ → ℕ → ℕ → List ℕ
head_bytes following kind V T = word_bytes following ++ fixed_bytes kind V T
