-- What opening a sheet answers.
use Rattle.std.specs.Prelude.{◌≡◌, ℕ, List, Some, None, Ok, Err, Option, Result}
use Rattle.fault.specs.declared.fault.Fault.{Fault}
use Rattle.place.specs.Kinds.{Kind}
use Rattle.place.specs.declared.kind.Place.{Ghosts}
use Rattle.mesh.specs.Meshes.{Mesh, vertex_total, triangle_total}
use Rattle.mesh.specs.Limits.{counts_fault}
use Rattle.sheet.specs.declared.sheet.Sheet.{Sheet}
use Rattle.sheet.specs.Content.{sheet_mesh, sheet_fault, LaidOut}

-- the bytes that an opened sheet holds
abbrev pub held_by : {P D : Type 0} {g : Ghosts P D} → Result (Sheet P D g) Fault → Result (List ℕ) Fault
held_by (Ok s) = Ok s.bytes.now
held_by (Err f) = Err f

-- the bytes unless there is a fault
abbrev pub opened : Option Fault → List ℕ → Result (List ℕ) Fault
opened None bs = Ok bs
opened (Some f) bs = Err f

-- a sheet has no fault exactly if its bytes are laid out as those of a mesh with counts in their limits, and it means that mesh
abbrev pub SheetExact : {P D : Type 0} → Kind P D → Type 0
SheetExact {P} {D} k =
    ((bs : List ℕ) → sheet_fault k bs ≡ None → LaidOut k bs (sheet_mesh k bs) × (counts_fault (vertex_total (sheet_mesh k bs)) (triangle_total (sheet_mesh k bs)) ≡ None))
    × ((bs : List ℕ) (m : Mesh P) → counts_fault (vertex_total m) (triangle_total m) ≡ None → LaidOut k bs m → (sheet_fault k bs ≡ None) × (sheet_mesh k bs ≡ m))
