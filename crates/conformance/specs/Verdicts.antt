-- What is told of a store's mesh beside a sheet and an item of parents.
use Rattle.std.specs.Prelude.{ℕ, List, [], None, Some, Option, if◌then◌else◌, nat_le, bytes_eq}
use Rattle.place.specs.Kinds.{Kind}
use Rattle.mesh.specs.Meshes.{Mesh}
use Rattle.sheet.specs.Writing.{sheet_bytes, written_size}
use Rattle.conformance.specs.Differences.{same_bytes, first_other_parent}
use Rattle.conformance.specs.declared.verdict.Verdict.{Verdict}
use Rattle.conformance.specs.declared.verdict.Verdict.TheVariants.{Same, Sheet, Parent}

-- the first byte that differs, or where one of the two ends; none if they are the same
abbrev pub first_difference : List ℕ → List ℕ → Option ℕ
first_difference xs ys = if bytes_eq xs ys then None else Some (same_bytes xs ys)

-- the sheet of a mesh in a buffer of so many bytes; no bytes where it needs more
abbrev pub sheet_within : {P D : Type 0} → Kind P D → Mesh P → ℕ → List ℕ
sheet_within k m room = if nat_le (written_size k m) room then sheet_bytes k m else []

-- a byte that differs, else a vertex with another parent, else the same
abbrev pub told_first : Option ℕ → Option ℕ → Verdict
told_first (Some byte) other = Sheet byte
told_first None (Some v) = Parent v
told_first None None = Same

-- the verdict on a mesh, whose sheet is written into a buffer of so many bytes: by the bytes of that sheet, then by the parents
abbrev pub verdict_of : {P D : Type 0} → Kind P D → Mesh P → ℕ → List ℕ → List ℕ → Verdict
verdict_of k m room sheet parents = told_first (first_difference (sheet_within k m room) sheet) (first_other_parent m parents)
