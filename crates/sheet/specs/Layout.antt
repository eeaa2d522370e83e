-- The bytes of a sheet: where its parts stand, and the checks of its layout.
use Rattle.std.specs.Prelude.{ℕ, ◌+◌, ◌*◌, Bool, cond, ◌&&◌, List, length, Some, None, Option, ◌==◌, nat_le, slice_index}
use Rattle.fault.specs.declared.fault.Fault.{Fault}
use Rattle.fault.specs.declared.fault.Fault.TheVariants.{SheetLength, SheetVersion, SheetKind, SheetSize, VertexCapacity, TriangleCapacity}
use Rattle.fault.specs.Faults.{or_else}
use Rattle.place.specs.Kinds.{Kind}
use Rattle.place.specs.Words.{word}
use Rattle.mesh.specs.Limits.{counts_fault}

-- V stands at offset 6, T at offset 10, the places from offset 14 on, and behind them the triangles, twelve bytes each
abbrev pub vertices_of : List ℕ → ℕ
vertices_of bs = word bs 6

abbrev pub triangles_of : List ℕ → ℕ
triangles_of bs = word bs 10

abbrev pub place_offset : ℕ → ℕ → ℕ
place_offset width v = 14 + v * width

abbrev pub triangle_offset : ℕ → ℕ → ℕ → ℕ
triangle_offset width V t = 14 + V * width + t * 12

abbrev pub sheet_size : ℕ → ℕ → ℕ → ℕ
sheet_size width V T = triangle_offset width V T

-- a fault unless the test holds
abbrev pub unless : Bool → Fault → Option Fault
unless b f = cond b None (Some f)

-- at least 14 bytes, and the length field tells what follows it
abbrev pub length_fault : List ℕ → Option Fault
length_fault bs = unless (nat_le 14 (length bs) && word bs 0 + 4 == length bs) SheetLength

abbrev pub version_fault : List ℕ → Option Fault
version_fault bs = unless (slice_index bs 4 == 1) SheetVersion

abbrev pub kind_fault : ℕ → List ℕ → Option Fault
kind_fault kind bs = unless (slice_index bs 5 == kind) SheetKind

-- the places and triangles fill the sheet
abbrev pub size_fault : ℕ → List ℕ → Option Fault
size_fault width bs = unless (sheet_size width (vertices_of bs) (triangles_of bs) == length bs) SheetSize

-- length, version and kind, in this order
abbrev pub head_fault : ℕ → List ℕ → Option Fault
head_fault kind bs = or_else (length_fault bs) (or_else (version_fault bs) (kind_fault kind bs))

-- the checks of the layout, in their order
abbrev pub layout_fault : {P D : Type 0} → Kind P D → List ℕ → Option Fault
layout_fault k bs = or_else (head_fault k.byte bs) (or_else (counts_fault (vertices_of bs) (triangles_of bs)) (size_fault k.width bs))

-- the sheet's counts are within a store's capacities; the vertices are told first
abbrev pub capacity_fault : ℕ → ℕ → List ℕ → Option Fault
capacity_fault vertex_capacity triangle_capacity bs = or_else (unless (nat_le (vertices_of bs) vertex_capacity) VertexCapacity) (unless (nat_le (triangles_of bs) triangle_capacity) TriangleCapacity)
