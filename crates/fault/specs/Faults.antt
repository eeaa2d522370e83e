-- What a refusal tells: its number, its layer and its spot.
use Rattle.std.specs.Prelude.{ℕ, Some, None, Option, Result, Ok, Err}
use Rattle.fault.specs.declared.fault.Count.{Count}
use Rattle.fault.specs.declared.fault.Count.TheVariants.{Vertices, Triangles}
use Rattle.fault.specs.declared.fault.Fault.{Fault}
use Rattle.fault.specs.declared.fault.Fault.TheVariants.{ShortWorkTable, StoreNotEmpty, StoreNotClosed, StoreNotOfJob, VertexCapacity, TriangleCapacity, ValueTooLarge, PartLengths, ShortBuffer}
use Rattle.fault.specs.declared.fault.Fault.TheVariants.{SheetLength, SheetVersion, SheetKind, SheetCounts, SheetSize, NoPlace, BadCorners, RepeatedSide, OpenSide, NoSingleRing}
use Rattle.fault.specs.declared.fault.Fault.TheVariants.{RecordLength, RecordVersion, RecordKind, MarksCutShort, SpareMarkBit, NoMark, MarkClosesLoop, SingleEdgeTree, CodeCount, RecordSize, SpareCodeBit}
use Rattle.fault.specs.declared.fault.Fault.TheVariants.{CodesOffTree, LoopTooShort, SideTwice, NoDisplacedPlace}

-- The layers: 1 job, 2 bytes, 3 surface, 4 loop, 5 place.
pub record Told : Type 0 where
  pub number : ℕ
  pub layer : ℕ
  pub spot : ℕ

abbrev pub tells : ℕ → ℕ → ℕ → Told
tells n l s = record { number = n; layer = l; spot = s }

-- the offset in a sheet of the count that is out of its limits
abbrev pub count_offset : Count → ℕ
count_offset Vertices = 6
count_offset Triangles = 10

abbrev pub told : Fault → Told
told ShortWorkTable = tells 1 1 0
told StoreNotEmpty = tells 2 1 0
told StoreNotClosed = tells 3 1 0
told StoreNotOfJob = tells 4 1 0
told VertexCapacity = tells 5 1 0
told TriangleCapacity = tells 6 1 0
told (ValueTooLarge index) = tells 7 1 index
told PartLengths = tells 8 1 0
told (ShortBuffer needed) = tells 9 1 needed
told SheetLength = tells 10 2 0
told SheetVersion = tells 11 2 4
told SheetKind = tells 12 2 5
told (SheetCounts count) = tells 13 2 (count_offset count)
told SheetSize = tells 14 2 0
told (NoPlace vertex) = tells 15 5 vertex
told (BadCorners triangle) = tells 16 3 triangle
told (RepeatedSide triangle) = tells 17 3 triangle
told (OpenSide triangle) = tells 18 3 triangle
told (NoSingleRing vertex) = tells 19 3 vertex
told RecordLength = tells 20 2 0
told RecordVersion = tells 21 2 4
told RecordKind = tells 22 2 5
told MarksCutShort = tells 23 2 0
told (SpareMarkBit offset) = tells 24 2 offset
told NoMark = tells 25 3 0
told (MarkClosesLoop edge) = tells 26 3 edge
told (SingleEdgeTree vertex) = tells 27 3 vertex
told CodeCount = tells 28 2 6
told RecordSize = tells 29 2 0
told (SpareCodeBit offset) = tells 30 2 offset
told (CodesOffTree tree) = tells 31 4 tree
told (LoopTooShort tree) = tells 32 4 tree
told (SideTwice triangle) = tells 33 4 triangle
told (NoDisplacedPlace vertex) = tells 34 5 vertex

-- nothing, unless there is a fault
abbrev pub checked : Option Fault → Result Unit Fault
checked None = Ok tt
checked (Some f) = Err f

-- the first of two checks that finds a fault
abbrev pub or_else : Option Fault → Option Fault → Option Fault
or_else (Some f) rest = Some f
or_else None rest = rest
