-- What the layout call hands out.
use Rattle.std.specs.Prelude.{◌≡◌, ℕ, List, [], ◌∷◌, Some, None, Ok, Err, Option, Result, MatchOption}
use Rattle.fault.specs.declared.fault.Fault.{Fault}
use Rattle.record.specs.declared.layout.Stretch.{Stretch}
use Rattle.record.specs.declared.layout.Stretch.TheVariants.{Marks, Codes, Displacements}
use Rattle.record.specs.Parts.{codes_from, displacements_from, marks_of, codes_of, displacements_of}

-- the bytes of a stretch with their offset, by what they are
pub data Piece : Type 0 where
  mark_bytes code_bytes displacement_bytes : List ℕ → ℕ → Piece

abbrev pub meaning : Stretch → Piece
meaning (Marks part offset) = mark_bytes part.now offset
meaning (Codes part offset) = code_bytes part.now offset
meaning (Displacements part offset) = displacement_bytes part.now offset

-- the pieces of a record with m edges, in the order in which they are handed out
abbrev pub pieces : List ℕ → ℕ → List Piece
pieces bs m = mark_bytes (marks_of bs m) 10 ∷ code_bytes (codes_of bs m) (codes_from m) ∷ displacement_bytes (displacements_of bs m) (displacements_from bs m) ∷ []

-- a step from the pieces that are to come to the next ones: it gives the first, and none once there is none
abbrev pub HandsOut : List Piece → Option Stretch → List Piece → Type 0
HandsOut before given after = MatchOption given ((before ≡ []) × (after ≡ [])) (λ stretch. before ≡ meaning stretch ∷ after)

-- the pieces of a record for m edges, none given yet, or the fault, that opening gives
abbrev pub Opens : Result (List Piece) Fault → Option Fault → List ℕ → ℕ → Type 0
Opens (Ok to_come) fault bs m = (fault ≡ None) × (to_come ≡ pieces bs m)
Opens (Err f) fault bs m = fault ≡ Some f
