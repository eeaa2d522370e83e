-- What the record writer refuses, in its order, and what it answers and leaves.
use Rattle.std.specs.Prelude.{ℕ, ◌+◌, ◌*◌, ◌≤◌, Bool, cond, ◌&&◌, List, [], ◌∷◌, ◌++◌, length, drop, Some, None, Ok, Err, Option, Result, ◌==◌, nat_le}
use Rattle.fault.specs.Faults.{or_else}
use Rattle.fault.specs.declared.fault.Fault.{Fault}
use Rattle.fault.specs.declared.fault.Fault.TheVariants.{PartLengths, ValueTooLarge, ShortBuffer}
use Rattle.place.specs.Kinds.{Kind}
use Rattle.record.specs.Limits.{max_marks, max_codes}
use Rattle.record.specs.Packing.{Small}
use Rattle.record.specs.Written.{record_size, record_bytes}

-- how many numbers of a list are not 0
abbrev pub not_zero : List ℕ → ℕ
not_zero [] = 0
not_zero (x ∷ xs) = cond (x == 0) 0 1 + not_zero xs

-- not too many marks and codes, and two displacements for each mark that is not 0
abbrev pub parts_fit : {P D : Type 0} → Kind P D → List ℕ → List ℕ → List ℕ → Bool
parts_fit k ms cs ds = nat_le (length ms) max_marks && (nat_le (length cs) max_codes && length ds == 2 * not_zero ms * k.displacement_width)

abbrev pub parts_fault : {P D : Type 0} → Kind P D → List ℕ → List ℕ → List ℕ → Option Fault
parts_fault k ms cs ds = cond (parts_fit k ms cs ds) None (Some PartLengths)

-- the first number of a list that is over a limit, where the first of the list is number i
abbrev pub over_fault : ℕ → ℕ → List ℕ → Option Fault
over_fault limit i [] = None
over_fault limit i (x ∷ xs) = cond (nat_le x limit) (over_fault limit (i + 1) xs) (Some (ValueTooLarge i))

-- all marks are looked at before any code
abbrev pub values_fault : List ℕ → List ℕ → Option Fault
values_fault ms cs = or_else (over_fault 1 0 ms) (over_fault 3 0 cs)

-- the whole record finds room
abbrev pub room_fault : List ℕ → List ℕ → List ℕ → ℕ → Option Fault
room_fault ms cs ds room = cond (nat_le (record_size ms cs ds) room) None (Some (ShortBuffer (record_size ms cs ds)))

abbrev pub write_fault : {P D : Type 0} → Kind P D → List ℕ → List ℕ → List ℕ → ℕ → Option Fault
write_fault k ms cs ds room = or_else (parts_fault k ms cs ds) (or_else (values_fault ms cs) (room_fault ms cs ds room))

-- the answer: the fault, or how many bytes were written
abbrev pub answer_of : Option Fault → ℕ → Result ℕ Fault
answer_of None n = Ok n
answer_of (Some f) n = Err f

abbrev pub write_answer : {P D : Type 0} → Kind P D → List ℕ → List ℕ → List ℕ → ℕ → Result ℕ Fault
write_answer k ms cs ds room = answer_of (write_fault k ms cs ds room) (record_size ms cs ds)

-- the buffer afterwards: as it was, or with the record in front
abbrev pub buffer_of : Option Fault → List ℕ → List ℕ → List ℕ
buffer_of None bs old = bs ++ drop (length bs) old
buffer_of (Some f) bs old = old

abbrev pub buffer_after : {P D : Type 0} → Kind P D → List ℕ → List ℕ → List ℕ → List ℕ → List ℕ
buffer_after k ms cs ds old = buffer_of (write_fault k ms cs ds (length old)) (record_bytes k ms cs ds) old

-- parts that can be written into a buffer of `room` bytes; a mark has two displacements of at most 12 bytes
pub record Ready (ms cs ds : List ℕ) (room : ℕ) : Type 0 where
  pub few_marks : length ms ≤ max_marks
  pub few_codes : length cs ≤ max_codes
  pub few_displacements : length ds ≤ 24 * max_marks
  pub marks_small : Small 1 ms
  pub codes_small : Small 2 cs
  pub fits : record_size ms cs ds ≤ room
