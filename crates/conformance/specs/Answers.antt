-- What comes out of a record, as a call answers it and as a table tells it.
use Rattle.std.specs.Prelude.{ℕ, if◌then◌else◌, ◌==◌, List, length, Ok, Err, Result}
use Rattle.fault.specs.declared.fault.Fault.{Fault}
use Rattle.fault.specs.Faults.{told}
use Rattle.place.specs.Words.{word}
use Rattle.engine.specs.declared.told.Told.{Told}
use Rattle.conformance.specs.declared.answer.Refusal.{Refusal}
use Rattle.conformance.specs.declared.answer.Answer.{Answer}
use Rattle.conformance.specs.declared.answer.Answer.TheVariants.{Split, Refused}

-- a refusal by its number, layer and spot
abbrev pub refusal : Fault → Refusal
refusal f = record { number = (told f).number; layer = (told f).layer; spot = (told f).spot }

-- what a split call answers
abbrev pub answer : Result Told Fault → Answer
answer (Ok t) = Split t
answer (Err f) = Refused (refusal f)

-- what an item tells: number, layer and spot if it has three numbers, else the counts of a split
abbrev pub answer_in : List ℕ → Answer
answer_in bs = if length bs == 16 then Refused (record { number = word bs 4; layer = word bs 8; spot = word bs 12 })
    else Split (record { vertices = word bs 4; edges = word bs 8; triangles = word bs 12; forest_edges = word bs 16; trees = word bs 20 })
