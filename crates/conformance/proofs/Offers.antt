-- The answer of a split call, told as a record's.
use Rattle.std.proofs.Common.{◌≡◌, Ok, Err, Result, refl}
use Rattle.fault.specs.declared.fault.Fault.{Fault}
use Rattle.engine.specs.declared.told.Told.{Told}
use Rattle.engine.specs.Telling.{told_by}
use Rattle.conformance.specs.Answers.{answer}
use Rattle.conformance.specs.Offers.{answer_by}

pub told_same : (r : Result Told Fault) → answer r ≡ answer_by (told_by r)
told_same (Ok t) = refl
told_same (Err f) = refl
