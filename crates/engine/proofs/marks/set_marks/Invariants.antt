use Rattle.std.proofs.Common.{◌≡◌, ℕ, ◌<◌, get_or}
use Rattle.record.specs.Packing.{mark_in}
use Rattle.engine.proofs.marks.set_marks.Given as goal

abbrev pub invariant-loop-e : goal.invariant-loop-e
invariant-loop-e l = (k : ℕ) → k < l.e → get_or l.marks k 0 ≡ mark_in l.bytes k
