use Rattle.std.proofs.Common.{◌≡◌, ℕ, ◌<◌, get_or}
use Rattle.record.specs.Packing.{code_in}
use Rattle.engine.proofs.codes.set_codes.Given as goal

abbrev pub invariant-loop-i : goal.invariant-loop-i
invariant-loop-i l = (k : ℕ) → k < l.i → get_or l.codes k 0 ≡ code_in l.bytes k
