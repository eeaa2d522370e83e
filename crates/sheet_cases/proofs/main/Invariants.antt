use Rattle.std.proofs.Common.{◌≡◌, length}
use Rattle.sheet_cases.proofs.main.Given as goal

abbrev pub invariant-loop-case : goal.invariant-loop-case
invariant-loop-case l = length l.buffer ≡ 16384
