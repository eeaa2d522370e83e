use Rattle.std.proofs.Common.{◌≡◌, length}
use Rattle.levels.proofs.records.play_records.Given as goal

abbrev pub invariant-loop-item : goal.invariant-loop-item
invariant-loop-item g l = length l.buffer ≡ length l.fn.buffer
