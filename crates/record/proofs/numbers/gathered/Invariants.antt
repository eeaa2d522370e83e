use Rattle.std.proofs.Common.{◌≡◌}
use Rattle.record.specs.Packing.{gathered}
use Rattle.record.proofs.numbers.gathered.Given as goal

abbrev pub invariant-loop-i : goal.invariant-loop-i
invariant-loop-i g l = l.byte ≡ gathered g.row.BITS l.i l.numbers
