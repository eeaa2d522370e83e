use Rattle.std.proofs.Common.{◌≡◌, ◌≤◌, length, drop}
use Rattle.forest.specs.Tables.{unclosed_from}
use Rattle.engine.proofs.Closing.{meant}
use Rattle.engine.proofs.codes.first_unclosed.Given as goal

abbrev pub invariant-loop-tree : goal.invariant-loop-tree
invariant-loop-tree l =
    record {
      few : length l.rest ≤ length l.codes;
      rest : unclosed_from l.tree (drop l.tree l.arounds) (meant l.rest) ≡ unclosed_from 0 l.arounds (meant l.codes);
    }
