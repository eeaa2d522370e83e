use Rattle.std.proofs.Common.{◌≡◌, ◌+◌, ◌-◌, ◌≤◌, length, drop}
use Rattle.forest.specs.Polygons.{closes}
use Rattle.engine.proofs.Closing.{meant}
use Rattle.engine.proofs.codes.all_close.Given as goal

abbrev pub invariant-loop-code : goal.invariant-loop-code
invariant-loop-code l =
    record {
      few : l.parts ≤ l.code-index + 1;
      rest : closes l.parts (length l.codes - l.code-index) (meant (drop l.code-index l.codes)) ≡ closes 1 (length l.codes) (meant l.codes);
    }
