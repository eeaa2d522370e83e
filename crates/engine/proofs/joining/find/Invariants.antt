use Rattle.std.proofs.Common.{◌≡◌, ℕ, ◌<◌, length}
use Rattle.engine.specs.Joining.{Falling, Links}
use Rattle.engine.proofs.joining.find.Given as goal

abbrev pub invariant-loop-parents : goal.invariant-loop-parents
invariant-loop-parents l =
    (l.v < length l.parents) × Falling l.parents × ((f : ℕ → ℕ) → Links l.fn.parents f → (f l.from ≡ f l.v) × Links l.parents f)

abbrev pub decreases-loop-parents : goal.decreases-loop-parents
decreases-loop-parents l = l.v
