use Rattle.std.proofs.Common.{◌≡◌, ℕ, ◌<◌, get_or}
use Rattle.engine.specs.Joining.{Falling, Links}
use Rattle.engine.proofs.joining.flatten.Given as goal

abbrev pub invariant-loop-v : goal.invariant-loop-v
invariant-loop-v l =
    Falling l.parents × ((f : ℕ → ℕ) → Links l.fn.parents f → Links l.parents f × ((k : ℕ) → k < l.v → get_or l.parents k 0 ≡ f k))
