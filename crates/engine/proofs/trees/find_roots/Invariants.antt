use Rattle.std.proofs.Common.{◌≡◌, ℕ, ◌<◌, ◌≤◌, length, get_or}
use Rattle.engine.specs.Tallies.{LeafBelow}
use Rattle.engine.proofs.trees.find_roots.Given as goal

abbrev pub invariant-loop-v : goal.invariant-loop-v
invariant-loop-v l = (u : ℕ) → l.v ≤ u → u < length l.labels → get_or l.counts u 0 ≡ 1 → LeafBelow l.labels l.counts l.others l.roots u
