-- Searches over numbers.
use Rattle.std.specs.Prelude.{ℕ, zero, suc, ◌+◌, Bool, cond, Some, None, Option}

-- the first of the n numbers from i on of which p holds
abbrev pub first_in : (ℕ → Bool) → ℕ → ℕ → Option ℕ
first_in p i zero = None
first_in p i (suc n) = cond (p i) (Some i) (first_in p (i + 1) n)
