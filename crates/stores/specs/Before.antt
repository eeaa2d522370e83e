-- The corner before another in a chain.
use Rattle.std.specs.Prelude.{◌≡◌, ℕ, ◌+◌, ◌<◌, List, Some, None, Option}
use Rattle.stores.specs.declared.chain_record.ChainTriangle.{ChainTriangle}
use Rattle.stores.specs.Chains.{walk, times, next_at}

-- the link y follows the corner p, which is in the list, or is the first link h if there is no p
abbrev pub Leads : (ℕ → ℕ) → List ℕ → ℕ → Option ℕ → ℕ → Type 0
Leads f is h None y = h ≡ y
Leads f is h (Some p) y = (f p ≡ y) × (0 < times p is)

-- in the chain that begins with the link h, corner i follows p, or is the first if there is no p
abbrev pub Before : ℕ → List ChainTriangle → ℕ → ℕ → Option ℕ → Type 0
Before n rs h i p = Leads (next_at rs) (walk n (next_at rs) h) h p (i + 1)
