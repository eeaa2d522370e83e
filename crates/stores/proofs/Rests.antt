-- The corners that a walk goes through.
use Rattle.std.proofs.Common.{ℕ, zero, suc, ◌<◌, List, [], ◌∷◌, length, get_or, arith}
use Rattle.std.proofs.lemmas.Bool.Decides.{nat_tests}
use Rattle.stores.specs.declared.chain_record.ChainTriangle.{ChainTriangle}
use Rattle.stores.specs.Chains.{walk, times, next_at, Holds}

times_there : (is : List ℕ) (k d : ℕ) → k < length is → 0 < times (get_or is k d) is
times_there [] k d l = absurd (omega arith)
times_there (x ∷ xs) zero d l = grind (arith, nat_tests)
times_there (x ∷ xs) (suc k) d l = let r = times_there xs k d in grind (arith, nat_tests)

-- a chain that holds corners below n goes through no others
pub holds_below : (n : ℕ) (rs : List ChainTriangle) (h v : ℕ) → Holds n rs h v → (k d : ℕ) → k < length (walk n (next_at rs) h) → get_or (walk n (next_at rs) h) k d < n
holds_below n rs h v m k d l =
    let is = walk n (next_at rs) h in
    let t = times_there is k d l in
    let e = m (get_or is k d) in
    grind (arith, nat_tests)
