-- Walks along a relation.
use Rattle.std.proofs.Common.{◌≡◌, ℕ}
use Rattle.mesh.specs.Rings.{Walk, stop, step}

abbrev pub Rel : Type 1
Rel = ℕ → ℕ → Type 0

-- each start has one step
abbrev pub Sharp : Rel → Type 0
Sharp R = (p q r : ℕ) → R p q → R p r → q ≡ r

pub walk_append : {R : Rel} {x y z : ℕ} → Walk R x y → Walk R y z → Walk R x z
walk_append stop v = v
walk_append (step r w) v = step r (walk_append w v)

pub walk_start : {R : Rel} {x y z : ℕ} → x ≡ y → Walk R y z → Walk R x z
walk_start {R} {z = z} e w = rw e w

pub walk_end : {R : Rel} {x y z : ℕ} → y ≡ z → Walk R x y → Walk R x z
walk_end e w = rw e at w
