-- What a walk along a chain still goes through.
use Rattle.std.specs.Prelude.{ℕ, ◌*◌, List, length}
use Rattle.stores.specs.declared.chain_walk.Chain.{Chain}
use Rattle.stores.specs.Chains.{walk, next_at}

-- the corners from its link on
abbrev pub corners_left : Chain → List ℕ
corners_left k = walk (3 * length k.triangles.now) (next_at k.triangles.now) k.link
