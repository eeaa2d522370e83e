-- A split call on a store with the workspace's room.
use Rattle.std.proofs.Common.{◌≡◌, ℕ, List, subst}
use Rattle.place.specs.declared.grid.Grid.{Grid}
use Rattle.place.specs.Grids.{grid_kind}
use Rattle.runs.specs.Calls.{State, offer}
use Rattle.runs.specs.Runs.{GoesOn}

pub goes_in_room : (vr tr table : ℕ) (s t : State Grid) (bs : List ℕ) → vr ≡ 256 → tr ≡ 512 → table ≡ 12288 → GoesOn grid_kind vr tr s (offer bs table) t → GoesOn grid_kind 256 512 s (offer bs 12288) t
goes_in_room vr tr table s t bs a b l h =
    subst (λ (n : ℕ). GoesOn grid_kind 256 512 s (offer bs n) t) l
    (subst (λ (n : ℕ). GoesOn grid_kind 256 n s (offer bs table) t) b
    (subst (λ (n : ℕ). GoesOn grid_kind n tr s (offer bs table) t) a h))
