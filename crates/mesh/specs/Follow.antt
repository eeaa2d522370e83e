-- Following a vertex back through the vertices that it was split from.
use Rattle.std.specs.Prelude.{◌≡◌, ℕ, zero, suc, ◌<◌, ◌≤◌, cond, List, Some, None, Option, nat_lt}
use Rattle.std.specs.List.{slice_get}

-- v's parent where its number is smaller, else v
abbrev pub smaller_parent : Option ℕ → ℕ → ℕ
smaller_parent (Some p) v = cond (nat_lt p v) p v
smaller_parent None v = v

abbrev pub back_step : List ℕ → ℕ → ℕ
back_step ps v = smaller_parent (slice_get ps v) v

abbrev pub back_steps : ℕ → List ℕ → ℕ → ℕ
back_steps zero ps v = v
back_steps (suc n) ps v = back_steps n ps (back_step ps v)

-- go to the parent while its number is smaller; the number falls, so v steps are enough
abbrev pub follow_back : List ℕ → ℕ → ℕ
follow_back ps v = back_steps v ps v

-- going to the parent, while its number is smaller, leads from v to w
pub data Leads (ps : List ℕ) : ℕ → ℕ → Type 0 where
  stays : {v : ℕ} → Leads ps v v
  goes : {v p w : ℕ} → slice_get ps v ≡ Some p → p < v → Leads ps p w → Leads ps v w

-- it leads to w, whose parent is not smaller
pub record EndsAt (ps : List ℕ) (v w : ℕ) : Type 0 where
  pub leads : Leads ps v w
  pub ends : (p : ℕ) → slice_get ps w ≡ Some p → w ≤ p

-- following back does so, whatever the parents are
abbrev pub FollowEnds : Type 0
FollowEnds = (ps : List ℕ) (v : ℕ) → EndsAt ps v (follow_back ps v)
