-- The checks of single triangles: their corners, and their sides against those of all triangles.
use Rattle.std.specs.Prelude.{◌≡◌, ℕ, Bool, false, not, ◌&&◌, ◌||◌, List, length, is_some, Some, None, Option, nat_lt}
use Rattle.std.specs.List.{slice_get}
use Rattle.mesh.specs.declared.triangle.Triangle.{Triangle}
use Rattle.mesh.specs.Triangles.{Tri, tri, tri_of}
use Rattle.mesh.specs.Growth.{all_below, different}
use Rattle.mesh.specs.Sides.{side_of}
use Rattle.mesh.specs.Searches.{first_in}

-- all three corners are below V, and differ
abbrev pub good_corners : ℕ → Tri → Bool
good_corners V t = all_below V t && different t

abbrev pub bad_one : ℕ → Option Tri → Bool
bad_one V None = false
bad_one V (Some t) = not (good_corners V t)

abbrev pub bad_at : ℕ → List Tri → ℕ → Bool
bad_at V ts i = bad_one V (slice_get ts i)

-- a triangle was found, and it is lower than i
abbrev pub lower : ℕ → Option ℕ → Bool
lower i None = false
lower i (Some j) = nat_lt j i

-- a triangle lower than i has the side u→v
abbrev pub has_lower : List Tri → ℕ → ℕ → ℕ → Bool
has_lower ts i u v = lower i (side_of ts u v)

-- triangle i has a side that a lower triangle has
abbrev pub repeats : List Tri → ℕ → Tri → Bool
repeats ts i (tri a b c) = has_lower ts i a b || (has_lower ts i b c || has_lower ts i c a)

abbrev pub repeats_one : List Tri → ℕ → Option Tri → Bool
repeats_one ts i None = false
repeats_one ts i (Some t) = repeats ts i t

abbrev pub repeats_at : List Tri → ℕ → Bool
repeats_at ts i = repeats_one ts i (slice_get ts i)

-- no triangle has the side u→v
abbrev pub no_side : List Tri → ℕ → ℕ → Bool
no_side ts u v = not (is_some (side_of ts u v))

-- the triangle has a side whose reverse no triangle has
abbrev pub is_open : List Tri → Tri → Bool
is_open ts (tri a b c) = no_side ts b a || (no_side ts c b || no_side ts a c)

abbrev pub open_one : List Tri → Option Tri → Bool
open_one ts None = false
open_one ts (Some t) = is_open ts t

abbrev pub open_at : List Tri → ℕ → Bool
open_at ts i = open_one ts (slice_get ts i)

-- the lowest triangle that fails each check
unfoldable pub first_bad : ℕ → List Tri → Option ℕ
first_bad V ts = first_in (bad_at V ts) 0 (length ts)

unfoldable pub first_repeated : List Tri → Option ℕ
first_repeated ts = first_in (repeats_at ts) 0 (length ts)

unfoldable pub first_open : List Tri → Option ℕ
first_open ts = first_in (open_at ts) 0 (length ts)

-- the first triangle that fails by each test p that the calls compute
abbrev pub FirstFailing : (ℕ → Triangle → Bool → Type 0) → List Tri → Option ℕ → Type 0
FirstFailing Calls ts found =
    (p : ℕ → Option Tri → Bool)
    → ((i : ℕ) → p i None ≡ false)
    → ((i : ℕ) (t : Triangle) (b : Bool) → Calls i t b → p i (Some (tri_of t)) ≡ b)
    → found ≡ first_in (λ i. p i (slice_get ts i)) 0 (length ts)
