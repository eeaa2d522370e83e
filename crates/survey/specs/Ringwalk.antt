-- The ring at a vertex, decided by walking round it once.
use Rattle.std.specs.Prelude.{ℕ, zero, suc, ◌+◌, ◌-◌, Bool, false, cond, not, ◌||◌, List, length, Some, None, Option, ◌==◌}
use Rattle.std.specs.Option.{option_map}
use Rattle.std.specs.List.{slice_get}
use Rattle.mesh.specs.Triangles.{Tri, tri}
use Rattle.mesh.specs.Sides.{side_of}
use Rattle.mesh.specs.Searches.{first_in}

-- read from its corner v, the triangle is (v, second_of, third_of)
abbrev pub second_of : ℕ → Tri → ℕ
second_of v (tri a b c) = cond (a == v) b (cond (b == v) c a)

abbrev pub third_of : ℕ → Tri → ℕ
third_of v (tri a b c) = cond (a == v) c (cond (b == v) a b)

-- the third corner of triangle i, read from v
abbrev pub third_at : List Tri → ℕ → Option ℕ → Option ℕ
third_at ts v None = None
third_at ts v (Some i) = option_map (third_of v) (slice_get ts i)

-- the ring step from the side v→x: the third corner of the triangle with that side
abbrev pub ring_step : List Tri → ℕ → ℕ → Option ℕ
ring_step ts v x = third_at ts v (side_of ts v x)

-- the steps round v from x come to a after n of them and not before
abbrev pub comes_round : List Tri → ℕ → ℕ → ℕ → ℕ → Bool
comes_round ts v a zero x = x == a
comes_round ts v a (suc n) x = cond (x == a) false (elim (ring_step ts v x) [ Some y ↦ comes_round ts v a n y | None ↦ false ])

-- how many corners of a triangle are v
abbrev pub corners_in : ℕ → Tri → ℕ
corners_in v (tri a b c) = cond (a == v) 1 0 + cond (b == v) 1 0 + cond (c == v) 1 0

abbrev pub corners_one : ℕ → Option Tri → ℕ
corners_one v None = 0
corners_one v (Some t) = corners_in v t

-- how many corners of the first n triangles are v
abbrev pub corners_to : List Tri → ℕ → ℕ → ℕ
corners_to ts v zero = 0
corners_to ts v (suc n) = corners_to ts v n + corners_one v (slice_get ts n)

-- the triangle has the corner v
abbrev pub touches : ℕ → Tri → Bool
touches v (tri a b c) = a == v || (b == v || c == v)

abbrev pub last_one : ℕ → ℕ → ℕ → Option Tri → ℕ
last_one v n l None = l
last_one v n l (Some t) = cond (touches v t) n l

-- the last of the first n triangles that has the corner v; 0 if none has
abbrev pub last_to : List Tri → ℕ → ℕ → ℕ
last_to ts v zero = 0
last_to ts v (suc n) = last_one v n (last_to ts v n) (slice_get ts n)

-- from one triangle at v, n more steps pass each of the others once and come back to it
abbrev pub ring_at : List Tri → ℕ → ℕ → Option Tri → Bool
ring_at ts v n None = false
ring_at ts v n (Some t) = comes_round ts v (second_of v t) n (third_of v t)

abbrev pub ring_from : List Tri → ℕ → ℕ → ℕ → Bool
ring_from ts v n l = cond (n == 0) false (ring_at ts v (n - 1) (slice_get ts l))

-- v has a corner, and the walk from its last triangle passes all its corners
abbrev pub ringed : List Tri → ℕ → Bool
ringed ts v = ring_from ts v (corners_to ts v (length ts)) (last_to ts v (length ts))

abbrev pub unringed_at : List Tri → ℕ → Bool
unringed_at ts v = not (ringed ts v)

-- the lowest vertex without one ring
unfoldable pub first_unringed : ℕ → List Tri → Option ℕ
first_unringed V ts = first_in (unringed_at ts) 0 V
