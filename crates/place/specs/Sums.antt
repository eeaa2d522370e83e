-- Displacements worked out, and when one is refused.
use Rattle.std.specs.Prelude.{◌≡◌, ℕ, ◌≤◌, false, List, length, pos, negsuc, is_some, Some, None, Option, from_bits, to_bits}
use Rattle.std.specs.Float.Ieee.{add}
use Rattle.std.specs.Float.{float_zero, binary32}
use Rattle.std.specs.Option.{option_map, unwrap_or}
use Rattle.place.specs.declared.float_place.FloatPlace.{FloatPlace}
use Rattle.place.specs.declared.float.FloatDisplacement.{FloatDisplacement}
use Rattle.place.specs.Finite.{three_finite}
use Rattle.place.specs.Floats.{float_kind, float_place, float_displacement, float_at}
use Rattle.place.specs.Grids.{grid, grid_displacement, grid_kind}

-- Displacements at the edges of the grid.
pub record GridSums : Type 0 where
  pub over_x : grid_kind.displaced (grid 65535 0 0) (grid_displacement (pos 1) (pos 0) (pos 0)) ≡ None
  pub over_y : grid_kind.displaced (grid 0 65535 0) (grid_displacement (pos 0) (pos 1) (pos 0)) ≡ None
  pub over_z : grid_kind.displaced (grid 0 0 65535) (grid_displacement (pos 0) (pos 0) (pos 1)) ≡ None
  pub below_x : grid_kind.displaced (grid 0 9 9) (grid_displacement (negsuc 0) (pos 0) (pos 0)) ≡ None
  pub below_y : grid_kind.displaced (grid 9 0 9) (grid_displacement (pos 0) (negsuc 0) (pos 0)) ≡ None
  pub below_z : grid_kind.displaced (grid 9 9 0) (grid_displacement (pos 0) (pos 0) (negsuc 0)) ≡ None
  pub stays : grid_kind.displaced (grid 65535 0 9) (grid_displacement (pos 0) (pos 0) (pos 0)) ≡ Some (grid 65535 0 9)
  pub reaches : grid_kind.displaced (grid 32768 1 65534) (grid_displacement (pos 32767) (negsuc 0) (pos 1)) ≡ Some (grid 65535 0 65535)
  -- by -32,768, the lowest number of 16 bits
  pub lowest : grid_kind.displaced (grid 32768 65535 40000) (grid_displacement (negsuc 32767) (negsuc 32767) (negsuc 32767)) ≡ Some (grid 0 32767 7232)
  pub too_low : grid_kind.displaced (grid 32767 65535 40000) (grid_displacement (negsuc 32767) (negsuc 32767) (negsuc 32767)) ≡ None

-- the place whose first number has the pattern n, and the origin where that is none
abbrev pub float_start : ℕ → FloatPlace
float_start n = unwrap_or (float_place (from_bits binary32 n) float_zero float_zero) float_kind.origin

-- the pattern of the first number, displaced by the number with the pattern m
abbrev pub float_sum : ℕ → ℕ → Option ℕ
float_sum n m = option_map (λ (p : FloatPlace). to_bits binary32 p.x) (float_kind.displaced (float_start n) (float_displacement (from_bits binary32 m) float_zero float_zero))

-- How sums of floats are rounded, and which are refused.
pub record FloatSums : Type 0 where
  -- the sum of 1 and 2 ^ -24 lies halfway between 1 and the next number: the even one of the two is 1
  pub tie_down : float_sum 0x3f80_0000 0x3380_0000 ≡ Some 0x3f80_0000
  -- the sum of that next number and 2 ^ -24 lies halfway too: the even one is the number above
  pub tie_up : float_sum 0x3f80_0001 0x3380_0000 ≡ Some 0x3f80_0002
  -- the largest number and half its last place are rounded to infinity
  pub over : float_sum 0x7f7f_ffff 0x7300_0000 ≡ None
  -- the largest number and a little less than that stay the largest number
  pub largest : float_sum 0x7f7f_ffff 0x72ff_ffff ≡ Some 0x7f7f_ffff
  -- the smallest number and itself, a subnormal sum with no rounding
  pub smallest : float_sum 1 1 ≡ Some 2
  -- 0 and -0 are 0, and -0 and -0 are -0
  pub zeros : float_sum 0 0x8000_0000 ≡ Some 0
  pub minus_zeros : float_sum 0x8000_0000 0x8000_0000 ≡ Some 0x8000_0000
  -- 1 and -1 are 0
  pub opposite : float_sum 0x3f80_0000 0xbf80_0000 ≡ Some 0
  -- by an infinite number, and by a NaN
  pub infinite : float_sum 0 0x7f80_0000 ≡ None
  pub no_number : float_sum 0 0x7fc0_0000 ≡ None

-- When three floats are no place.
pub record FloatRefusals : Type 0 where
  -- a displacement is refused exactly where a sum is not finite
  pub displaced : (p : FloatPlace) (d : FloatDisplacement) → is_some (float_kind.displaced p d) ≡ three_finite (add binary32 p.x d.x) (add binary32 p.y d.y) (add binary32 p.z d.z)
  -- a displacement with a number that is not finite is always refused
  pub by_infinite : (p : FloatPlace) (d : FloatDisplacement) → three_finite d.x d.y d.z ≡ false → float_kind.displaced p d ≡ None
  -- twelve bytes and more are refused exactly where a number is not finite
  pub read : (bs : List ℕ) → 12 ≤ length bs → is_some (float_kind.read bs) ≡ three_finite (float_at bs 0) (float_at bs 4) (float_at bs 8)
