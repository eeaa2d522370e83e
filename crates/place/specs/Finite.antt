-- What three numbers have to be for a float place.
use Rattle.std.specs.Prelude.{Bool, ◌&&◌, Float}
use Rattle.std.specs.Float.Ieee.{fits}
use Rattle.std.specs.Float.{float_is_finite, binary32}

-- none of the three is infinite or a NaN
abbrev pub three_finite : Float → Float → Float → Bool
three_finite x y z = float_is_finite x && (float_is_finite y && float_is_finite z)

-- each is a number of binary32, as every f32 is
abbrev pub three_fit : Float → Float → Float → Bool
three_fit x y z = fits binary32 x && (fits binary32 y && fits binary32 z)
