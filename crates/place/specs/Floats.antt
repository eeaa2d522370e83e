-- Places of three finite numbers of binary32, displaced by one sum a coordinate.
use Rattle.std.specs.Prelude.{◌≡◌, ℕ, Bool, true, false, cond, List, ◌++◌, length, Some, None, Option, from_bits, nat_lt, to_bits, refl, Float}
use Rattle.std.specs.Float.Ieee.{fits, add}
use Rattle.std.specs.Float.{float_is_finite, float_zero, binary32}
use Rattle.place.specs.declared.float_place.FloatPlace.{FloatPlace}
use Rattle.place.specs.declared.float.FloatDisplacement.{FloatDisplacement}
use Rattle.place.specs.Finite.{three_finite, three_fit}
use Rattle.place.specs.Kinds.{Kind}
use Rattle.place.specs.Words.{word, word_bytes}

-- the place of three numbers, where both tests come out true
abbrev pub float_place_if : (x y z : Float) (e f : Bool) → three_finite x y z ≡ e → three_fit x y z ≡ f → Option FloatPlace
float_place_if x y z true true p q = Some (record { x = x; y = y; z = z; real = p; held = q })
float_place_if x y z true false p q = None
float_place_if x y z false f p q = None

-- The place of three numbers, none where one is infinite or a NaN.
-- The second test fails for no f32: it fails for no sum, and for nothing that bytes stand for.
unfoldable pub float_place : Float → Float → Float → Option FloatPlace
float_place x y z = float_place_if x y z (three_finite x y z) (three_fit x y z) refl refl

-- three times 0, with a clear sign
abbrev pub float_origin : FloatPlace
unfolding float_is_finite fits
float_origin = record { x = float_zero; y = float_zero; z = float_zero; real = refl; held = refl }

-- the displacement by these numbers
abbrev pub float_displacement : Float → Float → Float → FloatDisplacement
float_displacement x y z = record { x = x; y = y; z = z }

-- the number that the four bytes from i on stand for
abbrev pub float_at : List ℕ → ℕ → Float
float_at bs i = from_bits binary32 (word bs i)

-- the four bytes of x, those of y, those of z
abbrev pub three_bytes : Float → Float → Float → List ℕ
three_bytes x y z = word_bytes (to_bits binary32 x) ++ (word_bytes (to_bits binary32 y) ++ word_bytes (to_bits binary32 z))

-- the place in the first twelve bytes, none where there are fewer or a number is not finite
abbrev pub float_read : List ℕ → Option FloatPlace
float_read bs = cond (nat_lt (length bs) 12) None (float_place (float_at bs 0) (float_at bs 4) (float_at bs 8))

-- the bytes of a place
abbrev pub float_bytes : FloatPlace → List ℕ
float_bytes p = three_bytes p.x p.y p.z

-- the displacement in the first twelve bytes, none where there are fewer
abbrev pub float_read_displacement : List ℕ → Option FloatDisplacement
float_read_displacement bs = cond (nat_lt (length bs) 12) None (Some (float_displacement (float_at bs 0) (float_at bs 4) (float_at bs 8)))

-- the bytes of a displacement, each NaN by one pattern
abbrev pub float_displacement_bytes : FloatDisplacement → List ℕ
float_displacement_bytes d = three_bytes d.x d.y d.z

-- a sum for each coordinate, rounded once, to nearest, and to even where two are as near; none where a sum is not finite
abbrev pub float_displaced : FloatPlace → FloatDisplacement → Option FloatPlace
float_displaced p d = float_place (add binary32 p.x d.x) (add binary32 p.y d.y) (add binary32 p.z d.z)

-- the floats, whose kind byte is 2
abbrev pub float_kind : Kind FloatPlace FloatDisplacement
float_kind = record {
  byte = 2;
  width = 12;
  displacement_width = 12;
  origin = float_origin;
  holds = λ _. true;
  holds_displacement = λ d. three_fit d.x d.y d.z;
  read = float_read;
  bytes = float_bytes;
  read_displacement = float_read_displacement;
  displacement_bytes = float_displacement_bytes;
  displaced = float_displaced;
}
