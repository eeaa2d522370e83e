-- The grid: a place is three numbers of 16 bits, a displacement three signed ones.
use Rattle.std.specs.Prelude.{ℕ, Bool, cond, ◌&&◌, List, ◌++◌, length, ℤ, pos, negsuc, ◌+ℤ◌, Some, None, Option, nat_lt}
use Rattle.std.specs.Int.{w16}
use Rattle.std.proofs.Common.{to_z, of_z}
use Rattle.place.specs.declared.grid.Grid.{Grid}
use Rattle.place.specs.declared.grid.GridDisplacement.{GridDisplacement}
use Rattle.place.specs.Kinds.{Kind}
use Rattle.place.specs.Words.{half, half_bytes}

-- the place with these coordinates
abbrev pub grid : ℕ → ℕ → ℕ → Grid
grid x y z = record { x = x; y = y; z = z }

-- the displacement by these numbers
abbrev pub grid_displacement : ℤ → ℤ → ℤ → GridDisplacement
grid_displacement x y z = record { x = x; y = y; z = z }

-- each coordinate has 16 bits
abbrev pub grid_holds : Grid → Bool
grid_holds p = nat_lt p.x 65536 && (nat_lt p.y 65536 && nat_lt p.z 65536)

-- a signed number has 16 bits: it is -32,768 at least and 32,767 at most
abbrev pub short : ℤ → Bool
short (pos n) = nat_lt n 32768
short (negsuc n) = nat_lt n 32768

-- each number of the displacement has 16 bits
abbrev pub grid_holds_displacement : GridDisplacement → Bool
grid_holds_displacement d = short d.x && (short d.y && short d.z)

-- the place in the first six bytes, none where there are fewer
abbrev pub grid_read : List ℕ → Option Grid
grid_read bs = cond (nat_lt (length bs) 6) None (Some (grid (half bs 0) (half bs 2) (half bs 4)))

-- the two bytes of x, those of y, those of z
abbrev pub grid_bytes : Grid → List ℕ
grid_bytes p = half_bytes p.x ++ (half_bytes p.y ++ half_bytes p.z)

-- the displacement in the first six bytes, in two's complement, none where there are fewer
abbrev pub grid_read_displacement : List ℕ → Option GridDisplacement
grid_read_displacement bs = cond (nat_lt (length bs) 6) None (Some (grid_displacement (to_z w16 (half bs 0)) (to_z w16 (half bs 2)) (to_z w16 (half bs 4))))

-- the two bytes of each number, in two's complement
abbrev pub grid_displacement_bytes : GridDisplacement → List ℕ
grid_displacement_bytes d = half_bytes (of_z w16 d.x) ++ (half_bytes (of_z w16 d.y) ++ half_bytes (of_z w16 d.z))

-- the number as a coordinate, none below 0 or over 65,535
abbrev pub coordinate : ℤ → Option ℕ
coordinate (pos n) = cond (nat_lt n 65536) (Some n) None
coordinate (negsuc n) = None

-- the place of three coordinates, where all are there
abbrev pub grid_of : Option ℕ → Option ℕ → Option ℕ → Option Grid
grid_of None y z = None
grid_of (Some x) None z = None
grid_of (Some x) (Some y) None = None
grid_of (Some x) (Some y) (Some z) = Some (grid x y z)

-- a sum for each coordinate, none where one is no coordinate
abbrev pub grid_displaced : Grid → GridDisplacement → Option Grid
grid_displaced p d = grid_of (coordinate (pos p.x +ℤ d.x)) (coordinate (pos p.y +ℤ d.y)) (coordinate (pos p.z +ℤ d.z))

-- the grid, whose kind byte is 1
abbrev pub grid_kind : Kind Grid GridDisplacement
grid_kind = record {
  byte = 1;
  width = 6;
  displacement_width = 6;
  origin = grid 0 0 0;
  holds = grid_holds;
  holds_displacement = grid_holds_displacement;
  read = grid_read;
  bytes = grid_bytes;
  read_displacement = grid_read_displacement;
  displacement_bytes = grid_displacement_bytes;
  displaced = grid_displaced;
}
