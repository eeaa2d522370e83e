-- What a kind of place means: its byte, its widths, and what reading, writing and displacing give.
use Rattle.std.specs.Prelude.{◌≡◌, ℕ, ◌<◌, ◌≤◌, Bool, true, List, ◌++◌, length, take, Some, None, Option}

pub record Kind (P D : Type 0) : Type 0 where
  -- the kind byte of its sheets and records
  pub byte : ℕ
  -- how many bytes a place takes, and a displacement
  pub width : ℕ
  pub displacement_width : ℕ
  -- a place of the kind
  pub origin : P
  -- which places and displacements a program can hold (numbers of the logic have no bounds)
  pub holds : P → Bool
  pub holds_displacement : D → Bool
  -- the place that the first bytes stand for, none where they are too few or stand for none
  pub read : List ℕ → Option P
  pub bytes : P → List ℕ
  -- the displacement that the first bytes stand for, none where they are too few
  pub read_displacement : List ℕ → Option D
  pub displacement_bytes : D → List ℕ
  -- the place displaced, none where it would be no place of the kind
  pub displaced : P → D → Option P

-- A kind's constants are its byte and its widths.
pub record Constant {P D : Type 0} (k : Kind P D) (byte width displacement_width : ℕ) : Type 0 where
  pub byte_told : byte ≡ k.byte
  pub width_told : width ≡ k.width
  pub displacement_width_told : displacement_width ≡ k.displacement_width

-- What every kind shows of itself.
pub record Lawful {P D : Type 0} (k : Kind P D) : Type 0 where
  -- a place that is written reads back, whatever follows it
  pub reads_back : (p : P) (rest : List ℕ) → k.holds p ≡ true → k.read (k.bytes p ++ rest) ≡ Some p
  pub displacement_reads_back : (d : D) (rest : List ℕ) → k.holds_displacement d ≡ true → k.read_displacement (k.displacement_bytes d ++ rest) ≡ Some d
  pub long : (p : P) → length (k.bytes p) ≡ k.width
  pub displacement_long : (d : D) → length (k.displacement_bytes d) ≡ k.displacement_width
  pub narrow : k.width ≤ 12
  pub displacement_narrow : k.displacement_width ≤ 12
  -- reading looks at the first bytes alone
  pub reads_front : (bs : List ℕ) → k.read bs ≡ k.read (take k.width bs)
  pub displacement_reads_front : (bs : List ℕ) → k.read_displacement bs ≡ k.read_displacement (take k.displacement_width bs)
  -- too few bytes are none
  pub reads_short : (bs : List ℕ) → length bs < k.width → k.read bs ≡ None
  pub displacement_reads_short : (bs : List ℕ) → length bs < k.displacement_width → k.read_displacement bs ≡ None
  -- a displacement reads wherever its bytes are there
  pub displacement_reads : (bs : List ℕ) → k.displacement_width ≤ length bs → (d : D) × (k.read_displacement bs ≡ Some d)
