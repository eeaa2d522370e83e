-- The laws of the floats.
use Rattle.std.specs.Prelude.{◌≡◌, ℕ, ◌<◌, ◌≤◌, true, false, cond, ◌&&◌, List, ◌++◌, length, take, Some, None, from_bits, nat_lt, to_bits, refl, Float}
use Rattle.std.proofs.Common.{ap, sym, ◌∙◌, arith}
use Rattle.std.specs.Float.{binary32}
use Rattle.std.specs.Float.Ieee.{fits}
use Rattle.std.specs.Float.Ieee.Bits.{of_bits-to_bits, to_bits-lt}
use denote.Floats.{passes}
use Rattle.std.proofs.lemmas.Bool.{le-ltb, lt-ltb, and_parts}
use Rattle.place.specs.declared.float_place.FloatPlace.{FloatPlace}
use Rattle.place.specs.declared.float.FloatDisplacement.{FloatDisplacement}
use Rattle.place.specs.Finite.{three_fit}
use Rattle.place.specs.Kinds.{Lawful}
use Rattle.place.specs.Words.{word, word_bytes}
use Rattle.place.specs.Floats.{float_kind, float_place, float_displacement, float_at, three_bytes, float_read, float_bytes, float_read_displacement, float_displacement_bytes}
use Rattle.place.specs.Numbers.{word_back, word_front, front_length}
use Rattle.place.specs.Places.{place_of}

float_back : (v : Float) → fits binary32 v ≡ true → from_bits binary32 (word (word_bytes (to_bits binary32 v)) 0) ≡ v
float_back v h =
    ap (from_bits binary32) (word_back (to_bits binary32 v) (to_bits-lt binary32 v (passes _ h)))
    ∙ of_bits-to_bits binary32 v (passes _ h)

-- three numbers in front of any bytes
module _ (x y z : Float) (rest : List ℕ) (held : three_fit x y z ≡ true) where
  y_z_fit : (fits binary32 y && fits binary32 z) ≡ true
  y_z_fit = (and_parts (fits binary32 x) (fits binary32 y && fits binary32 z) held).1

  x_back : float_at (three_bytes x y z ++ rest) 0 ≡ x
  x_back = float_back x (and_parts (fits binary32 x) (fits binary32 y && fits binary32 z) held).0

  y_back : float_at (three_bytes x y z ++ rest) 4 ≡ y
  y_back = float_back y (and_parts (fits binary32 y) (fits binary32 z) y_z_fit).0

  z_back : float_at (three_bytes x y z ++ rest) 8 ≡ z
  z_back = float_back z (and_parts (fits binary32 y) (fits binary32 z) y_z_fit).1

  enough : nat_lt (length (three_bytes x y z ++ rest)) 12 ≡ false
  enough = le-ltb _ _ (omega arith)

reads_back : (p : FloatPlace) (rest : List ℕ) → true ≡ true → float_read (float_bytes p ++ rest) ≡ Some p
reads_back p rest h =
    let x = x_back p.x p.y p.z rest p.held in
    let y = y_back p.x p.y p.z rest p.held in
    let z = z_back p.x p.y p.z rest p.held in
    let long = enough p.x p.y p.z rest p.held in
    (λ i. cond (long i) None (float_place (x i) (y i) (z i))) ∙ place_of p

displacement_reads_back : (d : FloatDisplacement) (rest : List ℕ) → three_fit d.x d.y d.z ≡ true → float_read_displacement (float_displacement_bytes d ++ rest) ≡ Some d
displacement_reads_back d rest h =
    let x = x_back d.x d.y d.z rest h in
    let y = y_back d.x d.y d.z rest h in
    let z = z_back d.x d.y d.z rest h in
    let long = enough d.x d.y d.z rest h in
    λ i. cond (long i) None (Some (float_displacement (x i) (y i) (z i)))

reads_front : (bs : List ℕ) → float_read bs ≡ float_read (take 12 bs)
reads_front bs =
    let x = ap (from_bits binary32) (word_front 12 bs 0 (omega arith)) in
    let y = ap (from_bits binary32) (word_front 12 bs 4 (omega arith)) in
    let z = ap (from_bits binary32) (word_front 12 bs 8 (omega arith)) in
    let short = front_length 12 bs in
    sym (λ i. cond (short i) None (float_place (x i) (y i) (z i)))

reads_short : (bs : List ℕ) → length bs < 12 → float_read bs ≡ None
reads_short bs h = ap (λ b. cond b None (float_place (float_at bs 0) (float_at bs 4) (float_at bs 8))) (lt-ltb _ _ h)

displacement_reads_front : (bs : List ℕ) → float_read_displacement bs ≡ float_read_displacement (take 12 bs)
displacement_reads_front bs =
    let x = ap (from_bits binary32) (word_front 12 bs 0 (omega arith)) in
    let y = ap (from_bits binary32) (word_front 12 bs 4 (omega arith)) in
    let z = ap (from_bits binary32) (word_front 12 bs 8 (omega arith)) in
    let short = front_length 12 bs in
    sym (λ i. cond (short i) None (Some (float_displacement (x i) (y i) (z i))))

displacement_reads_short : (bs : List ℕ) → length bs < 12 → float_read_displacement bs ≡ None
displacement_reads_short bs h = ap (λ b. cond b None (Some (float_displacement (float_at bs 0) (float_at bs 4) (float_at bs 8)))) (lt-ltb _ _ h)

displacement_reads : (bs : List ℕ) → 12 ≤ length bs → (d : FloatDisplacement) × (float_read_displacement bs ≡ Some d)
displacement_reads bs h = (_, ap (λ b. cond b None (Some (float_displacement (float_at bs 0) (float_at bs 4) (float_at bs 8)))) (le-ltb _ _ h))

pub float_lawful : Lawful float_kind
float_lawful = record {
  reads_back = reads_back;
  displacement_reads_back = displacement_reads_back;
  long = λ p. refl;
  displacement_long = λ d. refl;
  narrow = omega arith;
  displacement_narrow = omega arith;
  reads_front = reads_front;
  displacement_reads_front = displacement_reads_front;
  reads_short = reads_short;
  displacement_reads_short = displacement_reads_short;
  displacement_reads = displacement_reads;
}
