-- The laws of the grid.
use Rattle.std.specs.Prelude.{◌≡◌, ℕ, ◌<◌, ◌≤◌, true, false, cond, List, ◌++◌, length, take, ℤ, pos, negsuc, Some, None, FitsSigned, nat_lt, refl}
use Rattle.std.proofs.Common.{ap, sym, ◌∙◌, arith, to_z, of_z}
use Rattle.std.specs.Int.{w16}
use Rattle.std.proofs.lemmas.Int.{to_z-of_z}
use Rattle.std.proofs.lemmas.Bool.{ltb-true, le-ltb, lt-ltb, and_parts}
use Rattle.place.specs.declared.grid.Grid.{Grid}
use Rattle.place.specs.declared.grid.GridDisplacement.{GridDisplacement}
use Rattle.place.specs.Kinds.{Lawful}
use Rattle.place.specs.Words.{half, half_bytes}
use Rattle.place.specs.Grids.{grid, grid_displacement, grid_kind, grid_holds, grid_holds_displacement, short, grid_read, grid_bytes, grid_read_displacement, grid_displacement_bytes}
use Rattle.place.specs.Numbers.{half_back, half_front, front_length}

reads_back : (p : Grid) (rest : List ℕ) → grid_holds p ≡ true → grid_read (grid_bytes p ++ rest) ≡ Some p
reads_back p rest h =
    let a = and_parts _ _ h in
    let b = and_parts _ _ a.1 in
    let x = half_back p.x (ltb-true _ _ a.0) in
    let y = half_back p.y (ltb-true _ _ b.0) in
    let z = half_back p.z (ltb-true _ _ b.1) in
    let enough : nat_lt (length (grid_bytes p ++ rest)) 6 ≡ false = le-ltb _ _ (omega arith) in
    λ i. cond (enough i) None (Some (grid (x i) (y i) (z i)))

short_fits : (z : ℤ) → short z ≡ true → FitsSigned w16 z
short_fits (pos n) h = record { sfits = ltb-true _ _ h }
short_fits (negsuc n) h = record { sfits = ltb-true _ _ h }

short_back : (z : ℤ) → short z ≡ true → to_z w16 (half (half_bytes (of_z w16 z)) 0) ≡ z
short_back z h = ap (to_z w16) (half_back (of_z w16 z) (below z h)) ∙ to_z-of_z w16 z (short_fits z h)
  where
    below : (z : ℤ) → short z ≡ true → of_z w16 z < 65536
    below (pos n) h = omega (arith, ltb-true _ _ h)
    below (negsuc n) h = omega arith

displacement_reads_back : (d : GridDisplacement) (rest : List ℕ) → grid_holds_displacement d ≡ true → grid_read_displacement (grid_displacement_bytes d ++ rest) ≡ Some d
displacement_reads_back d rest h =
    let a = and_parts _ _ h in
    let b = and_parts _ _ a.1 in
    let x = short_back d.x a.0 in
    let y = short_back d.y b.0 in
    let z = short_back d.z b.1 in
    let enough : nat_lt (length (grid_displacement_bytes d ++ rest)) 6 ≡ false = le-ltb _ _ (omega arith) in
    λ i. cond (enough i) None (Some (grid_displacement (x i) (y i) (z i)))

reads_front : (bs : List ℕ) → grid_read bs ≡ grid_read (take 6 bs)
reads_front bs =
    let x = half_front 6 bs 0 (omega arith) in
    let y = half_front 6 bs 2 (omega arith) in
    let z = half_front 6 bs 4 (omega arith) in
    let short = front_length 6 bs in
    sym (λ i. cond (short i) None (Some (grid (x i) (y i) (z i))))

reads_short : (bs : List ℕ) → length bs < 6 → grid_read bs ≡ None
reads_short bs h = ap (λ b. cond b None (Some (grid (half bs 0) (half bs 2) (half bs 4)))) (lt-ltb _ _ h)

displacement_reads_front : (bs : List ℕ) → grid_read_displacement bs ≡ grid_read_displacement (take 6 bs)
displacement_reads_front bs =
    let x = half_front 6 bs 0 (omega arith) in
    let y = half_front 6 bs 2 (omega arith) in
    let z = half_front 6 bs 4 (omega arith) in
    let short = front_length 6 bs in
    sym (λ i. cond (short i) None (Some (grid_displacement (to_z w16 (x i)) (to_z w16 (y i)) (to_z w16 (z i)))))

displacement_reads_short : (bs : List ℕ) → length bs < 6 → grid_read_displacement bs ≡ None
displacement_reads_short bs h = ap (λ b. cond b None (Some (grid_displacement (to_z w16 (half bs 0)) (to_z w16 (half bs 2)) (to_z w16 (half bs 4))))) (lt-ltb _ _ h)

displacement_reads : (bs : List ℕ) → 6 ≤ length bs → (d : GridDisplacement) × (grid_read_displacement bs ≡ Some d)
displacement_reads bs h = (_, ap (λ b. cond b None (Some (grid_displacement (to_z w16 (half bs 0)) (to_z w16 (half bs 2)) (to_z w16 (half bs 4))))) (le-ltb _ _ h))

pub grid_lawful : Lawful grid_kind
grid_lawful = record {
  reads_back = reads_back;
  displacement_reads_back = displacement_reads_back;
  long = λ p. refl;
  displacement_long = λ d. refl;
  narrow = omega arith;
  displacement_narrow = omega arith;
  reads_front = reads_front;
  displacement_reads_front = displacement_reads_front;
  reads_short = reads_short;
  displacement_reads_short = displacement_reads_short;
  displacement_reads = displacement_reads;
}
