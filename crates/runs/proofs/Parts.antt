-- The parts of a record are as many as they should be.
use Rattle.std.proofs.Common.{◌≡◌, ℕ, zero, suc, ◌+◌, ◌-◌, ◌*◌, ◌/◌, ◌%◌, ◌^◌, ◌<◌, ◌≤◌, cond, eqb, List, [], ◌∷◌, map, length, get_or, drop, None, refl, ap, ◌∙◌, add-mul, one-mul, arith, length-drop, eqb-true}
use lib.ListN.{length-map}
use Rattle.std.specs.List.{range_with_len}
use Rattle.fault.specs.declared.fault.Fault.TheVariants.{RecordSize}
use Rattle.fault.proofs.Orders.{test_passed}
use Rattle.place.specs.Kinds.{Kind, Lawful}
use Rattle.mesh.specs.Triangles.{Tri}
use Rattle.mesh.specs.Sides.{Side}
use Rattle.mesh.specs.Edges.{edges}
use Rattle.std.proofs.lemmas.List.FromFn.{length-map-range_with_len}
use Rattle.record.specs.Packing.{mark_in, marks_set}
use Rattle.record.specs.Parts.{code_count, displacements_from, marks_of, codes_read, displacements_of, set_count, due_size}
use Rattle.record.specs.Checks.{size_fault}
use Rattle.forest.specs.Marks.{marked_edges}
use Rattle.forest.specs.Splitting.{marked_of}
use Rattle.runs.specs.Parts.{record_marks, code_of, record_codes, in_front, displacements_read, record_displacements}

-- the remainder by two, as a mark is
mark_small : (ms : List ℕ) (e : ℕ) → mark_in ms e < 2
mark_small ms e = low (get_or ms (e / 8) 0 / 2 ^ (1 * (8 - 1 - e % 8)))
  where
    low : (n : ℕ) → n % 2 ^ 1 < 2
    low n = omega arith

-- the marks set before edge i, and those of the edges from i on
marks_from : (ms : List ℕ) (es : List Side) (i : ℕ) → marks_set ms i + length (marked_edges es (map (λ n. eqb n 1) (map (mark_in ms) (range_with_len i (length es))))) ≡ marks_set ms (i + length es)
marks_from ms [] i = let e : i + 0 ≡ i = omega arith in let z = ap (marks_set ms) e in omega arith
marks_from ms (e ∷ es) i =
    let r = marks_from ms es (i + 1) in
    let j : i + 1 ≡ suc i = omega arith in
    let a : marks_set ms (i + 1) ≡ marks_set ms i + mark_in ms i = ap (marks_set ms) j in
    let b = one (mark_in ms i) (mark_small ms i) in
    let c : i + 1 + length es ≡ i + suc (length es) = omega arith in
    let d = ap (marks_set ms) c in
    omega arith
  where
    rest : List Side
    rest = marked_edges es (map (λ n. eqb n 1) (map (mark_in ms) (range_with_len (i + 1) (length es))))

    one : (n : ℕ) → n < 2 → length (cond (eqb n 1) (e ∷ rest) rest) ≡ n + length rest
    one zero h = omega arith
    one (suc zero) h = omega arith
    one (suc (suc n)) h = absurd (omega arith)

-- as many edges are marked as marks are set
pub marked_counted : (ts : List Tri) (bs : List ℕ) → length (marked_of ts (record_marks bs (length (edges ts)))) ≡ set_count bs (length (edges ts))
marked_counted ts bs =
    let r = marks_from (marks_of bs (length (edges ts))) (edges ts) 0 in
    let e : 0 + length (edges ts) ≡ length (edges ts) = omega arith in
    let z = ap (marks_set (marks_of bs (length (edges ts)))) e in
    omega arith

pub codes_counted : (bs : List ℕ) (m : ℕ) → length (record_codes bs m) ≡ code_count bs
codes_counted bs m = length-map (codes_read bs m) code_of ∙ length-map-range_with_len _ 0 (code_count bs)

-- each displacement reads whose bytes are there
pub all_read : {P D : Type 0} (k : Kind P D) → Lawful k → (n : ℕ) (bs : List ℕ) → n * k.displacement_width ≤ length bs → length (displacements_read k n bs) ≡ n
all_read k law zero bs h = refl
all_read k law (suc n) bs h =
    let w = k.displacement_width in
    let a = add-mul n 1 w in
    let b = one-mul w in
    let c : suc n * w ≡ (n + 1) * w = ap (λ i. i * w) (omega arith) in
    let r = law.displacement_reads bs (omega arith) in
    let l = length-drop w bs in
    ap (λ o. length (in_front o (displacements_read k n (drop w bs)))) r.1 ∙ ap suc (all_read k law n (drop w bs) (omega arith))

-- two displacements for each mark that is set
pub displacements_counted : {P D : Type 0} (k : Kind P D) → Lawful k → (bs : List ℕ) (m : ℕ) → size_fault k bs m ≡ None → length (record_displacements k bs m) ≡ 2 * set_count bs m
displacements_counted k law bs m e =
    let s = eqb-true (length bs) (due_size k bs m) (test_passed _ RecordSize e) in
    let l = length-drop (displacements_from bs m) bs in
    all_read k law (2 * set_count bs m) (displacements_of bs m) (omega arith)
