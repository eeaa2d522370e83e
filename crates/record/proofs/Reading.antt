-- What is written reads back.
use Rattle.std.proofs.Common.{◌≡◌, ℕ, suc, ◌+◌, ◌-◌, ◌*◌, ◌/◌, ◌%◌, ◌^◌, ◌<◌, ◌≤◌, true, ◌&&◌, eqb, ltb, leb, List, ◌++◌, length, get_or, take, drop, Some, None, sym, refl, ap, ◌∙◌, ⊎_elim, arith}
use Rattle.std.proofs.lemmas.List.FromFn.{fill_by_all}
use Rattle.std.proofs.lemmas.List.{take_at, drop_at, drop-drop, take_all, ext_get_or, get_or-drop, get_or_append_left}
use Rattle.std.proofs.lemmas.Bool.{cases_lt, le-leb, lt-ltb, eq-eqb, cond-true, and_from}
use Rattle.std.proofs.lemmas.Nat.{from_be_bytes-to_be_bytes_4}
use Rattle.fault.specs.Faults.{or_else}
use Rattle.fault.specs.declared.fault.Fault.TheVariants.{PartLengths, RecordLength, RecordKind, MarksCutShort, SpareMarkBit, RecordSize, SpareCodeBit}
use Rattle.fault.proofs.Orders.{or_none, none_or, test_passed}
use Rattle.place.specs.Kinds.{Kind}
use Rattle.place.specs.Words.{word}
use Rattle.record.specs.Packing.{bytes_for, spare_of, mark_in, code_in, mark_at, code_at, packed, Small, marks_set}
use Rattle.record.specs.Parts.{code_count, codes_from, marks_of, codes_of, displacements_of, set_count, due_size}
use Rattle.record.specs.Checks.{length_fault, version_fault, kind_fault, marks_fault, spare_mark_fault, head_fault, size_fault, code_bits_fault, layout_fault}
use Rattle.record.specs.Written.{body_size, record_size, packed_marks, packed_codes, record_bytes}
use Rattle.record.specs.Refusals.{not_zero, parts_fit, over_fault}
use Rattle.record.specs.Theorems.{Accepted, ReadsAs, ReadsBack, OneToOne}
use Rattle.record.proofs.Readiness.{none_over, Few, few, displacements_due}
use Rattle.record.proofs.Writing.{length_packed, length_record}
use Rattle.record.proofs.Ending.{ends, none_spare}
use Rattle.record.proofs.Unpacking.{number_packed, last_low, marks_counted}

-- ---- spare bits

low_bits : (w n k : ℕ) (xs : List ℕ) (j b s : ℕ) → j ≤ n → length xs ≡ n * k + j → b ≡ get_or (packed w n (suc k) xs) k 0 → s ≡ n - j → b % 2 ^ (w * s) ≡ 0
low_bits w n k xs j b s l e f g = ap (λ (t : ℕ). t % 2 ^ (w * s)) f ∙ ap (λ (t : ℕ). get_or (packed w n (suc k) xs) k 0 % 2 ^ (w * t)) g ∙ last_low w n k xs j l e

-- the last byte of numbers that were packed has no spare bit set
spare_written : (w n : ℕ) (xs : List ℕ) (b : ℕ) → 0 < n → (0 < length xs → b ≡ get_or (packed w n (bytes_for n (length xs)) xs) (bytes_for n (length xs) - 1) 0) → spare_of w n (length xs) b ≡ 0
spare_written w n xs b pos at = ⊎_elim some (none_spare w n (length xs) b) (cases_lt 0 (length xs))
  where
    some : 0 < length xs → spare_of w n (length xs) b ≡ 0
    some h =
        let e = ends n (length xs) pos h in
        let last : bytes_for n (length xs) - 1 ≡ e.0 = omega (arith, e.1.1.bytes) in
        low_bits w n e.0 xs e.1.0 b ((n - length xs % n) % n) e.1.1.few e.1.1.numbers
        (at h ∙ ap (λ (t : ℕ). get_or (packed w n (bytes_for n (length xs)) xs) t 0) last ∙ ap (λ (t : ℕ). get_or (packed w n t xs) e.0 0) e.1.1.bytes)
        e.1.1.spare

-- ---- a record that was written

module _ {P D : Type 0} (k : Kind P D) (narrow : k.displacement_width ≤ 12) (ms cs ds : List ℕ) (taken : Accepted k ms cs ds) where
  abbrev bs : List ℕ
  bs = record_bytes k ms cs ds

  fit : parts_fit k ms cs ds ≡ true
  fit = test_passed (parts_fit k ms cs ds) PartLengths taken.parts_fit

  short : Few ms cs ds
  short = few k narrow ms cs ds (parts_fit k ms cs ds) refl fit

  marks_small : Small 1 ms
  marks_small i = omega (arith, none_over 1 0 ms (or_none (over_fault 1 0 ms) (over_fault 3 0 cs) taken.values_fit).0 i)

  codes_small : Small 2 cs
  codes_small i = omega (arith, none_over 3 0 cs (or_none (over_fault 1 0 ms) (over_fault 3 0 cs) taken.values_fit).1 i)

  long : length bs ≡ record_size ms cs ds
  long = length_record k ms cs ds

  -- the fields of the head
  length_back : word bs 0 ≡ body_size ms cs ds
  length_back = let f = short in from_be_bytes-to_be_bytes_4 (body_size ms cs ds) (omega arith)

  count_back : code_count bs ≡ length cs
  count_back = let f = short in from_be_bytes-to_be_bytes_4 (length cs) (omega arith)

  -- the stretches
  marks_back : marks_of bs (length ms) ≡ packed_marks ms
  marks_back = take_at (packed_marks ms) (packed_codes cs ++ ds) (bytes_for 8 (length ms)) (length_packed 1 8 (bytes_for 8 (length ms)) ms)

  behind_marks : drop (codes_from (length ms)) bs ≡ packed_codes cs ++ ds
  behind_marks =
      sym (drop-drop (bytes_for 8 (length ms)) 10 bs)
      ∙ drop_at (packed_marks ms) (packed_codes cs ++ ds) (bytes_for 8 (length ms)) (length_packed 1 8 (bytes_for 8 (length ms)) ms)

  codes_long : length (packed_codes cs) ≡ bytes_for 4 (code_count bs)
  codes_long = length_packed 2 4 (bytes_for 4 (length cs)) cs ∙ ap (bytes_for 4) (sym count_back)

  codes_back : codes_of bs (length ms) ≡ packed_codes cs
  codes_back = ap (take (bytes_for 4 (code_count bs))) behind_marks ∙ take_at (packed_codes cs) ds (bytes_for 4 (code_count bs)) codes_long

  displacements_back : displacements_of bs (length ms) ≡ ds
  displacements_back =
      sym (drop-drop (bytes_for 4 (code_count bs)) (codes_from (length ms)) bs)
      ∙ ap (drop (bytes_for 4 (code_count bs))) behind_marks
      ∙ drop_at (packed_codes cs) ds (bytes_for 4 (code_count bs)) codes_long

  -- their numbers
  mark_back : (e : ℕ) → e < length ms → mark_in (packed_marks ms) e ≡ get_or ms e 0
  mark_back e h = number_packed 1 8 (bytes_for 8 (length ms)) ms e marks_small (omega arith) (omega arith)

  code_back : (i : ℕ) → i < length cs → code_in (packed_codes cs) i ≡ get_or cs i 0
  code_back i h = number_packed 2 4 (bytes_for 4 (length cs)) cs i codes_small (omega arith) (omega arith)

  set_back : set_count bs (length ms) ≡ not_zero ms
  set_back =
      ap (λ (l : List ℕ). marks_set l (length ms)) marks_back
      ∙ marks_counted (packed_marks ms) ms (length ms) marks_small mark_back (omega arith)
      ∙ ap not_zero (take_all (length ms) ms (omega arith))

  -- the checks
  length_passes : length_fault bs ≡ None
  length_passes =
      let a : leb 10 (length bs) ≡ true = le-leb 10 (length bs) (omega (arith, long)) in
      let b : eqb (word bs 0 + 4) (length bs) ≡ true = eq-eqb (word bs 0 + 4) (length bs) (omega (arith, long, length_back)) in
      cond-true (leb 10 (length bs) && eqb (word bs 0 + 4) (length bs)) None (Some RecordLength) (and_from _ _ a b)

  kind_passes : kind_fault k bs ≡ None
  kind_passes = cond-true (eqb k.byte k.byte) None (Some RecordKind) (eq-eqb k.byte k.byte refl)

  marks_pass : marks_fault bs (length ms) ≡ None
  marks_pass =
      let a : leb (length ms) 49152 ≡ true = le-leb (length ms) 49152 short.few_marks in
      let b : leb (codes_from (length ms)) (length bs) ≡ true = le-leb (codes_from (length ms)) (length bs) (omega (arith, long)) in
      cond-true (leb (length ms) 49152 && leb (codes_from (length ms)) (length bs)) None (Some MarksCutShort) (and_from _ _ a b)

  last_mark : 0 < length ms → get_or bs (9 + bytes_for 8 (length ms)) 0 ≡ get_or (packed_marks ms) (bytes_for 8 (length ms) - 1) 0
  last_mark h =
      let i = bytes_for 8 (length ms) - 1 in
      let e : 9 + bytes_for 8 (length ms) ≡ 10 + i = omega arith in
      let l : i < length (packed_marks ms) = omega (arith, length_packed 1 8 (bytes_for 8 (length ms)) ms) in
      ap (λ (t : ℕ). get_or bs t 0) e ∙ sym (get_or-drop 10 bs i 0) ∙ get_or_append_left (packed_marks ms) (packed_codes cs ++ ds) 0 i l

  spare_marks_pass : spare_mark_fault bs (length ms) ≡ None
  spare_marks_pass =
      let last = 9 + bytes_for 8 (length ms) in
      let b = get_or bs last 0 in
      cond-true (eqb (spare_of 1 8 (length ms) b) 0) None (Some (SpareMarkBit last)) (eq-eqb (spare_of 1 8 (length ms) b) 0 (spare_written 1 8 ms b (omega arith) last_mark))

  size_passes : size_fault k bs (length ms) ≡ None
  size_passes =
      let f : 2 * set_count bs (length ms) * k.displacement_width ≡ length ds = ap (λ (t : ℕ). 2 * t * k.displacement_width) set_back ∙ sym (displacements_due k narrow ms cs ds fit) in
      let n : bytes_for 4 (code_count bs) ≡ bytes_for 4 (length cs) = ap (bytes_for 4) count_back in
      cond-true (eqb (length bs) (due_size k bs (length ms))) None (Some RecordSize) (eq-eqb (length bs) (due_size k bs (length ms)) (omega (arith, long, f, n)))

  last_code : 0 < length cs → get_or bs (9 + bytes_for 8 (length ms) + bytes_for 4 (code_count bs)) 0 ≡ get_or (packed_codes cs) (bytes_for 4 (length cs) - 1) 0
  last_code h =
      let i = bytes_for 4 (length cs) - 1 in
      let n : bytes_for 4 (code_count bs) ≡ bytes_for 4 (length cs) = ap (bytes_for 4) count_back in
      let e : 9 + bytes_for 8 (length ms) + bytes_for 4 (code_count bs) ≡ codes_from (length ms) + i = omega (arith, n) in
      let l : i < length (packed_codes cs) = omega (arith, length_packed 2 4 (bytes_for 4 (length cs)) cs) in
      ap (λ (t : ℕ). get_or bs t 0) e ∙ sym (get_or-drop (codes_from (length ms)) bs i 0) ∙ ap (λ (t : List ℕ). get_or t i 0) behind_marks ∙ get_or_append_left (packed_codes cs) ds 0 i l

  code_bits_pass : code_bits_fault bs (length ms) ≡ None
  code_bits_pass =
      let last = 9 + bytes_for 8 (length ms) + bytes_for 4 (code_count bs) in
      let b = get_or bs last 0 in
      let z : spare_of 2 4 (code_count bs) b ≡ 0 = ap (λ (t : ℕ). spare_of 2 4 t b) count_back ∙ spare_written 2 4 cs b (omega arith) last_code in
      cond-true (eqb (spare_of 2 4 (code_count bs) b) 0) None (Some (SpareCodeBit last)) (eq-eqb (spare_of 2 4 (code_count bs) b) 0 z)

  layout_passes : layout_fault k bs (length ms) ≡ None
  layout_passes =
      let m = length ms in
      let marks = none_or (marks_fault bs m) (spare_mark_fault bs m) marks_pass spare_marks_pass in
      let kinds = none_or (kind_fault k bs) _ kind_passes marks in
      let head = none_or (length_fault bs) (or_else (version_fault bs) (or_else (kind_fault k bs) (or_else (marks_fault bs m) (spare_mark_fault bs m)))) length_passes kinds in
      none_or (head_fault k bs m) _ head (none_or (size_fault k bs m) (code_bits_fault bs m) size_passes code_bits_pass)

  pub reads_as : ReadsAs k bs ms cs ds
  reads_as = record {
    no_fault = layout_passes;
    same_marks = sym (fill_by_all (mark_in (marks_of bs (length ms))) ms (length ms) 0 refl (λ e h. sym (ap (λ (l : List ℕ). mark_in l e) marks_back ∙ mark_back e h)));
    same_codes = sym (fill_by_all (code_in (codes_of bs (length ms))) cs (code_count bs) 0 (sym count_back) (λ i h. sym (ap (λ (l : List ℕ). code_in l i) codes_back ∙ code_back i (omega (arith, count_back)))));
    same_displacements = displacements_back;
    each_mark = λ e h.
        let p : e / 8 < length (packed_marks ms) = omega (arith, length_packed 1 8 (bytes_for 8 (length ms)) ms) in
        ap (λ (l : List ℕ). mark_at l e) marks_back
        ∙ cond-true (ltb (e / 8) (length (packed_marks ms))) (Some (eqb (mark_in (packed_marks ms) e) 1)) None (lt-ltb (e / 8) (length (packed_marks ms)) p)
        ∙ ap (λ (v : ℕ). Some (eqb v 1)) (mark_back e h);
    each_code = λ i h.
        let p : i / 4 < length (packed_codes cs) = omega (arith, length_packed 2 4 (bytes_for 4 (length cs)) cs) in
        ap (λ (l : List ℕ). code_at l i) codes_back
        ∙ cond-true (ltb (i / 4) (length (packed_codes cs))) (Some (code_in (packed_codes cs) i)) None (lt-ltb (i / 4) (length (packed_codes cs)) p)
        ∙ ap (λ (v : ℕ). Some v) (code_back i h);
  }

-- ---- two records that were written

module _ {P D : Type 0} (k : Kind P D) (narrow : k.displacement_width ≤ 12) where
  pub reads_back : ReadsBack k
  reads_back ms cs ds taken = reads_as k narrow ms cs ds taken

  module _ (ms cs ds ns es gs : List ℕ) (one : Accepted k ms cs ds) (two : Accepted k ns es gs) (edges : length ms ≡ length ns) (bytes : record_bytes k ms cs ds ≡ record_bytes k ns es gs) where
    marks_match : packed_marks ms ≡ packed_marks ns
    marks_match =
        sym (marks_back k narrow ms cs ds one)
        ∙ ap (λ (n : ℕ). marks_of (record_bytes k ms cs ds) n) edges
        ∙ ap (λ (b : List ℕ). marks_of b (length ns)) bytes
        ∙ marks_back k narrow ns es gs two

    counts_match : length cs ≡ length es
    counts_match = sym (count_back k narrow ms cs ds one) ∙ ap code_count bytes ∙ count_back k narrow ns es gs two

    codes_match : packed_codes cs ≡ packed_codes es
    codes_match =
        sym (codes_back k narrow ms cs ds one)
        ∙ ap (λ (n : ℕ). codes_of (record_bytes k ms cs ds) n) edges
        ∙ ap (λ (b : List ℕ). codes_of b (length ns)) bytes
        ∙ codes_back k narrow ns es gs two

    same_marks : ms ≡ ns
    same_marks =
        ext_get_or 0 ms ns edges
        (λ e h. sym (mark_back k narrow ms cs ds one e h) ∙ ap (λ (b : List ℕ). mark_in b e) marks_match ∙ mark_back k narrow ns es gs two e (omega arith))

    same_codes : cs ≡ es
    same_codes =
        ext_get_or 0 cs es counts_match
        (λ i h. let l : i < length es = omega (arith, counts_match) in sym (code_back k narrow ms cs ds one i h) ∙ ap (λ (b : List ℕ). code_in b i) codes_match ∙ code_back k narrow ns es gs two i l)

    same_displacements : ds ≡ gs
    same_displacements =
        sym (displacements_back k narrow ms cs ds one)
        ∙ ap (λ (n : ℕ). displacements_of (record_bytes k ms cs ds) n) edges
        ∙ ap (λ (b : List ℕ). displacements_of b (length ns)) bytes
        ∙ displacements_back k narrow ns es gs two

  pub one_to_one : OneToOne k
  one_to_one ms cs ds ns es gs one two edges bytes =
      (same_marks ms cs ds ns es gs one two edges bytes, same_codes ms cs ds ns es gs one two edges bytes, same_displacements ms cs ds ns es gs one two edges bytes)
