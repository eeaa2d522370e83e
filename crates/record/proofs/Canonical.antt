-- Bytes that pass the layout call's checks are those that the writer would write.
use Rattle.std.proofs.Common.{◌≡◌, ℕ, zero, suc, ◌+◌, ◌-◌, ◌<◌, ◌≤◌, ◌&&◌, eqb, leb, List, [], ◌∷◌, ◌++◌, length, get_or, take, drop, None, sym, refl, ap, ◌∙◌, subst, ⊎_elim, arith}
use Rattle.std.proofs.lemmas.List.FromFn.{length-map-range_with_len}
use Rattle.std.proofs.lemmas.List.{take-append-drop, drop-drop, length-take-le, length-drop, get_or-take, get_or-drop, get_or_past}
use Rattle.std.proofs.lemmas.Nat.{be_bytes_4}
use Rattle.std.proofs.lemmas.Bool.{leb-true, eqb-true, and_parts, cases_lt}
use Rattle.fault.specs.Faults.{or_else}
use Rattle.fault.specs.declared.fault.Fault.TheVariants.{RecordLength, RecordVersion, RecordKind, MarksCutShort, SpareMarkBit, RecordSize, SpareCodeBit}
use Rattle.fault.proofs.Orders.{or_none, test_passed}
use Rattle.place.specs.Kinds.{Kind}
use Rattle.place.specs.Words.{word, word_bytes}
use Rattle.record.specs.Packing.{bytes_for, spare_of, mark_in, code_in, packed, Small}
use Rattle.record.specs.Parts.{code_count, codes_from, displacements_from, marks_of, codes_of, displacements_of, marks_read, codes_read, due_size}
use Rattle.record.specs.Checks.{length_fault, version_fault, kind_fault, marks_fault, spare_mark_fault, head_fault, size_fault, code_bits_fault, layout_fault}
use Rattle.record.specs.Written.{body_size, head_bytes, packed_marks, packed_codes, record_bytes}
use Rattle.record.specs.Theorems.{WritesBack}
use Rattle.record.proofs.Ending.{ends, none_spare}
use Rattle.record.proofs.Repacking.{numbers_repacked}

-- ---- the head

-- the ten bytes of a head, and what follows
ten : (bs : List ℕ) → 10 ≤ length bs → bs ≡ ((get_or bs 0 0 ∷ get_or bs 1 0 ∷ get_or bs 2 0 ∷ get_or bs 3 0 ∷ []) ++ (get_or bs 4 0 ∷ get_or bs 5 0 ∷ get_or bs 6 0 ∷ get_or bs 7 0 ∷ get_or bs 8 0 ∷ get_or bs 9 0 ∷ [])) ++ drop 10 bs
ten [] l = absurd (omega arith)
ten (a ∷ []) l = absurd (omega arith)
ten (a ∷ b ∷ []) l = absurd (omega arith)
ten (a ∷ b ∷ c ∷ []) l = absurd (omega arith)
ten (a ∷ b ∷ c ∷ d ∷ []) l = absurd (omega arith)
ten (a ∷ b ∷ c ∷ d ∷ e ∷ []) l = absurd (omega arith)
ten (a ∷ b ∷ c ∷ d ∷ e ∷ f ∷ []) l = absurd (omega arith)
ten (a ∷ b ∷ c ∷ d ∷ e ∷ f ∷ g ∷ []) l = absurd (omega arith)
ten (a ∷ b ∷ c ∷ d ∷ e ∷ f ∷ g ∷ h ∷ []) l = absurd (omega arith)
ten (a ∷ b ∷ c ∷ d ∷ e ∷ f ∷ g ∷ h ∷ i ∷ []) l = absurd (omega arith)
ten (a ∷ b ∷ c ∷ d ∷ e ∷ f ∷ g ∷ h ∷ i ∷ j ∷ bs) l = refl

-- ---- a part of the bytes

part_length : (bs : List ℕ) (n i : ℕ) → i + n ≤ length bs → length (take n (drop i bs)) ≡ n
part_length bs n i l = length-take-le n (drop i bs) (omega (arith, length-drop i bs))

part_get_or : (bs : List ℕ) (n i j : ℕ) → j < n → get_or (take n (drop i bs)) j 0 ≡ get_or bs (i + j) 0
part_get_or bs n i j l = get_or-take n (drop i bs) j 0 l ∙ get_or-drop i bs j 0

part_bytes : (bs : List ℕ) (n i : ℕ) → i + n ≤ length bs → Small 8 bs → (j : ℕ) → get_or (take n (drop i bs)) j 0 < 256
part_bytes bs n i l small j = ⊎_elim within past (cases_lt j n)
  where
    within : j < n → get_or (take n (drop i bs)) j 0 < 256
    within h = subst (λ (t : ℕ). t < 256) (sym (part_get_or bs n i j h)) (small (i + j))

    past : n ≤ j → get_or (take n (drop i bs)) j 0 < 256
    past h = let e = get_or_past (take n (drop i bs)) j 0 (omega (arith, part_length bs n i l)) in omega arith

-- ---- bytes that pass

-- what the checks show
record Sound {P D : Type 0} (k : Kind P D) (bs : List ℕ) (m : ℕ) : Type 0 where
  head_there : 10 ≤ length bs
  length_is : word bs 0 + 4 ≡ length bs
  version_is : get_or bs 4 0 ≡ 1
  kind_is : get_or bs 5 0 ≡ k.byte
  marks_there : codes_from m ≤ length bs
  marks_low : spare_of 1 8 m (get_or bs (9 + bytes_for 8 m) 0) ≡ 0
  size_is : length bs ≡ due_size k bs m
  codes_low : spare_of 2 4 (code_count bs) (get_or bs (9 + bytes_for 8 m + bytes_for 4 (code_count bs)) 0) ≡ 0

sound : {P D : Type 0} (k : Kind P D) (bs : List ℕ) (m : ℕ) → layout_fault k bs m ≡ None → Sound k bs m
sound k bs m none =
    let last_mark = 9 + bytes_for 8 m in
    let last_code = 9 + bytes_for 8 m + bytes_for 4 (code_count bs) in
    let all = or_none (head_fault k bs m) (or_else (size_fault k bs m) (code_bits_fault bs m)) none in
    let rest = or_none (size_fault k bs m) (code_bits_fault bs m) all.1 in
    let a = or_none (length_fault bs) (or_else (version_fault bs) (or_else (kind_fault k bs) (or_else (marks_fault bs m) (spare_mark_fault bs m)))) all.0 in
    let b = or_none (version_fault bs) (or_else (kind_fault k bs) (or_else (marks_fault bs m) (spare_mark_fault bs m))) a.1 in
    let c = or_none (kind_fault k bs) (or_else (marks_fault bs m) (spare_mark_fault bs m)) b.1 in
    let d = or_none (marks_fault bs m) (spare_mark_fault bs m) c.1 in
    let lengths = and_parts (leb 10 (length bs)) (eqb (word bs 0 + 4) (length bs)) (test_passed (leb 10 (length bs) && eqb (word bs 0 + 4) (length bs)) RecordLength a.0) in
    let edges = and_parts (leb m 49152) (leb (codes_from m) (length bs)) (test_passed (leb m 49152 && leb (codes_from m) (length bs)) MarksCutShort d.0) in
    record {
      head_there = leb-true 10 (length bs) lengths.0;
      length_is = eqb-true (word bs 0 + 4) (length bs) lengths.1;
      version_is = eqb-true (get_or bs 4 0) 1 (test_passed (eqb (get_or bs 4 0) 1) RecordVersion b.0);
      kind_is = eqb-true (get_or bs 5 0) k.byte (test_passed (eqb (get_or bs 5 0) k.byte) RecordKind c.0);
      marks_there = leb-true (codes_from m) (length bs) edges.1;
      marks_low = eqb-true (spare_of 1 8 m (get_or bs last_mark 0)) 0 (test_passed (eqb (spare_of 1 8 m (get_or bs last_mark 0)) 0) (SpareMarkBit last_mark) d.1);
      size_is = eqb-true (length bs) (due_size k bs m) (test_passed (eqb (length bs) (due_size k bs m)) RecordSize rest.0);
      codes_low = eqb-true (spare_of 2 4 (code_count bs) (get_or bs last_code 0)) 0 (test_passed (eqb (spare_of 2 4 (code_count bs) (get_or bs last_code 0)) 0) (SpareCodeBit last_code) rest.1);
    }

-- the last byte of a stretch of numbers, which begins at byte a, has no spare bit set if the bytes have none there
part_spare : (w n m a i : ℕ) (bs : List ℕ) → 0 < n → a ≡ 1 + i → spare_of w n m (get_or bs (i + bytes_for n m) 0) ≡ 0 → spare_of w n m (get_or (take (bytes_for n m) (drop a bs)) (bytes_for n m - 1) 0) ≡ 0
part_spare w n m a i bs pos at low = ⊎_elim some (none_spare w n m (get_or (take (bytes_for n m) (drop a bs)) (bytes_for n m - 1) 0)) (cases_lt 0 m)
  where
    some : 0 < m → spare_of w n m (get_or (take (bytes_for n m) (drop a bs)) (bytes_for n m - 1) 0) ≡ 0
    some h =
        let e = ends n m pos h in
        let last : a + (bytes_for n m - 1) ≡ i + bytes_for n m = omega (arith, e.1.1.bytes) in
        ap (spare_of w n m) (part_get_or bs (bytes_for n m) a (bytes_for n m - 1) (omega (arith, e.1.1.bytes)) ∙ ap (λ (t : ℕ). get_or bs t 0) last) ∙ low

module _ {P D : Type 0} (k : Kind P D) (bs : List ℕ) (m : ℕ) (small : Small 8 bs) (none : layout_fault k bs m ≡ None) where
  facts : Sound k bs m
  facts = sound k bs m none

  codes_there : codes_from m + bytes_for 4 (code_count bs) ≤ length bs
  codes_there = omega (arith, facts.size_is)

  marks_long : length (marks_read bs m) ≡ m
  marks_long = length-map-range_with_len (mark_in (marks_of bs m)) 0 m

  codes_long : length (codes_read bs m) ≡ code_count bs
  codes_long = length-map-range_with_len (code_in (codes_of bs m)) 0 (code_count bs)

  marks_again : packed_marks (marks_read bs m) ≡ marks_of bs m
  marks_again =
      ap (λ (t : ℕ). packed 1 8 (bytes_for 8 t) (marks_read bs m)) marks_long
      ∙ numbers_repacked 1 8 m (marks_of bs m) (omega arith) (part_length bs (bytes_for 8 m) 10 facts.marks_there) (part_bytes bs (bytes_for 8 m) 10 facts.marks_there small) (part_spare 1 8 m 10 9 bs (omega arith) (omega arith) facts.marks_low)

  codes_again : packed_codes (codes_read bs m) ≡ codes_of bs m
  codes_again =
      ap (λ (t : ℕ). packed 2 4 (bytes_for 4 t) (codes_read bs m)) codes_long
      ∙ numbers_repacked 2 4 (code_count bs) (codes_of bs m) (omega arith) (part_length bs (bytes_for 4 (code_count bs)) (codes_from m) codes_there) (part_bytes bs (bytes_for 4 (code_count bs)) (codes_from m) codes_there small) (part_spare 2 4 (code_count bs) (codes_from m) (9 + bytes_for 8 m) bs (omega arith) (omega arith) facts.codes_low)

  -- the stretches one behind another
  body_again : packed_marks (marks_read bs m) ++ (packed_codes (codes_read bs m) ++ displacements_of bs m) ≡ drop 10 bs
  body_again =
      ap (λ (t : List ℕ). t ++ (packed_codes (codes_read bs m) ++ displacements_of bs m)) marks_again
      ∙ ap (λ (t : List ℕ). marks_of bs m ++ (t ++ displacements_of bs m)) codes_again
      ∙ ap (λ (t : List ℕ). marks_of bs m ++ (codes_of bs m ++ t)) (sym (drop-drop (bytes_for 4 (code_count bs)) (codes_from m) bs))
      ∙ ap (λ (t : List ℕ). marks_of bs m ++ t) (take-append-drop (bytes_for 4 (code_count bs)) (drop (codes_from m) bs))
      ∙ ap (λ (t : List ℕ). marks_of bs m ++ t) (sym (drop-drop (bytes_for 8 m) 10 bs))
      ∙ take-append-drop (bytes_for 8 m) (drop 10 bs)

  size_again : body_size (marks_read bs m) (codes_read bs m) (displacements_of bs m) ≡ word bs 0
  size_again =
      let a : bytes_for 8 (length (marks_read bs m)) ≡ bytes_for 8 m = ap (bytes_for 8) marks_long in
      let b : bytes_for 4 (length (codes_read bs m)) ≡ bytes_for 4 (code_count bs) = ap (bytes_for 4) codes_long in
      omega (arith, length-drop (displacements_from bs m) bs, codes_there, facts.length_is)

  word_at : (i : ℕ) → word_bytes (word bs i) ≡ get_or bs i 0 ∷ get_or bs (i + 1) 0 ∷ get_or bs (i + 2) 0 ∷ get_or bs (i + 3) 0 ∷ []
  word_at i = be_bytes_4 (get_or bs i 0 ∷ get_or bs (i + 1) 0 ∷ get_or bs (i + 2) 0 ∷ get_or bs (i + 3) 0 ∷ []) (word bs i) refl each refl
    where
      each : (j : ℕ) → get_or (get_or bs i 0 ∷ get_or bs (i + 1) 0 ∷ get_or bs (i + 2) 0 ∷ get_or bs (i + 3) 0 ∷ []) j 0 < 256
      each zero = small i
      each (suc zero) = small (i + 1)
      each (suc (suc zero)) = small (i + 2)
      each (suc (suc (suc zero))) = small (i + 3)
      each (suc (suc (suc (suc j)))) = omega arith

  pub written_again : record_bytes k (marks_read bs m) (codes_read bs m) (displacements_of bs m) ≡ bs
  written_again =
      let a : word_bytes (body_size (marks_read bs m) (codes_read bs m) (displacements_of bs m)) ≡ get_or bs 0 0 ∷ get_or bs 1 0 ∷ get_or bs 2 0 ∷ get_or bs 3 0 ∷ [] = ap word_bytes size_again ∙ word_at 0 in
      let b : word_bytes (length (codes_read bs m)) ≡ get_or bs 6 0 ∷ get_or bs 7 0 ∷ get_or bs 8 0 ∷ get_or bs 9 0 ∷ [] = ap word_bytes codes_long ∙ word_at 6 in
      ap (λ (t : List ℕ). head_bytes k (body_size (marks_read bs m) (codes_read bs m) (displacements_of bs m)) (length (codes_read bs m)) ++ t) body_again
      ∙ ap (λ (t : List ℕ). (t ++ (1 ∷ k.byte ∷ word_bytes (length (codes_read bs m)))) ++ drop 10 bs) a
      ∙ ap (λ (t : List ℕ). ((get_or bs 0 0 ∷ get_or bs 1 0 ∷ get_or bs 2 0 ∷ get_or bs 3 0 ∷ []) ++ (1 ∷ k.byte ∷ t)) ++ drop 10 bs) b
      ∙ ap (λ (t : ℕ). ((get_or bs 0 0 ∷ get_or bs 1 0 ∷ get_or bs 2 0 ∷ get_or bs 3 0 ∷ []) ++ (t ∷ k.byte ∷ get_or bs 6 0 ∷ get_or bs 7 0 ∷ get_or bs 8 0 ∷ get_or bs 9 0 ∷ [])) ++ drop 10 bs) (sym facts.version_is)
      ∙ ap (λ (t : ℕ). ((get_or bs 0 0 ∷ get_or bs 1 0 ∷ get_or bs 2 0 ∷ get_or bs 3 0 ∷ []) ++ (get_or bs 4 0 ∷ t ∷ get_or bs 6 0 ∷ get_or bs 7 0 ∷ get_or bs 8 0 ∷ get_or bs 9 0 ∷ [])) ++ drop 10 bs) (sym facts.kind_is)
      ∙ sym (ten bs facts.head_there)

pub writes_back : {P D : Type 0} (k : Kind P D) → WritesBack k
writes_back k bs m small none = written_again k bs m small none
