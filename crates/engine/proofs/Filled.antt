-- The polygons of trees, one tree after another.
use Rattle.std.proofs.Common.{◌≡◌, ℕ, zero, suc, ◌+◌, ◌-◌, ◌*◌, ◌<◌, ◌≤◌, Bool, true, false, eqb, List, ◌∷◌, ◌++◌, length, get_or, take, drop, Some, None, sym, refl, ap, ◌∙◌, arith, append_assoc, append-nil, length-drop, length-take-le, drop-drop}
use borrow.Author.Tests.{clash}
use Rattle.std.specs.List.{sum_by}
use Rattle.std.proofs.lemmas.List.{drop_more, drop_all, take_all, take-map, drop-map}
use Rattle.std.proofs.lemmas.List.Sums.{sum_by-drop_more}
use Rattle.std.proofs.lemmas.Slice.{take-put_mid}
use borrow.Rule.Slice.PartMut.{put_mid}
use Rattle.forest.specs.Polygons.{Code, closes, polygon}
use Rattle.forest.specs.Tables.{filled, flag_of, flags_of, unclosed_from, word_tris}
use Rattle.runs.specs.Parts.{code_of}
use Rattle.engine.proofs.Closing.{meant, closes_take, unclosed_more, unclosed_here}
use Rattle.engine.proofs.Parts.{word_tris_append}

-- the first i trees, with so many positions and codes, have their triangles in the table
pub record Filled (ks bs us cs : List ℕ) (i from at : ℕ) (ws : List ℕ) : Type 0 where
  pub closed : unclosed_from i (drop i ks) (meant (drop at cs)) ≡ None
  pub numbers_left : from + sum_by (λ n. n) (drop i ks) ≤ length us
  pub codes_left : at + sum_by (λ n. n - 2) (drop i ks) ≡ length cs
  pub done : word_tris (take (3 * at) ws) ++ filled (drop i ks) (flags_of (drop i bs)) (drop from us) (meant (drop at cs)) ≡ filled ks (flags_of bs) us (meant cs)

pub filled_none : (ks bs us cs ws : List ℕ) → unclosed_from 0 ks (meant cs) ≡ None → sum_by (λ n. n) ks ≤ length us → sum_by (λ n. n - 2) ks ≡ length cs → Filled ks bs us cs 0 0 0 ws
filled_none ks bs us cs ws e f g = record {
  closed = e;
  numbers_left = omega arith;
  codes_left = omega arith;
  done = refl;
}

pub filled_all : (ks bs us cs : List ℕ) (i from at : ℕ) (ws : List ℕ) → Filled ks bs us cs i from at ws → length ks ≤ i → length ws ≡ 3 * length cs → word_tris ws ≡ filled ks (flags_of bs) us (meant cs)
filled_all ks bs us cs i from at ws d h l =
    let e = drop_all i ks h in
    let g = ap (sum_by (λ n. n - 2)) e in
    let c = d.codes_left in
    let a : length ws ≤ 3 * at = omega arith in
    ap word_tris (sym (take_all (3 * at) ws a))
    ∙ sym (append-nil (word_tris (take (3 * at) ws)))
    ∙ ap (λ xs. word_tris (take (3 * at) ws) ++ filled xs (flags_of (drop i bs)) (drop from us) (meant (drop at cs))) (sym e)
    ∙ d.done

none_some : {n : ℕ} → Some n ≡ None → ⊥
none_some e = cc

-- the next tree
pub record Tree (ks us cs : List ℕ) (i from at : ℕ) : Type 0 where
  pub close : closes 1 (get_or ks i 0 - 2) (meant (drop at cs)) ≡ true
  pub three : 3 ≤ get_or ks i 0
  pub numbers : from + get_or ks i 0 ≤ length us
  pub codes : at + (get_or ks i 0 - 2) ≤ length cs

more_than_none : (n : ℕ) (cs : List Code) → closes 1 n cs ≡ true → 0 < n
more_than_none zero cs e = absurd (clash e)
more_than_none (suc n) cs e = omega arith

pub part_length : (n m : ℕ) (xs : List ℕ) → n + m ≤ length xs → length (take m (drop n xs)) ≡ m
part_length n m xs h = length-take-le m (drop n xs) (omega (arith, length-drop n xs))

module _ (ks bs us cs : List ℕ) (i from at : ℕ) (ws : List ℕ) (d : Filled ks bs us cs i from at ws) (h : i < length ks) where
  pub tree_now : Tree ks us cs i from at
  tree_now =
      let n = get_or ks i 0 in
      let close : closes 1 (n - 2) (meant (drop at cs)) ≡ true = go (closes 1 (n - 2) (meant (drop at cs))) refl in
      let e = more_than_none (n - 2) (meant (drop at cs)) close in
      let f = d.numbers_left in
      let g = d.codes_left in
      record {
        close = close;
        three = omega arith;
        numbers = omega (arith, sum_by-drop_more (λ n. n) ks i 0 h);
        codes = omega (arith, sum_by-drop_more (λ n. n - 2) ks i 0 h);
      }
    where
      go : (b : Bool) → closes 1 (get_or ks i 0 - 2) (meant (drop at cs)) ≡ b → closes 1 (get_or ks i 0 - 2) (meant (drop at cs)) ≡ true
      go true e = e
      go false e = absurd (none_some (unclosed_here i ks (drop at cs) h e ∙ d.closed))

  pub part_closes : closes 1 (length (take (get_or ks i 0 - 2) (drop at cs))) (meant (take (get_or ks i 0 - 2) (drop at cs))) ≡ true
  part_closes =
      let m = get_or ks i 0 - 2 in
      let t = tree_now in
      ap (λ k. closes 1 k (meant (take m (drop at cs)))) (part_length at m cs t.codes) ∙ ap (closes 1 m) (sym (take-map code_of m (drop at cs))) ∙ closes_take 1 m (meant (drop at cs)) ∙ t.close

  pub filled_more : (ts : List ℕ) → length bs ≡ length ks → length ws ≡ 3 * length cs → length ts ≡ 3 * (get_or ks i 0 - 2)
      → word_tris ts ≡ polygon (eqb (get_or bs i 0) 1) (length (take (get_or ks i 0) (drop from us))) (take (get_or ks i 0) (drop from us)) (meant (take (get_or ks i 0 - 2) (drop at cs)))
      → Filled ks bs us cs (i + 1) (from + get_or ks i 0) (at + (get_or ks i 0 - 2)) (put_mid (3 * at) (3 * (get_or ks i 0 - 2)) ws ts)
  filled_more ts paired room long e =
      let n = get_or ks i 0 in
      let m = n - 2 in
      let t = tree_now in
      let f = d.numbers_left in
      let g = d.codes_left in
      let b = flag_of (get_or bs i 0) in
      let codes = t.codes in
      let front = word_tris (take (3 * at) ws) in
      let rest = filled (drop (i + 1) ks) (flags_of (drop (i + 1) bs)) (drop (from + n) us) (meant (drop (at + m) cs)) in
      let whole : length (take (3 * at) ws) ≡ 3 * at = length-take-le (3 * at) ws (omega arith) in
      let written : word_tris (take (3 * (at + m)) (put_mid (3 * at) (3 * m) ws ts)) ≡ front ++ word_tris ts =
      ap word_tris (take-put_mid (3 * at) (3 * m) ws ts (3 * (at + m)) (omega arith) (omega arith)) ∙ word_tris_append at (take (3 * at) ws) ts whole in
      let ours : word_tris ts ≡ polygon b n (take n (drop from us)) (take m (meant (drop at cs))) =
      e ∙ ap (λ k. polygon b k (take n (drop from us)) (meant (take m (drop at cs)))) (part_length from n us t.numbers) ∙ ap (polygon b n (take n (drop from us))) (sym (take-map code_of m (drop at cs))) in
      record {
        closed = ap (λ xs. unclosed_from (i + 1) (drop (i + 1) ks) (meant xs)) (sym (drop-drop m at cs)) ∙ sym (unclosed_more i ks (drop at cs) h t.close) ∙ d.closed;
        numbers_left = omega (arith, sum_by-drop_more (λ n. n) ks i 0 h);
        codes_left = omega (arith, sum_by-drop_more (λ n. n - 2) ks i 0 h);
        done =
            ap (λ xs. xs ++ rest) (written ∙ ap (λ xs. front ++ xs) ours)
            ∙ append_assoc front (polygon b n (take n (drop from us)) (take m (meant (drop at cs)))) rest
            ∙ ap (λ xs. front ++ (polygon b n (take n (drop from us)) (take m (meant (drop at cs))) ++ filled (drop (i + 1) ks) (flags_of (drop (i + 1) bs)) xs (meant (drop (at + m) cs)))) (sym (drop-drop n from us))
            ∙ ap (λ xs. front ++ (polygon b n (take n (drop from us)) (take m (meant (drop at cs))) ++ filled (drop (i + 1) ks) (flags_of (drop (i + 1) bs)) (drop n (drop from us)) xs))
            (ap meant (sym (drop-drop m at cs)) ∙ sym (drop-map code_of m (drop at cs)))
            ∙ ap (λ xs. front ++ filled (n ∷ drop (i + 1) ks) (flags_of xs) (drop from us) (meant (drop at cs))) (sym (drop_more bs i 0 (omega arith)))
            ∙ ap (λ xs. front ++ filled xs (flags_of (drop i bs)) (drop from us) (meant (drop at cs))) (sym (drop_more ks i 0 h))
            ∙ d.done;
      }
