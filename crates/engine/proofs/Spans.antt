-- How many codes a part has.
use Rattle.std.proofs.Common.{◌≡◌, ℕ, zero, suc, ◌+◌, ◌<◌, ◌≤◌, List, [], ◌∷◌, map, length, get_or, set, drop, sym, refl, ap, ◌∙◌, arith, ne_eqb, length-drop, drop-drop, get_or-set_same, get_or-set_other}
use native.Mathlib.Decide.{ℕ_discrete}
use Rattle.std.proofs.lemmas.List.{length-map, drop-map, drop_more, drop_all}
use Rattle.forest.specs.Polygons.{Code, neither, only_left, only_right, both, after, span}
use Rattle.runs.specs.Parts.{code_of}

pub code_both : (c : ℕ) → 3 ≤ c → code_of c ≡ both
code_both c h =
    let a = ne_eqb c 0 (λ e. omega arith) in
    let b = ne_eqb c 1 (λ e. omega arith) in
    let d = ne_eqb c 2 (λ e. omega arith) in
    rw (a, b, d) refl

after_add : (c : Code) (a b m : ℕ) → m ≡ a + b → after c m ≡ after c a + b
after_add neither a b m e = e
after_add only_left a b m e = omega arith
after_add only_right a b m e = omega arith
after_add both a b m e = omega arith

-- a + b parts: the first a, then b
span_join : (a b m : ℕ) (cs : List Code) → m ≡ a + b → span m cs ≡ span a cs + span b (drop (span a cs) cs)
span_join zero b m cs e = let f : m ≡ b = omega arith in let g : span m cs ≡ span b cs = ap (λ k. span k cs) f in omega arith
span_join (suc a) b zero cs e = absurd (omega arith)
span_join (suc a) zero (suc m) [] e = omega arith
span_join (suc a) (suc b) (suc m) [] e = omega arith
span_join (suc a) b (suc m) (c ∷ cs) e =
    let f : m ≡ a + b = omega arith in
    let h = span_join (after c a) b (after c m) cs (after_add c a b m f) in
    omega arith

pub span_two : (cs : List Code) → span 2 cs ≡ span 1 cs + span 1 (drop (span 1 cs) cs)
span_two cs = span_join 1 1 2 cs refl

pub span_le : (n : ℕ) (cs : List Code) → span n cs ≤ length cs
span_le zero cs = omega arith
span_le (suc n) [] = omega arith
span_le (suc n) (c ∷ cs) = let h = span_le (after c n) cs in omega arith

-- a part whose first code opens two
pub span_both : (c : ℕ) (cs : List Code) → 3 ≤ c → span 1 (code_of c ∷ cs) ≡ span 1 cs + span 1 (drop (span 1 cs) cs) + 1
span_both c cs h =
    let e : span 1 (code_of c ∷ cs) ≡ suc (span 2 cs) = ap (λ d. suc (span (after d 0) cs)) (code_both c h) in
    let j = span_two cs in
    omega arith

-- the sizes from code i on stand in the table, and `left` is that of the part which code i begins
pub record Sized (cs : List ℕ) (i left : ℕ) (sizes : List ℕ) : Type 0 where
  pub here : left ≡ span 1 (map code_of (drop i cs))
  pub later : (k : ℕ) → i ≤ k → k < length cs → get_or sizes k 0 ≡ span 1 (drop (k + 1) (map code_of cs))

pub sized_none : (cs sizes : List ℕ) → Sized cs (length cs) 0 sizes
sized_none cs sizes = record {
  here = sym (ap (λ xs. span 1 (map code_of xs)) (drop_all (length cs) cs (omega arith)));
  later = λ k h l. absurd (omega arith);
}

-- one code lower
module _ (cs sizes : List ℕ) (i j left : ℕ) (next : j ≡ i + 1) (low : i < length cs) (room : length cs ≤ length sizes) (d : Sized cs j left sizes) where
  pub left_is : left ≡ span 1 (map code_of (drop (i + 1) cs))
  left_is = d.here ∙ ap (λ k. span 1 (map code_of (drop k cs))) next

  pub left_le : left + (i + 1) ≤ length cs
  left_le = let h = span_le 1 (map code_of (drop (i + 1) cs)) in let e = left_is in omega (arith, length-map (drop (i + 1) cs) code_of, length-drop (i + 1) cs)

  pub later_now : (k : ℕ) → i ≤ k → k < length cs → get_or (set sizes i left) k 0 ≡ span 1 (drop (k + 1) (map code_of cs))
  later_now k h l = go (ℕ_discrete k i)
    where
      go : Dec (k ≡ i) → get_or (set sizes i left) k 0 ≡ span 1 (drop (k + 1) (map code_of cs))
      go (yes e) =
          ap (λ n. get_or (set sizes i left) n 0) e ∙ get_or-set_same sizes i left 0 (omega arith) ∙ left_is
          ∙ ap (span 1) (sym (drop-map code_of (i + 1) cs)) ∙ ap (λ n. span 1 (drop (n + 1) (map code_of cs))) (sym e)
      go (no e) = get_or-set_other sizes i k left 0 e ∙ d.later k (omega arith) l

  pub right_is : get_or (set sizes i left) (i + left) 0 ≡ span 1 (drop left (map code_of (drop (i + 1) cs)))
  right_is =
      let le = left_le in
      let e : i + left + 1 ≡ i + 1 + left = omega arith in
      later_now (i + left) (omega arith) (omega arith)
      ∙ ap (λ n. span 1 (drop n (map code_of cs))) e
      ∙ ap (span 1) (sym (drop-drop left (i + 1) (map code_of cs)) ∙ ap (drop left) (drop-map code_of (i + 1) cs))

  pub both_le : left + get_or (set sizes i left) (i + left) 0 + (i + 1) ≤ length cs
  both_le =
      let rest = map code_of (drop (i + 1) cs) in
      let e = left_is in
      let f = right_is in
      let h = span_le 1 (drop left rest) in
      let le = left_le in
      omega (arith, length-drop left rest, length-map (drop (i + 1) cs) code_of, length-drop (i + 1) cs)

  pub sized_more : (size : ℕ) → size ≡ span 1 (code_of (get_or cs i 0) ∷ map code_of (drop (i + 1) cs)) → Sized cs i size (set sizes i left)
  sized_more size e = record {
    here = e ∙ ap (λ xs. span 1 (map code_of xs)) (sym (drop_more cs i 0 low));
    later = later_now;
  }
