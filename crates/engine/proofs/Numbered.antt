-- Numbering the positions one after another, with a flag for each vertex that was met.
use Rattle.std.proofs.Common.{◌≡◌, ℕ, zero, suc, ◌+◌, ◌-◌, ◌/◌, ◌<◌, ◌≤◌, true, false, cond, ◌||◌, eqb, List, [], ◌∷◌, ◌++◌, length, get_or, set, take, drop, sym, refl, ap, ◌∙◌, arith, append_assoc, append-nil, add-one, length-set, get_or-set_same, get_or-set_other, eq-eqb, ne_eqb}
use native.Mathlib.Decide.{ℕ_discrete}
use Rattle.std.proofs.lemmas.Bool.{cond-true, cond-false}
use Rattle.std.proofs.lemmas.List.{take_more_set, drop_more, drop_all, take_all}
use Rattle.forest.specs.Numbering.{has, numbers, parents, unused}
use Rattle.forest.specs.Tables.{key_sides}

-- the vertex of a position
abbrev pub vertex_at : List ℕ → ℕ → ℕ
vertex_at ks i = get_or ks i 0 / 16384

-- the vertices of the first i positions, the last first
abbrev pub met : ℕ → List ℕ → List ℕ
met zero ks = []
met (suc i) ks = vertex_at ks i ∷ met i ks

-- after i positions, whose flags, numbers and parents stand in the tables, n is the next unused number
pub record Numbered (ks : List ℕ) (v i n : ℕ) (seen ns ps : List ℕ) : Type 0 where
  pub low : v ≤ n
  pub high : n ≤ v + i
  pub flags : (w : ℕ) → w < length seen → eqb (get_or seen w 0) 1 ≡ has w (met i ks)
  pub total : unused (met i ks) n (key_sides (drop i ks)) ≡ unused [] v (key_sides ks)
  pub values : take i ns ++ numbers (met i ks) n (key_sides (drop i ks)) ≡ numbers [] v (key_sides ks)
  pub olds : take (n - v) ps ++ parents (met i ks) (key_sides (drop i ks)) ≡ parents [] (key_sides ks)

-- one more item in the front of a table
one_more : {X : Type 0} (xs zs ts : List X) (i j : ℕ) (y : X) → j ≡ i + 1 → i < length xs → take i xs ++ y ∷ zs ≡ ts → take j (set xs i y) ++ zs ≡ ts
one_more xs zs ts i j y q h e = ap (λ k. take k (set xs i y) ++ zs) q ∙ ap (λ l. l ++ zs) (take_more_set xs i y h) ∙ append_assoc (take i xs) (y ∷ []) zs ∙ e

-- the flags once one more vertex is met
flagged : (seen xs : List ℕ) (x : ℕ) → x < length seen → ((w : ℕ) → w < length seen → eqb (get_or seen w 0) 1 ≡ has w xs)
    → (w : ℕ) → w < length (set seen x 1) → eqb (get_or (set seen x 1) w 0) 1 ≡ has w (x ∷ xs)
flagged seen xs x h f w l = go (ℕ_discrete w x)
  where
    go : Dec (w ≡ x) → eqb (get_or (set seen x 1) w 0) 1 ≡ (eqb x w || has w xs)
    go (yes e) = ap (λ y. eqb y 1) (ap (λ k. get_or (set seen x 1) k 0) e ∙ get_or-set_same seen x 1 0 h) ∙ sym (ap (λ b. b || has w xs) (eq-eqb x w (sym e)))
    go (no n) =
        let m : w < length seen = omega (arith, length-set seen x 1) in
        ap (λ y. eqb y 1) (get_or-set_other seen x w 1 0 n) ∙ f w m ∙ sym (ap (λ b. b || has w xs) (ne_eqb x w (λ e. n (sym e))))

pub numbered_none : (ks : List ℕ) (v : ℕ) (seen ns ps : List ℕ) → ((w : ℕ) → w < length seen → get_or seen w 0 ≡ 0) → Numbered ks v 0 v seen ns ps
numbered_none ks v seen ns ps z =
    let e : v - v ≡ 0 = omega arith in
    record {
      low = omega arith;
      high = omega arith;
      flags = λ w h. ap (λ y. eqb y 1) (z w h);
      total = refl;
      values = refl;
      olds = ap (λ k. take k ps ++ parents [] (key_sides ks)) e;
    }

-- the first position that is left
rest : (ks : List ℕ) (i : ℕ) → i < length ks → drop i ks ≡ get_or ks i 0 ∷ drop (i + 1) ks
rest ks i h = drop_more ks i 0 h

-- a position that is the first at its vertex
pub numbered_first : (ks : List ℕ) (v i n : ℕ) (seen ns ps : List ℕ) → Numbered ks v i n seen ns ps → i < length ks → length ns ≡ length ks → vertex_at ks i < length seen
    → eqb (get_or seen (vertex_at ks i) 0) 1 ≡ false → Numbered ks v (i + 1) n (set seen (vertex_at ks i) 1) (set ns i (vertex_at ks i)) ps
numbered_first ks v i n seen ns ps d h l w f =
    let x = vertex_at ks i in
    let ms = met i ks in
    let ss = key_sides (drop (i + 1) ks) in
    let q : has x ms ≡ false = sym (d.flags x w) ∙ f in
    let e = cond-false (has x ms) n x q in
    let e' = cond-false (has x ms) (suc n) n q in
    let lo = d.low in
    let hi = d.high in
    let k : met (i + 1) ks ≡ x ∷ ms = rw add-one refl in
    record {
      low = lo;
      high = omega arith;
      flags = rw k (flagged seen ms x w d.flags);
      total = ap (λ xs. unused xs n ss) k ∙ ap (λ j. unused (x ∷ ms) j ss) (sym e') ∙ ap (λ r. unused ms n (key_sides r)) (sym (rest ks i h)) ∙ d.total;
      values =
          ap (λ xs. take (i + 1) (set ns i x) ++ numbers xs n ss) k
          ∙ one_more ns (numbers (x ∷ ms) n ss) (numbers [] v (key_sides ks)) i (i + 1) x refl (omega arith) (
          ap (λ j. take i ns ++ x ∷ numbers (x ∷ ms) j ss) (sym e')
          ∙ ap (λ y. take i ns ++ y ∷ numbers (x ∷ ms) (cond (has x ms) (suc n) n) ss) (sym e)
          ∙ ap (λ r. take i ns ++ numbers ms n (key_sides r)) (sym (rest ks i h))
          ∙ d.values
          );
      olds =
          ap (λ xs. take (n - v) ps ++ parents xs ss) k
          ∙ ap (λ t. take (n - v) ps ++ t) (sym (cond-false (has x ms) (x ∷ parents (x ∷ ms) ss) (parents (x ∷ ms) ss) q))
          ∙ ap (λ r. take (n - v) ps ++ parents ms (key_sides r)) (sym (rest ks i h))
          ∙ d.olds;
    }

-- a position at a vertex that was met before
pub numbered_later : (ks : List ℕ) (v i n : ℕ) (seen ns ps : List ℕ) → Numbered ks v i n seen ns ps → i < length ks → length ns ≡ length ks → length ks ≤ length ps → vertex_at ks i < length seen
    → eqb (get_or seen (vertex_at ks i) 0) 1 ≡ true → Numbered ks v (i + 1) (n + 1) (set seen (vertex_at ks i) 1) (set ns i n) (set ps (n - v) (vertex_at ks i))
numbered_later ks v i n seen ns ps d h l room w f =
    let x = vertex_at ks i in
    let ms = met i ks in
    let ss = key_sides (drop (i + 1) ks) in
    let q : has x ms ≡ true = sym (d.flags x w) ∙ f in
    let e = cond-true (has x ms) n x q in
    let e' : n + 1 ≡ cond (has x ms) (suc n) n = rw add-one (sym (cond-true (has x ms) (suc n) n q)) in
    let lo = d.low in
    let hi = d.high in
    let k : met (i + 1) ks ≡ x ∷ ms = rw add-one refl in
    record {
      low = omega arith;
      high = omega arith;
      flags = rw k (flagged seen ms x w d.flags);
      total = ap (λ xs. unused xs (n + 1) ss) k ∙ ap (λ j. unused (x ∷ ms) j ss) e' ∙ ap (λ r. unused ms n (key_sides r)) (sym (rest ks i h)) ∙ d.total;
      values =
          ap (λ xs. take (i + 1) (set ns i n) ++ numbers xs (n + 1) ss) k
          ∙ one_more ns (numbers (x ∷ ms) (n + 1) ss) (numbers [] v (key_sides ks)) i (i + 1) n refl (omega arith) (
          ap (λ j. take i ns ++ n ∷ numbers (x ∷ ms) j ss) e'
          ∙ ap (λ y. take i ns ++ y ∷ numbers (x ∷ ms) (cond (has x ms) (suc n) n) ss) (sym e)
          ∙ ap (λ r. take i ns ++ numbers ms n (key_sides r)) (sym (rest ks i h))
          ∙ d.values
          );
      olds =
          ap (λ xs. take (n + 1 - v) (set ps (n - v) x) ++ parents xs ss) k
          ∙ one_more ps (parents (x ∷ ms) ss) (parents [] (key_sides ks)) (n - v) (n + 1 - v) x (omega arith) (omega arith) (
          ap (λ t. take (n - v) ps ++ t) (sym (cond-true (has x ms) (x ∷ parents (x ∷ ms) ss) (parents (x ∷ ms) ss) q))
          ∙ ap (λ r. take (n - v) ps ++ parents ms (key_sides r)) (sym (rest ks i h))
          ∙ d.olds
          );
    }

-- all positions
pub record AllNumbered (ks : List ℕ) (v n : ℕ) (ns ps : List ℕ) : Type 0 where
  pub total : n ≡ unused [] v (key_sides ks)
  pub values : ns ≡ numbers [] v (key_sides ks)
  pub olds : take (n - v) ps ≡ parents [] (key_sides ks)

pub numbered_all : (ks : List ℕ) (v i n : ℕ) (seen ns ps : List ℕ) → Numbered ks v i n seen ns ps → length ks ≤ i → length ns ≡ length ks → AllNumbered ks v n ns ps
numbered_all ks v i n seen ns ps d h l =
    let e = drop_all i ks h in
    let a : length ns ≤ i = omega arith in
    record {
      total = ap (λ r. unused (met i ks) n (key_sides r)) (sym e) ∙ d.total;
      values = sym (take_all i ns a) ∙ sym (append-nil (take i ns)) ∙ ap (λ r. take i ns ++ numbers (met i ks) n (key_sides r)) (sym e) ∙ d.values;
      olds = sym (append-nil (take (n - v) ps)) ∙ ap (λ r. take (n - v) ps ++ parents (met i ks) (key_sides r)) (sym e) ∙ d.olds;
    }
