-- The open parts of a polygon, code after code.
use Rattle.std.proofs.Common.{◌≡◌, ℕ, zero, suc, ◌+◌, ◌-◌, ◌*◌, ◌<◌, ◌≤◌, Bool, true, false, List, [], ◌∷◌, ◌++◌, map, length, get_or, set, take, drop, sym, refl, ap, ◌∙◌, subst, arith, add-one, append_assoc, append-nil, length-take-le, length-set, get_or-set_same, get_or-set_other, drop-drop}
use borrow.Author.Tests.{clash}
use Rattle.std.proofs.lemmas.List.{take_more_set, drop_more, drop_all, take_all}
use Rattle.mesh.specs.Triangles.{Tri, tri}
use Rattle.forest.specs.Loops.{read_as}
use Rattle.forest.specs.Numbering.{renamed}
use Rattle.forest.specs.Polygons.{Code, neither, only_left, only_right, both, after, span, Open, open_part, third, opened, cut, closes, number_at, polygon}
use Rattle.forest.specs.Tables.{word_tris}
use Rattle.runs.specs.Parts.{code_of}
use Rattle.engine.specs.Filling.{opens}
use Rattle.engine.proofs.Closing.{meant, closes_more, after_le}
use Rattle.engine.proofs.Spans.{span_two, span_both}

-- ---- the stack

opens_set : (d : ℕ) (xs : List ℕ) (j y : ℕ) → 2 * d ≤ j → opens d (set xs j y) ≡ opens d xs
opens_set zero xs j y h = refl
opens_set (suc d) xs j y h =
    let e = get_or-set_other xs j (2 * d) y 0 (λ z. omega arith) in
    let f = get_or-set_other xs j (2 * d + 1) y 0 (λ z. omega arith) in
    let g = opens_set d xs j y (omega arith) in
    cc

pub opens_push : (d : ℕ) (xs : List ℕ) (r l : ℕ) → 2 * d + 1 < length xs → opens (d + 1) (set (set xs (2 * d) r) (2 * d + 1) l) ≡ open_part r l ∷ opens d xs
opens_push d xs r l h =
    let ys = set xs (2 * d) r in
    let long = length-set xs (2 * d) r in
    let e = get_or-set_other ys (2 * d + 1) (2 * d) l 0 (λ z. omega arith) ∙ get_or-set_same xs (2 * d) r 0 (omega arith) in
    let f = get_or-set_same ys (2 * d + 1) l 0 (omega arith) in
    let g = opens_set d ys (2 * d + 1) l (omega arith) ∙ opens_set d xs (2 * d) r (omega arith) in
    ap (λ n. opens n (set ys (2 * d + 1) l)) (add-one d) ∙ cc

pub opens_top : (d : ℕ) (xs : List ℕ) → 0 < d → opens d xs ≡ open_part (get_or xs (2 * (d - 1)) 0) (get_or xs (2 * (d - 1) + 1) 0) ∷ opens (d - 1) xs
opens_top zero xs h = absurd (omega arith)
opens_top (suc d) xs h = let e : d ≡ suc d - 1 = omega arith in ap (λ n. open_part (get_or xs (2 * n) 0) (get_or xs (2 * n + 1) 0) ∷ opens n xs) e

-- ---- triangles in numbers

pub word_tris_append : (n : ℕ) (xs ys : List ℕ) → length xs ≡ 3 * n → word_tris (xs ++ ys) ≡ word_tris xs ++ word_tris ys
word_tris_append n [] ys e = refl
word_tris_append n (a ∷ []) ys e = absurd (omega arith)
word_tris_append n (a ∷ b ∷ []) ys e = absurd (omega arith)
word_tris_append zero (a ∷ b ∷ c ∷ xs) ys e = absurd (omega arith)
word_tris_append (suc n) (a ∷ b ∷ c ∷ xs) ys e = ap (λ ts. tri a b c ∷ ts) (word_tris_append n xs ys (omega arith))

pub corners_set : (ws : List ℕ) (i a b c : ℕ) → 3 * i + 2 < length ws
    → word_tris (take (3 * i + 3) (set (set (set ws (3 * i) a) (3 * i + 1) b) (3 * i + 2) c)) ≡ word_tris (take (3 * i) ws) ++ tri a b c ∷ []
corners_set ws i a b c h =
    let xs = set ws (3 * i) a in
    let ys = set xs (3 * i + 1) b in
    let long = length-set ws (3 * i) a in
    let longer = length-set xs (3 * i + 1) b in
    let front = take (3 * i) ws in
    let p : 3 * i + 2 + 1 ≡ 3 * i + 3 = omega arith in
    let q : 3 * i + 1 + 1 ≡ 3 * i + 2 = omega arith in
    let one = take_more_set ws (3 * i) a (omega arith) in
    let two = ap (λ n. take n ys) (sym q) ∙ take_more_set xs (3 * i + 1) b (omega arith) in
    let three = ap (λ n. take n (set ys (3 * i + 2) c)) (sym p) ∙ take_more_set ys (3 * i + 2) c (omega arith) in
    let all : take (3 * i + 3) (set ys (3 * i + 2) c) ≡ front ++ (a ∷ b ∷ c ∷ []) =
    three
    ∙ ap (λ zs. zs ++ c ∷ []) (two ∙ ap (λ zs. zs ++ b ∷ []) one)
    ∙ ap (λ zs. zs ++ c ∷ []) (append_assoc front (a ∷ []) (b ∷ []))
    ∙ append_assoc front (a ∷ b ∷ []) (c ∷ []) in
    ap word_tris all ∙ word_tris_append i front (a ∷ b ∷ c ∷ []) (length-take-le (3 * i) ws (omega arith))

-- the triangles of positions by their numbers
abbrev pub placed : Bool → List ℕ → List Tri → List Tri
placed mirror ns ts = read_as mirror (map (renamed (λ j x y. number_at (length ns) ns j)) ts)

placed_more : (mirror : Bool) (ns : List ℕ) (t : Tri) (ts : List Tri) → placed mirror ns (t ∷ ts) ≡ placed mirror ns (t ∷ []) ++ placed mirror ns ts
placed_more true ns t ts = refl
placed_more false ns t ts = refl

placed_none : (mirror : Bool) (ns : List ℕ) → placed mirror ns [] ≡ []
placed_none true ns = refl
placed_none false ns = refl

-- ---- each open part is as long as its codes say, and lies within n positions

abbrev pub Stacked : ℕ → List Open → List Code → Type 0
Stacked n [] cs = Unit {0}
Stacked n (open_part r l ∷ st) cs = (l ≡ r + 1 + span 1 cs) × (l ≤ n) × Stacked n st (drop (span 1 cs) cs)

stacked_more : (n : ℕ) (c : Code) (r l : ℕ) (cs : List Code) (st : List Open) → Stacked n (open_part r l ∷ st) (c ∷ cs) → Stacked n (opened c r (third c r l cs) l st) cs
stacked_more n neither r l cs st h = h.2
stacked_more n only_left r l cs st h = let e = h.0 in (omega arith, h.1, h.2)
stacked_more n only_right r l cs st h = let e = h.0 in let f = h.1 in (omega arith, omega arith, h.2)
stacked_more n both r l cs st h =
    let s = span 1 cs in
    let t = span 1 (drop s cs) in
    let k = span_two cs in
    let e = h.0 in
    let f = h.1 in
    let d : drop (span 2 cs) cs ≡ drop t (drop s cs) = ap (λ n. drop n cs) k ∙ sym (drop-drop t s cs) in
    (omega arith, h.1, (omega arith, omega arith, subst (Stacked n st) d h.2))

closes_le : (o n : ℕ) (cs : List Code) → closes o n cs ≡ true → o ≤ n
closes_le zero n cs e = omega arith
closes_le (suc o) zero cs e = absurd (clash e)
closes_le (suc o) (suc n) [] e = absurd (clash e)
closes_le (suc o) (suc n) (c ∷ cs) e = let h = closes_le (after c o) n cs e in let k = ge c o in omega arith
  where
    ge : (c : Code) (n : ℕ) → n ≤ after c n
    ge neither n = omega arith
    ge only_left n = omega arith
    ge only_right n = omega arith
    ge both n = omega arith

closes_some : (o n : ℕ) (cs : List Code) → 0 < n → closes o n cs ≡ true → 0 < o
closes_some zero zero cs h e = absurd (omega arith)
closes_some zero (suc n) cs h e = absurd (clash e)
closes_some (suc o) n cs h e = omega arith

closes_span : (o n : ℕ) (cs : List Code) → closes o n cs ≡ true → span o cs ≡ n
closes_span zero zero cs e = refl
closes_span zero (suc n) cs e = absurd (clash e)
closes_span (suc o) zero cs e = absurd (clash e)
closes_span (suc o) (suc n) [] e = absurd (clash e)
closes_span (suc o) (suc n) (c ∷ cs) e = ap suc (closes_span (after c o) n cs e)

-- ---- one triangle after another

-- the first i triangles stand in the table, and d parts are open
pub record Cut (mirror : Bool) (ns cs : List ℕ) (i d : ℕ) (st ws : List ℕ) : Type 0 where
  pub open_now : closes d (length cs - i) (meant (drop i cs)) ≡ true
  pub few : d ≤ i + 1
  pub stacked : Stacked (length ns) (opens d st) (meant (drop i cs))
  pub done : word_tris (take (3 * i) ws) ++ placed mirror ns (cut (meant (drop i cs)) (opens d st)) ≡ polygon mirror (length ns) ns (meant cs)

pub cut_none : (mirror : Bool) (ns cs st ws : List ℕ) → length ns ≡ length cs + 2 → closes 1 (length cs) (meant cs) ≡ true → opens 1 st ≡ open_part 1 (length ns) ∷ [] → Cut mirror ns cs 0 1 st ws
cut_none mirror ns cs st ws l e f =
    let s = closes_span 1 (length cs) (meant cs) e in
    let z : length cs - 0 ≡ length cs = omega arith in
    let one : Stacked (length ns) (open_part 1 (length ns) ∷ []) (meant cs) = (omega arith, omega arith, tt) in
    record {
      open_now = ap (λ k. closes 1 k (meant cs)) z ∙ e;
      few = omega arith;
      stacked = subst (λ (q : List Open). Stacked (length ns) q (meant cs)) (sym f) one;
      done = ap (λ (q : List Open). placed mirror ns (cut (meant cs) q)) f;
    }

pub cut_all : (mirror : Bool) (ns cs : List ℕ) (i d : ℕ) (st ws : List ℕ) → Cut mirror ns cs i d st ws → length cs ≡ i → length ws ≡ 3 * length cs → word_tris ws ≡ polygon mirror (length ns) ns (meant cs)
cut_all mirror ns cs i d st ws c h l =
    let e = drop_all i cs (omega arith) in
    let a : length ws ≤ 3 * i = omega arith in
    ap word_tris (sym (take_all (3 * i) ws a))
    ∙ sym (append-nil (word_tris (take (3 * i) ws)))
    ∙ ap (λ ts. word_tris (take (3 * i) ws) ++ ts) (sym (placed_none mirror ns))
    ∙ ap (λ xs. word_tris (take (3 * i) ws) ++ placed mirror ns (cut (meant xs) (opens d st))) (sym e)
    ∙ c.done

pub third_within : (c : Code) (r l n : ℕ) (cs : List Code) → r < l → l ≤ n → third c r l cs ≤ n
third_within neither r l n cs h k = omega arith
third_within only_left r l n cs h k = omega arith
third_within only_right r l n cs h k = omega arith
third_within both r l n cs h k = omega arith

-- what holds of the part on top of the stack, at a code
pub record Top (n size c r l d i count : ℕ) : Type 0 where
  pub some : 0 < d
  pub few : d + i ≤ count
  pub apart : r < l
  pub within : l ≤ n
  pub left : 3 ≤ c → size < l

module _ (mirror : Bool) (ns cs : List ℕ) (i d : ℕ) (st ws : List ℕ) (c : Cut mirror ns cs i d st ws) (h : i < length cs) where
  abbrev right_now : ℕ
  right_now = get_or st (2 * (d - 1)) 0

  abbrev left_now : ℕ
  left_now = get_or st (2 * (d - 1) + 1) 0

  some_now : 0 < d
  some_now = closes_some d (length cs - i) (meant (drop i cs)) (omega arith) c.open_now

  stacked_now : Stacked (length ns) (open_part right_now left_now ∷ opens (d - 1) st) (code_of (get_or cs i 0) ∷ meant (drop (i + 1) cs))
  stacked_now =
      subst (λ (xs : List ℕ). Stacked (length ns) (open_part right_now left_now ∷ opens (d - 1) st) (meant xs)) (drop_more cs i 0 h)
      (subst (λ (q : List Open). Stacked (length ns) q (meant (drop i cs))) (opens_top d st some_now) c.stacked)

  pub top_now : (size : ℕ) → size ≡ span 1 (meant (drop (i + 1) cs)) → Top (length ns) size (get_or cs i 0) right_now left_now d i (length cs)
  top_now size e =
      let s = stacked_now in
      let a = s.0 in
      let some = some_now in
      let le = closes_le d (length cs - i) (meant (drop i cs)) c.open_now in
      record {
        some = some;
        few = omega arith;
        apart = omega arith;
        within = s.1;
        left = λ three. let b = span_both (get_or cs i 0) (meant (drop (i + 1) cs)) three in omega arith;
      }

  pub open_next : closes (after (code_of (get_or cs i 0)) (d - 1)) (length cs - (i + 1)) (meant (drop (i + 1) cs)) ≡ true
  open_next = sym (closes_more cs i d h some_now) ∙ c.open_now

  pub few_next : after (code_of (get_or cs i 0)) (d - 1) + i + 1 ≤ length cs
  few_next = let le = closes_le (after (code_of (get_or cs i 0)) (d - 1)) (length cs - (i + 1)) (meant (drop (i + 1) cs)) open_next in omega arith

  pub cut_more : (o e : ℕ) (st' ws' : List ℕ)
      → o ≡ third (code_of (get_or cs i 0)) right_now left_now (meant (drop (i + 1) cs))
      → e ≡ after (code_of (get_or cs i 0)) (d - 1)
      → opens e st' ≡ opened (code_of (get_or cs i 0)) right_now o left_now (opens (d - 1) st)
      → word_tris (take (3 * i + 3) ws') ≡ word_tris (take (3 * i) ws) ++ placed mirror ns (tri left_now o right_now ∷ [])
      → Cut mirror ns cs (i + 1) e st' ws'
  cut_more o e st' ws' oe ee se we =
      let k = code_of (get_or cs i 0) in
      let rest = meant (drop (i + 1) cs) in
      let below = opens (d - 1) st in
      let le = after_le k (d - 1) in
      let few = c.few in
      let some = some_now in
      let three : 3 * (i + 1) ≡ 3 * i + 3 = omega arith in
      let front = word_tris (take (3 * i) ws) in
      record {
        open_now = ap (λ n. closes n (length cs - (i + 1)) rest) ee ∙ open_next;
        few = omega arith;
        stacked = subst (λ (q : List Open). Stacked (length ns) q rest) (ap (λ n. opened k right_now n left_now below) (sym oe) ∙ sym se) (stacked_more (length ns) k right_now left_now rest below stacked_now);
        done =
            ap (λ n. word_tris (take n ws') ++ placed mirror ns (cut rest (opens e st'))) three
            ∙ ap (λ ts. ts ++ placed mirror ns (cut rest (opens e st'))) we
            ∙ append_assoc front (placed mirror ns (tri left_now o right_now ∷ [])) (placed mirror ns (cut rest (opens e st')))
            ∙ ap (λ ts. front ++ ts) (sym (placed_more mirror ns (tri left_now o right_now) (cut rest (opens e st'))))
            ∙ ap (λ q. front ++ placed mirror ns (tri left_now o right_now ∷ cut rest q)) se
            ∙ ap (λ n. front ++ placed mirror ns (tri left_now n right_now ∷ cut rest (opened k right_now n left_now below))) oe
            ∙ ap (λ xs. front ++ placed mirror ns (cut (meant xs) (open_part right_now left_now ∷ below))) (sym (drop_more cs i 0 h))
            ∙ ap (λ q. front ++ placed mirror ns (cut (meant (drop i cs)) q)) (sym (opens_top d st some))
            ∙ c.done;
      }
