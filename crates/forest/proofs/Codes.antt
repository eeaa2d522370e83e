-- What the codes cut is a part of the polygon.
use Rattle.std.proofs.Common.{◌≡◌, ℕ, zero, suc, ◌+◌, ◌-◌, List, [], ◌∷◌, ◌++◌, length, sym, refl, ap, ◌∙◌, append_assoc, append-nil, arith, length-append}
use Rattle.mesh.specs.Triangles.{Tri, tri}
use Rattle.forest.specs.Polygons.{Code, neither, only_left, only_right, both, span, Open, open_part, cut}
use Rattle.forest.specs.Theorems.{Part, edge, node, Ends, PolygonFilled}

-- a tree of codes
data Shape : Type 0 where
  bare : Shape
  left : Shape → Shape
  right : Shape → Shape
  fork : Shape → Shape → Shape

abbrev codes : Shape → List Code
codes bare = neither ∷ []
codes (left s) = only_left ∷ codes s
codes (right s) = only_right ∷ codes s
codes (fork s t) = both ∷ (codes s ++ codes t)

abbrev all_codes : List Shape → List Code
all_codes [] = []
all_codes (s ∷ ss) = codes s ++ all_codes ss

-- what the codes of n open parts are the codes of
data Read (n : ℕ) (cs : List Code) : Type 0 where
  read : (ss : List Shape) → length ss ≡ n → all_codes ss ≡ cs → Read n cs

parse : (n : ℕ) (cs : List Code) → Ends n cs → Read n cs
parse zero [] e = read [] refl refl
parse zero (c ∷ cs) e = absurd e
parse (suc n) [] e = absurd e
parse (suc n) (neither ∷ cs) e = go (parse n cs e)
  where
    go : Read n cs → Read (suc n) (neither ∷ cs)
    go (read ss h k) = read (bare ∷ ss) (cc) (cc)
parse (suc n) (only_left ∷ cs) e = go (parse (suc n) cs e)
  where
    go : Read (suc n) cs → Read (suc n) (only_left ∷ cs)
    go (read [] h k) = absurd (omega arith)
    go (read (s ∷ ss) h k) = read (left s ∷ ss) h (cc)
parse (suc n) (only_right ∷ cs) e = go (parse (suc n) cs e)
  where
    go : Read (suc n) cs → Read (suc n) (only_right ∷ cs)
    go (read [] h k) = absurd (omega arith)
    go (read (s ∷ ss) h k) = read (right s ∷ ss) h (cc)
parse (suc n) (both ∷ cs) e = go (parse (suc (suc n)) cs e)
  where
    go : Read (suc (suc n)) cs → Read (suc n) (both ∷ cs)
    go (read [] h k) = absurd (omega arith)
    go (read (s ∷ []) h k) = absurd (omega arith)
    go (read (s ∷ t ∷ ss) h k) = read (fork s t ∷ ss) (omega arith) (ap (λ r. both ∷ r) (append_assoc (codes s) (codes t) (all_codes ss) ∙ k))

-- the codes of a part are counted by span
span_codes : (s : Shape) (n : ℕ) (cs : List Code) → span (suc n) (codes s ++ cs) ≡ length (codes s) + span n cs
span_codes bare n cs = omega arith
span_codes (left s) n cs = let h = span_codes s n cs in omega arith
span_codes (right s) n cs = let h = span_codes s n cs in omega arith
span_codes (fork s t) n cs =
    rw append_assoc (let h = span_codes s (suc n) (codes t ++ cs) in let k = span_codes t n cs in omega (arith, length-append (codes s) (codes t)))

span_one : (s : Shape) (cs : List Code) → span 1 (codes s ++ cs) ≡ length (codes s)
span_one s cs = let h = span_codes s 0 cs in omega arith

abbrev tris : ℕ → ℕ → Shape → List Tri
tris a b bare = tri b (a + 1) a ∷ []
tris a b (left s) = tri b (a + 1) a ∷ tris (a + 1) b s
tris a b (right s) = tri b (b - 1) a ∷ tris a (b - 1) s
tris a b (fork s t) = let o = b - 1 - length (codes s) in tri b o a ∷ (tris o b s ++ tris a o t)

cut_codes : (s : Shape) (a b : ℕ) (cs : List Code) (st : List Open) → cut (codes s ++ cs) (open_part a b ∷ st) ≡ tris a b s ++ cut cs st
cut_codes bare a b cs st = refl
cut_codes (left s) a b cs st = ap (λ r. tri b (a + 1) a ∷ r) (cut_codes s (a + 1) b cs st)
cut_codes (right s) a b cs st = ap (λ r. tri b (b - 1) a ∷ r) (cut_codes s a (b - 1) cs st)
cut_codes (fork s t) a b cs st =
    let o = b - 1 - length (codes s) in
    rw (append_assoc (codes s) (codes t) cs, span_one s (codes t ++ cs))
    (ap (λ r. tri b o a ∷ r)
    (cut_codes s o b (codes t ++ cs) (open_part a o ∷ st) ∙ ap (λ r. tris o b s ++ r) (cut_codes t a o cs st) ∙ sym (append_assoc (tris o b s) (tris a o t) (cut cs st))))

edge_at : {a b : ℕ} → b ≡ suc a → Part a b []
edge_at e = rw e edge

node_left : {a o b : ℕ} {ls : List Tri} → o ≡ suc a → Part o b ls → Part a b (tri b o a ∷ ls)
node_left {a} {o} {b} {ls} e l = rw (append-nil ls) at (node l (edge_at e))

tris_part : (s : Shape) (a b : ℕ) → b ≡ suc (a + length (codes s)) → Part a b (tris a b s)
tris_part bare a b e = node (edge_at (omega arith)) (edge_at (omega arith))
tris_part (left s) a b e = node_left (omega arith) (tris_part s (a + 1) b (omega arith))
tris_part (right s) a b e = node (edge_at (omega arith)) (tris_part s a (b - 1) (omega arith))
tris_part (fork s t) a b e =
    let n = length-append (codes s) (codes t) in
    node (tris_part s (b - 1 - length (codes s)) b (omega arith)) (tris_part t a (b - 1 - length (codes s)) (omega arith))

cut_part : (cs : List Code) (a : ℕ) → Read 1 cs → Part a (suc (a + length cs)) (cut cs (open_part a (suc (a + length cs)) ∷ []))
cut_part cs a (read [] h k) = absurd (omega arith)
cut_part cs a (read (s ∷ t ∷ ss) h k) = absurd (omega arith)
cut_part cs a (read (s ∷ []) h k) =
    rw (← k) (rw (cut_codes s a (suc (a + length (codes s ++ []))) [] []) (rw (append-nil (tris a (suc (a + length (codes s ++ []))) s)) (tris_part s a _ (rw (append-nil (codes s))))))

pub polygon_filled : PolygonFilled
polygon_filled cs a e = cut_part cs a (parse 1 cs e)

pub part_length : {a b : ℕ} {ts : List Tri} → Part a b ts → b ≡ suc (a + length ts)
part_length edge = omega arith
part_length (node {ls = ls} {rs = rs} l r) = let h = part_length l in let k = part_length r in omega (arith, length-append ls rs)
