-- Trees one after another, by the numbers of a table: the same as by their labels.
use Rattle.std.proofs.Common.{◌≡◌, ℕ, zero, suc, ◌-◌, cond, List, [], ◌∷◌, ◌++◌, map, take, drop, Some, refl, ap, ◌∙◌}
use Rattle.mesh.specs.Triangles.{Tri}
use Rattle.mesh.specs.Sides.{Side}
use Rattle.forest.specs.Roots.{root, mirrored}
use Rattle.forest.specs.Loops.{hop, loop, around, loop_of, positions}
use Rattle.forest.specs.Numbering.{run_numbers, renumber, renumber_all}
use Rattle.forest.specs.Polygons.{Code, closes, polygon, polygons}
use Rattle.forest.specs.Splitting.{first_unclosed}
use Rattle.forest.specs.Tables.{walked, renumbered, filled, unclosed_from}

pub walked_positions : (ts : List Tri) (ms : List Side) (ks : List ℕ) → walked ts ms (map (root ms) ks) (map (around ms) ks) (map (mirrored ts ms) ks) ≡ positions ts ms ks
walked_positions ts ms [] = refl
walked_positions ts ms (k ∷ ks) = ap (λ ss. loop_of ts ms k ++ ss) (walked_positions ts ms ks)

loop_front : (f : Side → Side) (n : ℕ) (s : Side) (ss : List Side) → take n (loop f n s ++ ss) ≡ loop f n s
loop_front f zero s ss = refl
loop_front f (suc n) s ss = ap (λ xs. s ∷ xs) (loop_front f n (f s) ss)

loop_rest : (f : Side → Side) (n : ℕ) (s : Side) (ss : List Side) → drop n (loop f n s ++ ss) ≡ ss
loop_rest f zero s ss = refl
loop_rest f (suc n) s ss = loop_rest f n (f s) ss

pub renumbered_all : (ts : List Tri) (ms : List Side) (ks us : List ℕ) (v x y w : ℕ)
    → renumbered ts ms (map (around ms) ks) (map (mirrored ts ms) ks) (positions ts ms ks) us v x y w ≡ renumber_all ts ms ks us v x y w
renumbered_all ts ms [] us v x y w = refl
renumbered_all ts ms (k ∷ ks) us v x y w =
    ap (λ ss. renumbered ts ms (map (around ms) ks) (map (mirrored ts ms) ks) ss (drop (around ms k) us) v x y
    (renumber ts ms (mirrored ts ms k) (take (around ms k) (loop_of ts ms k ++ positions ts ms ks)) (run_numbers (take (around ms k) us)) v x y w))
    (loop_rest (hop ts ms (mirrored ts ms k)) (around ms k) (root ms k) (positions ts ms ks))
    ∙ ap (λ ss. renumbered ts ms (map (around ms) ks) (map (mirrored ts ms) ks) (positions ts ms ks) (drop (around ms k) us) v x y
    (renumber ts ms (mirrored ts ms k) ss (run_numbers (take (around ms k) us)) v x y w))
    (loop_front (hop ts ms (mirrored ts ms k)) (around ms k) (root ms k) (positions ts ms ks))
    ∙ renumbered_all ts ms ks (drop (around ms k) us) v x y
    (renumber ts ms (mirrored ts ms k) (loop_of ts ms k) (run_numbers (take (around ms k) us)) v x y w)

pub filled_polygons : (ts : List Tri) (ms : List Side) (ks us : List ℕ) (cs : List Code) → filled (map (around ms) ks) (map (mirrored ts ms) ks) us cs ≡ polygons ts ms ks us cs
filled_polygons ts ms [] us cs = refl
filled_polygons ts ms (k ∷ ks) us cs =
    ap (λ ts'. polygon (mirrored ts ms k) (around ms k) (take (around ms k) us) (take (around ms k - 2) cs) ++ ts')
    (filled_polygons ts ms ks (drop (around ms k) us) (drop (around ms k - 2) cs))

pub unclosed_first : (ms : List Side) (i : ℕ) (ks : List ℕ) (cs : List Code) → unclosed_from i (map (around ms) ks) cs ≡ first_unclosed ms i ks cs
unclosed_first ms i [] cs = refl
unclosed_first ms i (k ∷ ks) cs = ap (λ o. cond (closes 1 (around ms k - 2) cs) o (Some i)) (unclosed_first ms (suc i) ks (drop (around ms k - 2) cs))
