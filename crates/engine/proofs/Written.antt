-- A split written pass by pass.
use Rattle.std.proofs.Common.{◌≡◌, ℕ, suc, ◌+◌, ◌*◌, ◌<◌, ◌≤◌, Bool, true, false, cond, ltb, List, [], ◌∷◌, ◌++◌, length, take, drop, sym, ap, ◌∙◌, subst, arith, length-append, le-ltb, lt-ltb}
use lib.ListN.{length-map}
use Rattle.std.proofs.Math.Seq.{take-append_seam, drop-append_seam}
use Rattle.place.specs.Kinds.{Kind, Lawful}
use Rattle.mesh.specs.Lists.{Mem, now, later}
use Rattle.mesh.specs.Sides.{Side}
use Rattle.mesh.specs.Meshes.{Mesh, Vertex, mesh_of, vertex_of, vertex_total, triangle_total}
use Rattle.runs.specs.Parts.{displacements_read}
use Rattle.forest.specs.Trees.{start}
use Rattle.forest.specs.Numbering.{has, numbers, unused, parents}
use Rattle.forest.specs.Places.{added, moved, place_after, split_places}
use Rattle.forest.specs.Tables.{key_side, key_sides, word_tris}
use Rattle.forest.specs.Theorems.{led_back}
use Rattle.forest.proofs.Fans.{link_left, link_right}
use Rattle.engine.specs.Writing.{Exchangeable, Fitting, Writable}
use Rattle.runs.proofs.Parts.{all_read}

-- as many vertices are added as numbers are used
added_counted : {P D : Type 0} (k : Kind P D) (vs : List (Vertex P)) (seen : List ℕ) (n : ℕ) (ss : List Side) (ds : List D) → length vs ≤ n → ((s : Side) → Mem s ss → start s < length vs) → length ss ≤ length ds
    → n + length (added k vs ss (numbers seen n ss) ds) ≡ unused seen n ss
added_counted k vs seen n [] ds h f l = omega arith
added_counted k vs seen n (s ∷ ss) [] h f l = absurd (omega arith)
added_counted {P} k vs seen n (s ∷ ss) (d ∷ ds) h f l = go (has (start s) seen) (f s now) (λ n h. added_counted k vs (start s ∷ seen) n ss ds h (λ s m. f s (later m)) (omega arith))
  where
    rest : ℕ → List (Vertex P)
    rest n = added k vs ss (numbers (start s ∷ seen) n ss) ds

    go : (b : Bool) → start s < length vs → ((n : ℕ) → length vs ≤ n → n + length (rest n) ≡ unused (start s ∷ seen) n ss)
        → n + length (cond (ltb (cond b n (start s)) (length vs)) (rest (cond b (suc n) n)) (vertex_of (place_after k vs s d) (start s) ∷ rest (cond b (suc n) n))) ≡ unused (start s ∷ seen) (cond b (suc n) n) ss
    go true small r = rw (le-ltb n (length vs) h) (let e = r (suc n) (omega arith) in omega arith)
    go false small r = rw (lt-ltb (start s) (length vs) small) (r n h)

module _ {P D : Type 0} (k : Kind P D) (law : Lawful k) (vr tr : ℕ) (m : Mesh P) (ps ns bs corners more : List ℕ) (w : Writable k vr tr m ps ns bs corners more) where
  abbrev pub news : List (Vertex P)
  news = added k m.vertices (key_sides ps) ns (displacements_read k (length ps) bs)

  counted : vertex_total m + length news ≡ unused [] (vertex_total m) (key_sides ps)
  counted =
      let l = all_read k law (length ps) bs w.enough in
      let n = length-map ps key_side in
      ap (λ xs. vertex_total m + length (added k m.vertices (key_sides ps) xs (displacements_read k (length ps) bs))) w.numbered
      ∙ added_counted k m.vertices [] (vertex_total m) (key_sides ps) (displacements_read k (length ps) bs) (omega arith) w.started (omega arith)

  pub vertex_room : vertex_total m + length news ≤ vr
  vertex_room = let c = counted in let f = w.vertices_fit in omega arith

  grown : length (m.vertices ++ news) ≡ unused [] (vertex_total m) (key_sides ps)
  grown = length-append m.vertices news ∙ counted

  same_count : length (word_tris corners) ≡ triangle_total m
  same_count = sym (length-map (word_tris corners) (led_back (vertex_total m) (parents [] (key_sides ps)))) ∙ ap length w.led

  module _ (m1 : Mesh P) (e1 : m1 ≡ mesh_of m.triangles (m.vertices ++ news)) where
    pub corners_whole : length corners ≡ 3 * triangle_total m1
    corners_whole = w.whole ∙ ap (λ (z : Mesh P). 3 * triangle_total z) (sym e1)

    pub corners_exchangeable : Exchangeable (vertex_total m1) m1.triangles (word_tris corners)
    corners_exchangeable = subst (λ (z : Mesh P). Exchangeable (vertex_total z) z.triangles (word_tris corners)) (sym e1) (record {
      old = vertex_total m;
      parents = parents [] (key_sides ps);
      before = w.before;
      after = subst (λ n. Fitting n (word_tris corners)) (sym grown) (λ v x y l. w.after v x y (link_left (word_tris more) l));
      led = w.led;
    })

    module _ (m2 : Mesh P) (e2 : m2 ≡ mesh_of (word_tris corners) m1.vertices) where
      second : m2 ≡ mesh_of (word_tris corners) (m.vertices ++ news)
      second = e2 ∙ ap (λ (z : Mesh P). mesh_of (word_tris corners) z.vertices) e1

      pub triangle_room : triangle_total m2 + length (word_tris more) ≤ tr
      triangle_room = let f = w.triangles_fit in let c = ap triangle_total second ∙ same_count in omega arith

      pub added_fitting : Fitting (vertex_total m2) (word_tris more)
      added_fitting = subst (λ n. Fitting n (word_tris more)) (sym (ap vertex_total second ∙ grown)) (λ v x y l. w.after v x y (link_right (word_tris corners) l))

      module _ (m3 : Mesh P) (e3 : m3 ≡ mesh_of (m2.triangles ++ word_tris more) m2.vertices) where
        third : m3 ≡ mesh_of (word_tris corners ++ word_tris more) (m.vertices ++ news)
        third = e3 ∙ ap (λ (z : Mesh P). mesh_of (z.triangles ++ word_tris more) z.vertices) second

        pub old_within : (old : ℕ) → old ≡ vertex_total m → old ≤ vertex_total m3
        old_within old o = let c = ap vertex_total third ∙ length-append m.vertices news in omega arith

        pub all_written : (old : ℕ) (m4 : Mesh P) → old ≡ vertex_total m
            → m4 ≡ mesh_of m3.triangles (moved k (take old m3.vertices) (key_sides ps) ns (displacements_read k (length ps) bs) (take old m3.vertices) ++ drop old m3.vertices)
            → m4 ≡ mesh_of (word_tris corners ++ word_tris more) (split_places k m.vertices (key_sides ps) ns (displacements_read k (length ps) bs))
        all_written old m4 o e4 =
            let vs = m.vertices in
            e4
            ∙ ((λ j. mesh_of (third j).triangles (moved k (take (o j) (third j).vertices) (key_sides ps) ns (displacements_read k (length ps) bs) (take (o j) (third j).vertices) ++ drop (o j) (third j).vertices))
            ∙ (λ j. mesh_of (word_tris corners ++ word_tris more) (moved k (take-append_seam vs news j) (key_sides ps) ns (displacements_read k (length ps) bs) (take-append_seam vs news j) ++ drop-append_seam vs news j)))
