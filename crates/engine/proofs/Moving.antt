-- The kept vertices, moved one after another.
use Rattle.std.proofs.Common.{◌≡◌, ℕ, zero, suc, ◌+◌, ◌-◌, ◌*◌, ◌<◌, ◌≤◌, Bool, true, false, cond, eqb, ltb, ◌||◌, List, [], ◌∷◌, ◌++◌, length, get_or, take, drop, sym, refl, ap, ◌∙◌, subst, arith, length-append, zero-mul, le-ltb, lt-ltb}
use Rattle.std.proofs.lemmas.Bool.Decides.{nat_tests}
use lib.ListN.{length-map}
use Rattle.std.proofs.lemmas.List.{drop_all, length-take-le, take-append-drop}
use Rattle.std.specs.Option.{option_and_then, option_map, unwrap_or}
use Rattle.std.specs.List.{slice_get}
use Rattle.place.specs.Kinds.{Kind, Lawful}
use Rattle.mesh.specs.Triangles.{Tri}
use Rattle.mesh.specs.Sides.{Side}
use Rattle.mesh.specs.Meshes.{Mesh, Vertex, mesh_of}
use Rattle.mesh.specs.Growth.{changed, replace_place}
use Rattle.mesh.specs.Growth.{with_place as vertex_at}
use Rattle.mesh.proofs.Changing.{length_changed, changed_elsewhere}
use Rattle.forest.specs.Trees.{start}
use Rattle.forest.specs.Numbering.{has, numbers}
use Rattle.forest.specs.Places.{place_before, displaced_at, moved, with_place}
use Rattle.forest.specs.Tables.{key_side, key_sides}
use Rattle.runs.specs.Parts.{displacements_read}
use Rattle.engine.specs.Places.{placed_by}
use Rattle.engine.specs.Writing.{with_moved, Started}
use Rattle.engine.proofs.Displacing.{front_of, bytes_at, read_from, read_next}
use Rattle.engine.proofs.Adding.{key_listed, before_same, placed_same}

-- a new place is a change of the vertex
place_changed : {P : Type 0} (n : ℕ) (p : P) (ws : List (Vertex P)) → with_place n p ws ≡ changed (vertex_at p) n ws
place_changed n p [] = refl
place_changed zero p (w ∷ ws) = refl
place_changed (suc n) p (w ∷ ws) = ap (λ us. w ∷ us) (place_changed n p ws)

place_past : {P : Type 0} (n : ℕ) (p : P) (ws : List (Vertex P)) → length ws ≤ n → with_place n p ws ≡ ws
place_past n p [] h = refl
place_past zero p (w ∷ ws) h = absurd (omega arith)
place_past (suc n) p (w ∷ ws) h = ap (λ us. w ∷ us) (place_past n p ws (omega arith))

place_left : {P : Type 0} (n : ℕ) (p : P) (us ws : List (Vertex P)) → n < length us → changed (vertex_at p) n (us ++ ws) ≡ with_place n p us ++ ws
place_left n p [] ws h = absurd (omega arith)
place_left zero p (u ∷ us) ws h = refl
place_left (suc n) p (u ∷ us) ws h = ap (λ rs. u ∷ rs) (place_left n p us ws (omega arith))

-- what is not listed behind another vertex differs from it, and is not listed
unlisted : (x v : ℕ) (seen : List ℕ) → has v (x ∷ seen) ≡ false → (v ≡ x → ⊥) × (has v seen ≡ false)
unlisted x v seen e = go (eqb x v) refl e
  where
    go : (b : Bool) → eqb x v ≡ b → b || has v seen ≡ false → (v ≡ x → ⊥) × (has v seen ≡ false)
    go true t e = absurd (cc)
    go false t e = ((λ i. let n : eqb x v ≡ true = grind (arith, nat_tests) in absurd (cc)), e)

module _ {P D : Type 0} (k : Kind P D) (law : Lawful k) (vs new : List (Vertex P)) (ps ns bs : List ℕ) where
  -- the vertices us after the positions from i on have moved theirs
  abbrev pub moved_from : ℕ → List (Vertex P) → List (Vertex P)
  moved_from i us = moved k vs (key_sides (drop i ps)) (drop i ns) (read_from k law (length ps) i bs) us

  abbrev pub all_moved : List (Vertex P)
  all_moved = moved k vs (key_sides ps) ns (displacements_read k (length ps) bs) vs

  moved_start : moved_from 0 vs ≡ all_moved
  moved_start = (λ j. moved k vs (key_sides ps) ns (displacements_read k (n j) (drop (z j) bs)) vs)
    where
      n : length ps - 0 ≡ length ps
      n = omega arith

      z : 0 * k.displacement_width ≡ 0
      z = zero-mul k.displacement_width

  moved_end : (i : ℕ) (us : List (Vertex P)) → length ps ≤ i → moved_from i us ≡ us
  moved_end i us h = ap (λ qs. moved k vs (key_sides qs) (drop i ns) (read_from k law (length ps) i bs) us) (drop_all i ps h)

  moved_next : (i : ℕ) (us : List (Vertex P)) → length ns ≡ length ps → length ps * k.displacement_width ≤ length bs → i < length ps
      → moved_from i us ≡ moved_from (i + 1) (with_place (get_or ns i 0) (placed_by k vs (key_side (get_or ps i 0)) (drop (i * k.displacement_width) bs)) us)
  moved_next i us e enough h =
      let s = key_side (get_or ps i 0) in
      let r = read_next k law (length ps) i bs h enough in
      let p = front_of ps i h in
      let q = front_of ns i (omega arith) in
      (λ j. moved k vs (key_sides (p j)) (q j) (r.2 j) us)
      ∙ ap (λ o. moved_from (i + 1) (with_place (get_or ns i 0) (unwrap_or (option_and_then (displaced_at k vs s) o) (place_before k vs (start s))) us)) (sym r.1)

  -- the vertices ws are those that the positions before i have moved, and the new ones
  pub record Moving (i : ℕ) (ws : List (Vertex P)) : Type 0 where
    pub us : List (Vertex P)
    pub seen : List ℕ
    pub next : ℕ
    pub vertices : ws ≡ us ++ new
    pub count : length us ≡ length vs
    pub left : moved_from i us ≡ all_moved
    pub high : length vs ≤ next
    pub rest : drop i ns ≡ numbers seen next (key_sides (drop i ps))
    pub same : (v : ℕ) → has v seen ≡ false → slice_get us v ≡ slice_get vs v

  pub moving_start : ns ≡ numbers [] (length vs) (key_sides ps) → Moving 0 (vs ++ new)
  moving_start e = record { us = vs; seen = []; next = length vs; vertices = refl; count = refl; left = moved_start; high = omega arith; rest = e; same = λ v h. refl }

  pub moving_end : (i : ℕ) (ws : List (Vertex P)) → length ps ≤ i → Moving i ws → ws ≡ all_moved ++ new
  moving_end i ws h a = a.vertices ∙ ap (λ us. us ++ new) (sym (moved_end i a.us h) ∙ a.left)

  pub moving_within : (i : ℕ) (ws : List (Vertex P)) → Moving i ws → length vs ≤ length ws
  moving_within i ws a = let u = ap length a.vertices ∙ length-append a.us new in let n = a.count in omega arith

  pub moving_next : (i r old : ℕ) (ts : List Tri) (m m' : Mesh P) → length ns ≡ length ps → length ps * k.displacement_width ≤ length bs → Started (length vs) (key_sides ps) → i < length ps → r ≡ k.displacement_width → old ≡ length vs
      → m ≡ mesh_of ts m.vertices → m' ≡ with_moved k old (get_or ns i 0) (key_side (get_or ps i 0)) (take (length bs - i * r) (drop (i * r) bs)) m → Moving i m.vertices → (m' ≡ mesh_of ts m'.vertices) × Moving (i + 1) m'.vertices
  moving_next i r old ts m m' e enough st h w o x y a = go (has (start s) a.seen) refl
    where
      s : Side
      s = key_side (get_or ps i 0)

      bytes : List ℕ
      bytes = drop (i * k.displacement_width) bs

      place : P
      place = placed_by k vs s bytes

      told : m' ≡ with_moved k (length vs) (get_or ns i 0) s bytes m
      told = y ∙ (λ j. with_moved k (o j) (get_or ns i 0) s (bytes_at i r k.displacement_width bs w j) m)

      joined : get_or ns i 0 ∷ drop (i + 1) ns ≡ numbers a.seen a.next (s ∷ key_sides (drop (i + 1) ps))
      joined = sym (front_of ns i (omega arith)) ∙ (a.rest ∙ ap (λ qs. numbers a.seen a.next (key_sides qs)) (front_of ps i h))

      number : get_or ns i 0 ≡ cond (has (start s) a.seen) a.next (start s)
      number = ap (λ (xs : List ℕ). get_or xs 0 0) joined

      behind : drop (i + 1) ns ≡ numbers (start s ∷ a.seen) (cond (has (start s) a.seen) (suc a.next) a.next) (key_sides (drop (i + 1) ps))
      behind = ap (λ (xs : List ℕ). drop 1 xs) joined

      onward : moved_from (i + 1) (with_place (get_or ns i 0) place a.us) ≡ all_moved
      onward = sym (moved_next i a.us e enough h) ∙ a.left

      low : start s < length vs
      low = st s (key_listed ps i h)

      go : (b : Bool) → has (start s) a.seen ≡ b → (m' ≡ mesh_of ts m'.vertices) × Moving (i + 1) m'.vertices
      go true t =
          let n : get_or ns i 0 ≡ a.next = number ∙ ap (λ b. cond b a.next (start s)) t in
          let high = a.high in
          let test : ltb (get_or ns i 0) (length vs) ≡ false = le-ltb (get_or ns i 0) (length vs) (omega arith) in
          let same : m' ≡ m = told ∙ ap (λ b. cond b (replace_place m (get_or ns i 0) (placed_by k m.vertices s bytes)) m) test in
          let vertices : m.vertices ≡ m'.vertices = sym (ap (λ (z : Mesh P). z.vertices) same) in
          let count = a.count in (
            same ∙ (x ∙ ap (mesh_of ts) vertices),
            subst (λ (ws : List (Vertex P)). Moving (i + 1) ws) vertices (record {
              us = a.us;
              seen = start s ∷ a.seen;
              next = suc a.next;
              vertices = a.vertices;
              count = a.count;
              left = ap (moved_from (i + 1)) (sym (place_past (get_or ns i 0) place a.us (omega arith))) ∙ onward;
              high = omega arith;
              rest = behind ∙ ap (λ b. numbers (start s ∷ a.seen) (cond b (suc a.next) a.next) (key_sides (drop (i + 1) ps))) t;
              same = λ v f. a.same v (unlisted (start s) v a.seen f).1;
            }),
          )
      go false t =
          let n : get_or ns i 0 ≡ start s = number ∙ ap (λ b. cond b a.next (start s)) t in
          let count = a.count in
          let small = low in
          let test : ltb (get_or ns i 0) (length vs) ≡ true = lt-ltb (get_or ns i 0) (length vs) (omega arith) in
          let before : place_before k m.vertices (start s) ≡ place_before k vs (start s) =
          ap (λ us. place_before k us (start s)) a.vertices ∙ (before_same k a.us new (start s) (omega arith) ∙ ap (λ o. unwrap_or (option_map (λ x. x.place) o) k.origin) (a.same (start s) t)) in
          let same : m' ≡ mesh_of ts (with_place (get_or ns i 0) place a.us ++ new) =
          told ∙ (ap (λ b. cond b (replace_place m (get_or ns i 0) (placed_by k m.vertices s bytes)) m) test
          ∙ (ap (λ p. replace_place m (get_or ns i 0) p) (placed_same k vs m.vertices s bytes before)
          ∙ (ap (λ (z : Mesh P). replace_place z (get_or ns i 0) place) (x ∙ ap (mesh_of ts) a.vertices)
          ∙ ap (mesh_of ts) (place_left (get_or ns i 0) place a.us new (omega arith))))) in
          let vertices : with_place (get_or ns i 0) place a.us ++ new ≡ m'.vertices = sym (ap (λ (z : Mesh P). z.vertices) same) in (
            same ∙ ap (mesh_of ts) vertices,
            subst (λ (ws : List (Vertex P)). Moving (i + 1) ws) vertices (record {
              us = with_place (get_or ns i 0) place a.us;
              seen = start s ∷ a.seen;
              next = a.next;
              vertices = refl;
              count = ap length (place_changed (get_or ns i 0) place a.us) ∙ (length_changed (vertex_at place) (get_or ns i 0) a.us ∙ a.count);
              left = onward;
              high = a.high;
              rest = behind ∙ ap (λ b. numbers (start s ∷ a.seen) (cond b (suc a.next) a.next) (key_sides (drop (i + 1) ps))) t;
              same = λ v f. let u = unlisted (start s) v a.seen f in
                  ap (λ ws. slice_get ws v) (place_changed (get_or ns i 0) place a.us) ∙ (changed_elsewhere (vertex_at place) (get_or ns i 0) v a.us (λ q. u.0 (q ∙ n)) ∙ a.same v u.1);
            }),
          )

-- the first vertices of a mesh, before any has moved
pub moving_first : {P D : Type 0} (k : Kind P D) (law : Lawful k) (old : ℕ) (m : Mesh P) (ps ns bs : List ℕ) → old ≤ length m.vertices → ns ≡ numbers [] old (key_sides ps) → Moving k law (take old m.vertices) (drop old m.vertices) ps ns bs 0 m.vertices
moving_first {P} k law old m ps ns bs h e =
    let n = length-take-le old m.vertices h in
    let start = moving_start k law (take old m.vertices) (drop old m.vertices) ps ns bs (e ∙ ap (λ v. numbers [] v (key_sides ps)) (sym n)) in
    subst (λ (ws : List (Vertex P)). Moving k law (take old m.vertices) (drop old m.vertices) ps ns bs 0 ws) (take-append-drop old m.vertices) start

-- the numbers are as many as the positions
pub numbers_counted : (seen : List ℕ) (n : ℕ) (ss : List Side) → length (numbers seen n ss) ≡ length ss
numbers_counted seen n [] = refl
numbers_counted seen n (s ∷ ss) = ap suc (numbers_counted (start s ∷ seen) (cond (has (start s) seen) (suc n) n) ss)

pub key_numbers : (n : ℕ) (ps ns : List ℕ) → ns ≡ numbers [] n (key_sides ps) → length ns ≡ length ps
key_numbers n ps ns e = ap length e ∙ (numbers_counted [] n (key_sides ps) ∙ length-map ps key_side)
