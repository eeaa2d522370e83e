-- The vertices of later positions, added one after another.
use Rattle.std.proofs.Common.{◌≡◌, ℕ, zero, suc, ◌+◌, ◌-◌, ◌*◌, ◌<◌, ◌≤◌, Bool, true, false, cond, ltb, List, [], ◌∷◌, ◌++◌, length, get_or, take, drop, sym, refl, ap, ◌∙◌, subst, append_assoc, arith, length-append, zero-mul, le-ltb}
use Rattle.std.proofs.lemmas.List.{append-nil, drop_all}
use Rattle.std.specs.Option.{option_and_then, option_map, unwrap_or}
use Rattle.place.specs.Kinds.{Kind, Lawful}
use Rattle.mesh.specs.Lists.{Mem, now, later}
use Rattle.mesh.specs.Triangles.{Tri}
use Rattle.mesh.specs.Sides.{Side}
use Rattle.mesh.specs.Meshes.{Mesh, Vertex, mesh_of, vertex_of}
use Rattle.mesh.specs.Growth.{add_vertex}
use Rattle.forest.specs.Trees.{start}
use Rattle.forest.specs.Places.{place_before, displaced_at, added}
use Rattle.forest.specs.Tables.{key_side, key_sides}
use Rattle.runs.specs.Parts.{displacements_read}
use Rattle.forest.proofs.Placing.{nth_left}
use Rattle.engine.specs.Places.{placed_by}
use Rattle.engine.specs.Writing.{with_later, Started}
use Rattle.engine.proofs.Displacing.{front_of, bytes_at, read_from, read_next}

-- a key stands for a listed side
pub key_listed : (ps : List ℕ) (i : ℕ) → i < length ps → Mem (key_side (get_or ps i 0)) (key_sides ps)
key_listed [] i h = absurd (omega arith)
key_listed (p ∷ ps) zero h = now
key_listed (p ∷ ps) (suc i) h = later (key_listed ps i (omega arith))

-- a side's start is the same among more vertices
pub before_same : {P D : Type 0} (k : Kind P D) (vs ws : List (Vertex P)) (v : ℕ) → v < length vs → place_before k (vs ++ ws) v ≡ place_before k vs v
before_same k vs ws v h = ap (λ o. unwrap_or (option_map (λ x. x.place) o) k.origin) (nth_left vs ws v h)

-- and so is the new place of a position
pub placed_same : {P D : Type 0} (k : Kind P D) (vs us : List (Vertex P)) (s : Side) (bs : List ℕ) → place_before k us (start s) ≡ place_before k vs (start s) → placed_by k us s bs ≡ placed_by k vs s bs
placed_same k vs us s bs e = ap (λ p. unwrap_or (option_and_then (k.displaced p) (k.read_displacement bs)) p) e

module _ {P D : Type 0} (k : Kind P D) (law : Lawful k) (vs : List (Vertex P)) (ps ns bs : List ℕ) where
  -- the vertices to add for the positions from i on
  abbrev pub added_from : ℕ → List (Vertex P)
  added_from i = added k vs (key_sides (drop i ps)) (drop i ns) (read_from k law (length ps) i bs)

  abbrev pub all_added : List (Vertex P)
  all_added = added k vs (key_sides ps) ns (displacements_read k (length ps) bs)

  pub added_start : added_from 0 ≡ all_added
  added_start = (λ j. added k vs (key_sides ps) ns (displacements_read k (n j) (drop (z j) bs)))
    where
      n : length ps - 0 ≡ length ps
      n = omega arith

      z : 0 * k.displacement_width ≡ 0
      z = zero-mul k.displacement_width

  pub added_end : (i : ℕ) → length ps ≤ i → added_from i ≡ []
  added_end i h = ap (λ qs. added k vs (key_sides qs) (drop i ns) (read_from k law (length ps) i bs)) (drop_all i ps h)

  pub added_next : (i : ℕ) → length ns ≡ length ps → length ps * k.displacement_width ≤ length bs → i < length ps
      → added_from i ≡ cond (ltb (get_or ns i 0) (length vs)) (added_from (i + 1)) (vertex_of (placed_by k vs (key_side (get_or ps i 0)) (drop (i * k.displacement_width) bs)) (start (key_side (get_or ps i 0))) ∷ added_from (i + 1))
  added_next i e enough h =
      let s = key_side (get_or ps i 0) in
      let r = read_next k law (length ps) i bs h enough in
      let p = front_of ps i h in
      let q = front_of ns i (omega arith) in
      (λ j. added k vs (key_sides (p j)) (q j) (r.2 j))
      ∙ ap (λ o. cond (ltb (get_or ns i 0) (length vs)) (added_from (i + 1)) (vertex_of (unwrap_or (option_and_then (displaced_at k vs s) o) (place_before k vs (start s))) (start s) ∷ added_from (i + 1))) (sym r.1)

  -- the vertices us are vs and those that were added for the positions before i
  pub record Adding (i : ℕ) (us : List (Vertex P)) : Type 0 where
    pub new : List (Vertex P)
    pub vertices : us ≡ vs ++ new
    pub left : new ++ added_from i ≡ all_added

  pub adding_start : Adding 0 vs
  adding_start = record { new = []; vertices = sym (append-nil vs); left = added_start }

  pub adding_end : (i : ℕ) (us : List (Vertex P)) → length ps ≤ i → Adding i us → us ≡ vs ++ all_added
  adding_end i us h a = a.vertices ∙ ap (λ ws. vs ++ ws) (sym (append-nil a.new) ∙ (ap (λ ws. a.new ++ ws) (sym (added_end i h)) ∙ a.left))

  -- there is room for one that is to be added
  pub adding_room : (i : ℕ) (us : List (Vertex P)) → length ns ≡ length ps → length ps * k.displacement_width ≤ length bs → i < length ps → Adding i us → length vs ≤ get_or ns i 0 → length us < length vs + length all_added
  adding_room i us e enough h a n =
      let x = added_next i e enough h ∙ ap (λ b. cond b (added_from (i + 1)) (vertex_of (placed_by k vs (key_side (get_or ps i 0)) (drop (i * k.displacement_width) bs)) (start (key_side (get_or ps i 0))) ∷ added_from (i + 1))) (le-ltb (get_or ns i 0) (length vs) n) in
      let y = ap length x in
      let u = ap length a.vertices ∙ length-append vs a.new in
      let w = sym (length-append a.new (added_from i)) ∙ ap length a.left in
      omega arith

  pub adding_within : (i : ℕ) (us : List (Vertex P)) → Adding i us → length vs ≤ length us
  adding_within i us a = let u = ap length a.vertices ∙ length-append vs a.new in omega arith

  pub adding_next : (i r old : ℕ) (ts : List Tri) (us : List (Vertex P)) (m m' : Mesh P) → length ns ≡ length ps → length ps * k.displacement_width ≤ length bs → Started (length vs) (key_sides ps) → i < length ps → r ≡ k.displacement_width → old ≡ length vs
      → m ≡ mesh_of ts us → m' ≡ with_later k old (get_or ns i 0) (key_side (get_or ps i 0)) (take (length bs - i * r) (drop (i * r) bs)) m → Adding i us → (ws : List (Vertex P)) × (m' ≡ mesh_of ts ws) × Adding (i + 1) ws
  adding_next i r old ts us m m' e enough st h w o x y a = go (ltb (get_or ns i 0) (length vs)) refl
    where
      s : Side
      s = key_side (get_or ps i 0)

      bytes : List ℕ
      bytes = drop (i * k.displacement_width) bs

      told : m' ≡ with_later k (length vs) (get_or ns i 0) s bytes (mesh_of ts us)
      told = y ∙ (λ j. with_later k (o j) (get_or ns i 0) s (bytes_at i r k.displacement_width bs w j) (x j))

      rest : added_from i ≡ cond (ltb (get_or ns i 0) (length vs)) (added_from (i + 1)) (vertex_of (placed_by k vs s bytes) (start s) ∷ added_from (i + 1))
      rest = added_next i e enough h

      go : (b : Bool) → ltb (get_or ns i 0) (length vs) ≡ b → (ws : List (Vertex P)) × (m' ≡ mesh_of ts ws) × Adding (i + 1) ws
      go true t = (
        us,
        told ∙ ap (λ b. cond b (mesh_of ts us) (add_vertex (mesh_of ts us) (placed_by k us s bytes) (start s))) t,
        record {
          new = a.new;
          vertices = a.vertices;
          left = ap (λ ws. a.new ++ ws) (sym (rest ∙ ap (λ b. cond b (added_from (i + 1)) (vertex_of (placed_by k vs s bytes) (start s) ∷ added_from (i + 1))) t)) ∙ a.left;
        },
      )
      go false t =
          let one = vertex_of (placed_by k vs s bytes) (start s) in
          let same : placed_by k us s bytes ≡ placed_by k vs s bytes = placed_same k vs us s bytes (ap (λ ws. place_before k ws (start s)) a.vertices ∙ before_same k vs a.new (start s) (st s (key_listed ps i h))) in (
            us ++ one ∷ [],
            told ∙ ap (λ b. cond b (mesh_of ts us) (add_vertex (mesh_of ts us) (placed_by k us s bytes) (start s))) t ∙ ap (λ p. mesh_of ts (us ++ vertex_of p (start s) ∷ [])) same,
            record {
              new = a.new ++ one ∷ [];
              vertices = ap (λ ws. ws ++ one ∷ []) a.vertices ∙ append_assoc vs a.new (one ∷ []);
              left = append_assoc a.new (one ∷ []) (added_from (i + 1)) ∙ ap (λ ws. a.new ++ ws) (sym (rest ∙ ap (λ b. cond b (added_from (i + 1)) (one ∷ added_from (i + 1))) t)) ∙ a.left;
            },
          )

  -- the same of the store's meshes
  pub adding_more : (i r old : ℕ) (m0 m m' : Mesh P) → vs ≡ m0.vertices → length ns ≡ length ps → length ps * k.displacement_width ≤ length bs → Started (length vs) (key_sides ps) → i < length ps → r ≡ k.displacement_width → old ≡ length vs
      → m ≡ mesh_of m0.triangles m.vertices → m' ≡ with_later k old (get_or ns i 0) (key_side (get_or ps i 0)) (take (length bs - i * r) (drop (i * r) bs)) m → Adding i m.vertices → (m' ≡ mesh_of m0.triangles m'.vertices) × Adding (i + 1) m'.vertices
  adding_more i r old m0 m m' v e enough st h w o x y a =
      let n = adding_next i r old m0.triangles m.vertices m m' e enough st h w o x y a in
      let same : n.0 ≡ m'.vertices = sym (ap (λ (z : Mesh P). z.vertices) n.1) in
      (n.1 ∙ ap (mesh_of m0.triangles) same, subst (λ (ws : List (Vertex P)). Adding (i + 1) ws) same n.2)
