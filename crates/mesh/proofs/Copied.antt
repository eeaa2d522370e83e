-- A surface copied into an empty store that has room for it.
use Rattle.std.proofs.Common.{◌≡◌, ℕ, suc, ◌+◌, ◌≤◌, Bool, true, cond, ltb, leb, List, [], ◌∷◌, ◌++◌, map, length, Some, sym, refl, ap, ◌∙◌, arith, append-nil, append_assoc, length-append, lt-ltb, le-leb}
use Rattle.std.specs.List.{slice_get}
use Rattle.std.proofs.lemmas.Bool.{and_from}
use Rattle.std.proofs.lemmas.List.{length-map}
use Rattle.mesh.specs.Triangles.{Tri}
use Rattle.mesh.specs.Meshes.{Mesh, Vertex, mesh_of, vertex_of, vertex_total, triangle_total, places}
use Rattle.mesh.specs.Growth.{all_below, different, may_add_vertex, add_vertex, may_add_triangle, add_triangle}
use Rattle.mesh.specs.Copies.{with_vertices, with_triangles, copied}

-- a mesh for which a store with this room has room, and whose triangles have three different vertices
pub record Fitting {P : Type 0} (vertex_room triangle_room : ℕ) (m : Mesh P) : Type 0 where
  pub few_vertices : vertex_total m ≤ vertex_room
  pub few_triangles : triangle_total m ≤ triangle_room
  pub corners_below : (t : ℕ) (x : Tri) → slice_get m.triangles t ≡ Some x → all_below (vertex_total m) x ≡ true
  pub corners_differ : (t : ℕ) (x : Tri) → slice_get m.triangles t ≡ Some x → different x ≡ true

-- a mesh that an empty store with this room takes over whole: besides, each vertex is its own parent
pub record Copyable {P : Type 0} (vertex_room triangle_room : ℕ) (m : Mesh P) : Type 0 where
  pub fits : Fitting vertex_room triangle_room m
  pub own : (v : ℕ) (x : Vertex P) → slice_get m.vertices v ≡ Some x → x.parent ≡ v

-- vertices at the places, from the number n on, each its own parent
abbrev own_vertices : {P : Type 0} → ℕ → List P → List (Vertex P)
own_vertices n [] = []
own_vertices n (p ∷ ps) = vertex_of p n ∷ own_vertices (n + 1) ps

length_own : {P : Type 0} (n : ℕ) (ps : List P) → length (own_vertices n ps) ≡ length ps
length_own n [] = refl
length_own n (p ∷ ps) = ap suc (length_own (n + 1) ps)

own_places : {P : Type 0} (n : ℕ) (vs : List (Vertex P)) → ((i : ℕ) (x : Vertex P) → slice_get vs i ≡ Some x → x.parent ≡ n + i) → own_vertices n (map (λ x. x.place) vs) ≡ vs
own_places n [] f = refl
own_places {P} n (x ∷ xs) f =
    let here : x.parent ≡ n = f 0 x refl ∙ omega arith in
    ap (λ (k : ℕ). vertex_of x.place k ∷ own_vertices (n + 1) (map (λ x. x.place) xs)) (sym here)
    ∙ ap (λ ys. x ∷ ys) (own_places (n + 1) xs (λ i y e. f (suc i) y e ∙ omega arith))

-- where there is room for all the vertices they are taken
vertices_taken : {P : Type 0} (room : ℕ) (m : Mesh P) (ps : List P) → vertex_total m + length ps ≤ room → with_vertices room m ps ≡ mesh_of m.triangles (m.vertices ++ own_vertices (vertex_total m) ps)
vertices_taken room m [] h = ap (mesh_of m.triangles) (sym (append-nil m.vertices))
vertices_taken {P} room m (p ∷ ps) h =
    let n = vertex_total m in
    let next = add_vertex m p n in
    let few : suc n ≤ room = omega arith in
    let may : may_add_vertex room m n ≡ true = and_from (ltb n room) (leb n n) (lt-ltb n room few) (le-leb n n (omega arith)) in
    let more : vertex_total next ≡ n + 1 = length-append m.vertices (vertex_of p n ∷ []) in
    ap (λ (b : Bool). with_vertices room (cond b next m) ps) may
    ∙ vertices_taken room next ps (omega arith)
    ∙ ap (λ (k : ℕ). mesh_of m.triangles ((m.vertices ++ (vertex_of p n ∷ [])) ++ own_vertices k ps)) more
    ∙ ap (mesh_of m.triangles) (append_assoc m.vertices (vertex_of p n ∷ []) (own_vertices (n + 1) ps))

-- where there is room for all the triangles, and their corners are different vertices, they are taken
triangles_taken : {P : Type 0} (room : ℕ) (m : Mesh P) (ts : List Tri) → triangle_total m + length ts ≤ room → ((i : ℕ) (x : Tri) → slice_get ts i ≡ Some x → all_below (vertex_total m) x ≡ true) → ((i : ℕ) (x : Tri) → slice_get ts i ≡ Some x → different x ≡ true) → with_triangles room m ts ≡ mesh_of (m.triangles ++ ts) m.vertices
triangles_taken room m [] h below differ = ap (λ ts. mesh_of ts m.vertices) (sym (append-nil m.triangles))
triangles_taken {P} room m (t ∷ ts) h below differ =
    let n = triangle_total m in
    let next = add_triangle m t in
    let few : suc n ≤ room = omega arith in
    let may : may_add_triangle room m t ≡ true = and_from (ltb n room) _ (lt-ltb n room few) (and_from (all_below (vertex_total m) t) (different t) (below 0 t refl) (differ 0 t refl)) in
    let more : triangle_total next ≡ n + 1 = length-append m.triangles (t ∷ []) in
    ap (λ (b : Bool). with_triangles room (cond b next m) ts) may
    ∙ triangles_taken room next ts (omega arith) (λ i x e. below (suc i) x e) (λ i x e. differ (suc i) x e)
    ∙ ap (λ us. mesh_of us m.vertices) (append_assoc m.triangles (t ∷ []) ts)

module _ {P : Type 0} (vertex_room triangle_room : ℕ) (m : Mesh P) where
  -- an empty store takes all triangles of a surface that fits, and a vertex for each of its vertices
  pub copied_fitting : Fitting vertex_room triangle_room m → copied vertex_room triangle_room m (mesh_of [] []) ≡ mesh_of m.triangles (own_vertices 0 (places m))
  copied_fitting c =
      let few = c.few_vertices in
      let fit = c.few_triangles in
      let n : length (places m) ≡ vertex_total m = length-map m.vertices (λ x. x.place) in
      let all : length (own_vertices 0 (places m)) ≡ vertex_total m = length_own 0 (places m) ∙ n in
      ap (λ s. with_triangles triangle_room s m.triangles) (vertices_taken vertex_room (mesh_of [] []) (places m) (omega arith))
      ∙ triangles_taken triangle_room (mesh_of [] (own_vertices 0 (places m))) m.triangles (omega arith) (λ i x e. ap (λ k. all_below k x) all ∙ c.corners_below i x e) c.corners_differ

  pub copied_triangles : Fitting vertex_room triangle_room m → (copied vertex_room triangle_room m (mesh_of [] [])).triangles ≡ m.triangles
  copied_triangles c = ap (λ s. s.triangles) (copied_fitting c)

  pub copied_total : Fitting vertex_room triangle_room m → vertex_total (copied vertex_room triangle_room m (mesh_of [] [])) ≡ vertex_total m
  copied_total c = ap vertex_total (copied_fitting c) ∙ length_own 0 (places m) ∙ length-map m.vertices (λ x. x.place)

  -- where each vertex is its own parent it then means the surface's mesh
  pub copied_whole : Copyable vertex_room triangle_room m → copied vertex_room triangle_room m (mesh_of [] []) ≡ m
  copied_whole c = copied_fitting c.fits ∙ ap (mesh_of m.triangles) (own_places 0 m.vertices (λ i x e. c.own i x e ∙ omega arith))
