-- Triangles added one after another.
use Rattle.std.proofs.Common.{◌≡◌, ℕ, ◌+◌, ◌/◌, ◌≤◌, Bool, true, cond, List, [], ◌∷◌, ◌++◌, length, take, Some, sym, ap, ◌∙◌, append_assoc, arith, length-append, take_all, lt-ltb}
use Rattle.std.specs.List.{slice_get}
use Rattle.std.proofs.lemmas.Bool.{and_from}
use Rattle.std.proofs.lemmas.List.{append-nil, length-take-le}
use Rattle.std.proofs.lemmas.Option.{slice_get_within}
use Rattle.mesh.specs.Triangles.{Tri}
use Rattle.mesh.specs.Meshes.{Mesh, mesh_of, vertex_total, triangle_total}
use Rattle.mesh.specs.Growth.{all_below, different, may_add_triangle, add_triangle}
use Rattle.mesh.proofs.Indexed.{take_next}
use Rattle.forest.specs.Tables.{word_tris}
use Rattle.engine.specs.Writing.{Fitting}
use Rattle.engine.proofs.Fitting.{fits_at, fits_below, fits_different}
use Rattle.engine.proofs.Words.{words_counted}

-- the mesh with the first t of the triangles us
abbrev pub grown : {P : Type 0} → Mesh P → List Tri → ℕ → Mesh P
grown m us t = mesh_of (m.triangles ++ take t us) m.vertices

module _ {P : Type 0} (m0 : Mesh P) (us : List Tri) where
  pub grown_start : m0 ≡ grown m0 us 0
  grown_start = ap (λ ts. mesh_of ts m0.vertices) (sym (append-nil m0.triangles))

  pub grown_next : (room t : ℕ) (x : Tri) (b : Bool) (m m' : Mesh P) → triangle_total m0 + length us ≤ room → Fitting (vertex_total m0) us → slice_get us t ≡ Some x → m ≡ grown m0 us t → b ≡ may_add_triangle room m x → m' ≡ cond b (add_triangle m x) m → m' ≡ grown m0 us (t + 1)
  grown_next room t x b m m' r f there em eb e =
      let f' = fits_at (vertex_total m0) us f t x there in
      let w = slice_get_within us t x there in
      let l = length-append m0.triangles (take t us) in
      let k = length-take-le t us (omega arith) in
      let can : may_add_triangle room (grown m0 us t) x ≡ true = and_from _ _ (lt-ltb _ room (omega arith)) (and_from (all_below (vertex_total m0) x) (different x) (fits_below _ x f') (fits_different _ x f')) in
      let sure : b ≡ true = eb ∙ (ap (λ (z : Mesh P). may_add_triangle room z x) em ∙ can) in
      e ∙ ((λ j. cond (sure j) (add_triangle (em j) x) (em j))
      ∙ ap (λ ts. mesh_of ts m0.vertices) (append_assoc m0.triangles (take t us) (x ∷ []) ∙ ap (λ ts. m0.triangles ++ ts) (sym (take_next us t x there))))

pub grown_end : {P : Type 0} (m0 : Mesh P) (ws : List ℕ) (t : ℕ) → length ws / 3 ≤ t → grown m0 (word_tris ws) t ≡ mesh_of (m0.triangles ++ word_tris ws) m0.vertices
grown_end m0 ws t h = ap (λ ts. mesh_of (m0.triangles ++ ts) m0.vertices) (take_all t (word_tris ws) (let e = words_counted ws in omega arith))
