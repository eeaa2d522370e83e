-- Corners exchanged one after another.
use Rattle.std.proofs.Common.{◌≡◌, ℕ, zero, suc, ◌+◌, ◌-◌, ◌*◌, ◌/◌, ◌%◌, ◌<◌, ◌≤◌, Bool, true, cond, eqb, ltb, List, [], ◌∷◌, length, get_or, Some, ◌≢◌, sym, refl, ap, ◌∙◌, arith, lt-ltb}
use lib.ListN.{length-map}
use Rattle.std.specs.Option.{option_map}
use Rattle.std.specs.List.{slice_get}
use Rattle.std.proofs.lemmas.Bool.{and_from}
use Rattle.std.proofs.lemmas.List.{nil_from_length}
use Rattle.std.proofs.lemmas.Option.{slice_get-map}
use Rattle.mesh.specs.Triangles.{Tri, tri}
use Rattle.mesh.specs.Meshes.{Mesh, mesh_of, vertex_total, triangle_total}
use Rattle.mesh.specs.Growth.{changed, corner_fits, corner_fits_in, different, may_replace_corner, replace_corner, with_corner}
use Rattle.mesh.proofs.Tests.{some_inj}
use Rattle.forest.specs.Tables.{word_tris}
use Rattle.forest.specs.Theorems.{led_back, origin}
use Rattle.engine.specs.Writing.{Exchangeable}
use Rattle.engine.proofs.Fitting.{Fits, fits_at, differ}
use Rattle.engine.proofs.Words.{word_at}

-- the triangle with its first k corners of another
abbrev pub front : ℕ → Tri → Tri → Tri
front k (tri a b c) (tri x y z) = tri (cond (ltb 0 k) x a) (cond (ltb 1 k) y b) (cond (ltb 2 k) z c)

-- the triangles with the first t, and k corners of the next, of others
abbrev pub mixed : ℕ → ℕ → List Tri → List Tri → List Tri
mixed t k [] us = []
mixed t k (x ∷ ts) [] = x ∷ ts
mixed zero k (x ∷ ts) (u ∷ us) = front k x u ∷ ts
mixed (suc t) k (x ∷ ts) (u ∷ us) = u ∷ mixed t k ts us

abbrev corner_at : ℕ → Tri → ℕ
corner_at k (tri x y z) = cond (eqb k 0) x (cond (eqb k 1) y z)

front_none : (x u : Tri) → front 0 x u ≡ x
front_none (tri a b c) (tri x y z) = refl

front_all : (x u : Tri) → front 3 x u ≡ u
front_all (tri a b c) (tri x y z) = refl

front_next : (k : ℕ) (x u : Tri) → k < 3 → with_corner k (corner_at k u) (front k x u) ≡ front (suc k) x u
front_next zero (tri a b c) (tri x y z) h = refl
front_next (suc zero) (tri a b c) (tri x y z) h = refl
front_next (suc (suc zero)) (tri a b c) (tri x y z) h = refl
front_next (suc (suc (suc k))) x u h = absurd (omega arith)

pub mixed_none : (ts us : List Tri) → mixed 0 0 ts us ≡ ts
mixed_none [] us = refl
mixed_none (x ∷ ts) [] = refl
mixed_none (x ∷ ts) (u ∷ us) = ap (λ y. y ∷ ts) (front_none x u)

pub mixed_all : (t k : ℕ) (ts us : List Tri) → length us ≡ length ts → length ts ≤ t → mixed t k ts us ≡ us
mixed_all t k [] us e h = sym (nil_from_length us e)
mixed_all t k (x ∷ ts) [] e h = absurd (omega arith)
mixed_all zero k (x ∷ ts) (u ∷ us) e h = absurd (omega arith)
mixed_all (suc t) k (x ∷ ts) (u ∷ us) e h = ap (λ ws. u ∷ ws) (mixed_all t k ts us (omega arith) (omega arith))

-- three corners are a triangle
mixed_row : (t : ℕ) (ts us : List Tri) → length us ≡ length ts → mixed t 3 ts us ≡ mixed (suc t) 0 ts us
mixed_row t [] us e = refl
mixed_row t (x ∷ ts) [] e = absurd (omega arith)
mixed_row zero (x ∷ ts) (u ∷ us) e = (λ j. front_all x u j ∷ sym (mixed_none ts us) j)
mixed_row (suc t) (x ∷ ts) (u ∷ us) e = ap (λ ws. u ∷ ws) (mixed_row t ts us (omega arith))

mixed_here : (t k : ℕ) (ts us : List Tri) (x u : Tri) → slice_get ts t ≡ Some x → slice_get us t ≡ Some u → slice_get (mixed t k ts us) t ≡ Some (front k x u)
mixed_here t k [] us x u e i = absurd (cc)
mixed_here t k (y ∷ ts) [] x u e i = absurd (cc)
mixed_here zero k (y ∷ ts) (w ∷ us) x u e i = (λ j. Some (front k (some_inj e j) (some_inj i j)))
mixed_here (suc t) k (y ∷ ts) (w ∷ us) x u e i = mixed_here t k ts us x u e i

mixed_next : (t k : ℕ) (ts us : List Tri) (u : Tri) → slice_get us t ≡ Some u → k < 3 → changed (with_corner k (corner_at k u)) t (mixed t k ts us) ≡ mixed t (suc k) ts us
mixed_next t k [] us u e h = refl
mixed_next t k (x ∷ ts) [] u e h = absurd (cc)
mixed_next zero k (x ∷ ts) (w ∷ us) u e h = ap (λ y. with_corner k (corner_at k y) (front k x w) ∷ ts) (sym (some_inj e)) ∙ ap (λ y. y ∷ ts) (front_next k x w h)
mixed_next (suc t) k (x ∷ ts) (w ∷ us) u e h = ap (λ ws. w ∷ ws) (mixed_next t k ts us u e h)

-- a corner that leads back to another vertex is not this one
not_this : (V : ℕ) (ps : List ℕ) (x b : ℕ) → b < V → origin V ps x ≢ b → x ≢ b
not_this V ps x b h f e = f (ap (λ (c : Bool). cond c x (get_or ps (x - V) 0)) (lt-ltb x V (omega arith)) ∙ e)

front_differs : (V n : ℕ) (ps : List ℕ) (k : ℕ) (u : Tri) → Fits V (led_back V ps u) → Fits n u → k < 3 → different (front (suc k) (led_back V ps u) u) ≡ true
front_differs V n ps zero (tri x y z) f g h = differ x (origin V ps y) (origin V ps z) (not_this V ps x _ f.1 f.3) f.4 (λ e. not_this V ps x _ f.2 (λ i. f.5 (sym i)) (sym e))
front_differs V n ps (suc zero) (tri x y z) f g h = differ x y (origin V ps z) g.3 (not_this V ps y _ f.2 f.4) (λ e. not_this V ps x _ f.2 (λ i. f.5 (sym i)) (sym e))
front_differs V n ps (suc (suc zero)) (tri x y z) f g h = differ x y z g.3 g.4 g.5
front_differs V n ps (suc (suc (suc k))) u f g h = absurd (omega arith)

corner_small : (n k : ℕ) (u : Tri) → Fits n u → k < 3 → corner_at k u < n
corner_small n zero (tri x y z) f h = f.0
corner_small n (suc zero) (tri x y z) f h = f.1
corner_small n (suc (suc zero)) (tri x y z) f h = f.2
corner_small n (suc (suc (suc k))) u f h = absurd (omega arith)

corner_word : (ws : List ℕ) (t k : ℕ) → k < 3 → corner_at k (tri (get_or ws (3 * t) 0) (get_or ws (3 * t + 1) 0) (get_or ws (3 * t + 2) 0)) ≡ get_or ws (3 * t + k) 0
corner_word ws t zero h = ap (λ i. get_or ws i 0) (let e : 3 * t ≡ 3 * t + 0 = omega arith in e)
corner_word ws t (suc zero) h = refl
corner_word ws t (suc (suc zero)) h = refl
corner_word ws t (suc (suc (suc k))) h = absurd (omega arith)

-- the mesh with the first i corners exchanged
abbrev pub mixed_mesh : {P : Type 0} → Mesh P → List ℕ → ℕ → Mesh P
mixed_mesh m ws i = mesh_of (mixed (i / 3) (i % 3) m.triangles (word_tris ws)) m.vertices

module _ {P : Type 0} (m0 : Mesh P) (ws : List ℕ) (x : Exchangeable (vertex_total m0) m0.triangles (word_tris ws)) (whole : length ws ≡ 3 * triangle_total m0) where
  pub same_count : length (word_tris ws) ≡ length m0.triangles
  same_count = sym (length-map (word_tris ws) (led_back x.old x.parents)) ∙ ap length x.led

  module _ (t k : ℕ) (small : k < 3) (within : 3 * t + k < length ws) where
    abbrev u : Tri
    u = tri (get_or ws (3 * t) 0) (get_or ws (3 * t + 1) 0) (get_or ws (3 * t + 2) 0)

    there : slice_get (word_tris ws) t ≡ Some u
    there = word_at ws t (omega arith)

    before : slice_get m0.triangles t ≡ Some (led_back x.old x.parents u)
    before = ap (λ ts. slice_get ts t) (sym x.led) ∙ (slice_get-map (led_back x.old x.parents) (word_tris ws) t ∙ ap (option_map (led_back x.old x.parents)) there)

    may : may_replace_corner (mesh_of (mixed t k m0.triangles (word_tris ws)) m0.vertices) t k (get_or ws (3 * t + k) 0) ≡ true
    may =
        let old = fits_at x.old m0.triangles x.before t _ before in
        let new = fits_at (vertex_total m0) (word_tris ws) x.after t u there in
        ap (corner_fits_in (vertex_total m0) k (get_or ws (3 * t + k) 0)) (mixed_here t k m0.triangles (word_tris ws) _ u before there)
        ∙ (ap (λ v. corner_fits (vertex_total m0) k v (front k (led_back x.old x.parents u) u)) (sym (corner_word ws t k small))
        ∙ and_from _ _ (lt-ltb k 3 small) (and_from _ _ (lt-ltb _ _ (corner_small (vertex_total m0) k u new small)) (ap different (front_next k (led_back x.old x.parents u) u small) ∙ front_differs x.old (vertex_total m0) x.parents k u old new small)))

    after : replace_corner (mesh_of (mixed t k m0.triangles (word_tris ws)) m0.vertices) t k (get_or ws (3 * t + k) 0) ≡ mesh_of (mixed t (suc k) m0.triangles (word_tris ws)) m0.vertices
    after =
        ap (λ v. mesh_of (changed (with_corner k v) t (mixed t k m0.triangles (word_tris ws))) m0.vertices) (sym (corner_word ws t k small))
        ∙ ap (λ ts. mesh_of ts m0.vertices) (mixed_next t k m0.triangles (word_tris ws) u there small)

  step_on : (i : ℕ) → mesh_of (mixed (i / 3) (suc (i % 3)) m0.triangles (word_tris ws)) m0.vertices ≡ mixed_mesh m0 ws (i + 1)
  step_on i = go (i % 3) refl
    where
      go : (k : ℕ) → i % 3 ≡ k → mesh_of (mixed (i / 3) (suc (i % 3)) m0.triangles (word_tris ws)) m0.vertices ≡ mixed_mesh m0 ws (i + 1)
      go zero e = let q : i / 3 ≡ (i + 1) / 3 = omega arith in let r : suc (i % 3) ≡ (i + 1) % 3 = omega arith in (λ j. mesh_of (mixed (q j) (r j) m0.triangles (word_tris ws)) m0.vertices)
      go (suc zero) e = let q : i / 3 ≡ (i + 1) / 3 = omega arith in let r : suc (i % 3) ≡ (i + 1) % 3 = omega arith in (λ j. mesh_of (mixed (q j) (r j) m0.triangles (word_tris ws)) m0.vertices)
      go (suc (suc zero)) e =
          let q : suc (i / 3) ≡ (i + 1) / 3 = omega arith in
          let r : 0 ≡ (i + 1) % 3 = omega arith in
          ap (λ k. mesh_of (mixed (i / 3) (suc k) m0.triangles (word_tris ws)) m0.vertices) e
          ∙ (ap (λ ts. mesh_of ts m0.vertices) (mixed_row (i / 3) m0.triangles (word_tris ws) same_count)
          ∙ (λ j. mesh_of (mixed (q j) (r j) m0.triangles (word_tris ws)) m0.vertices))
      go (suc (suc (suc k))) e = absurd (omega arith)

  pub exchange_next : (i t k v : ℕ) (b : Bool) (m m' : Mesh P) → i < length ws → t ≡ i / 3 → k ≡ i % 3 → v ≡ get_or ws i 0 → m ≡ mixed_mesh m0 ws i → b ≡ may_replace_corner m t k v → m' ≡ cond b (replace_corner m t k v) m → m' ≡ mixed_mesh m0 ws (i + 1)
  exchange_next i t k v b m m' h et ek ev em eb e =
      let q : 3 * (i / 3) + i % 3 ≡ i = omega arith in
      let small : i % 3 < 3 = omega arith in
      let within : 3 * (i / 3) + i % 3 < length ws = omega arith in
      let can = ap (λ n. may_replace_corner (mixed_mesh m0 ws i) (i / 3) (i % 3) (get_or ws n 0)) (sym q) ∙ may (i / 3) (i % 3) small within in
      let sure : b ≡ true = eb ∙ ((λ j. may_replace_corner (em j) (et j) (ek j) (ev j)) ∙ can) in
      e ∙ ((λ j. cond (sure j) (replace_corner (em j) (et j) (ek j) (ev j)) (em j))
      ∙ (ap (λ n. replace_corner (mixed_mesh m0 ws i) (i / 3) (i % 3) (get_or ws n 0)) (sym q)
      ∙ (after (i / 3) (i % 3) small within ∙ step_on i)))

  pub exchange_start : m0 ≡ mixed_mesh m0 ws 0
  exchange_start = ap (λ ts. mesh_of ts m0.vertices) (sym (mixed_none m0.triangles (word_tris ws)))

  pub exchange_end : (i : ℕ) → length ws ≤ i → mixed_mesh m0 ws i ≡ mesh_of (word_tris ws) m0.vertices
  exchange_end i h = ap (λ ts. mesh_of ts m0.vertices) (mixed_all (i / 3) (i % 3) m0.triangles (word_tris ws) same_count (omega arith))
