-- What fits the meaning of the tables, and what the meaning is after a write.
use Rattle.std.proofs.Common.{◌≡◌, ℕ, ◌<◌, ◌≤◌, Bool, true, ltb, List, length, get_or, sym, ap, ◌∙◌, ⊎_elim, arith}
use borrow.Author.Tests.{clash}
use Rattle.std.specs.List.{slice_get}
use Rattle.std.proofs.lemmas.Bool.{cases_lt, ltb-true}
use Rattle.std.proofs.lemmas.Bool.Decides.{nat_tests}
use Rattle.mesh.specs.Triangles.{Tri, tri}
use Rattle.mesh.specs.Meshes.{Vertex, mesh_of}
use Rattle.mesh.specs.Growth.{vertex_fits, triangle_fits, corner_fits, corner_fits_in}
use Rattle.stores.specs.Records.{front}
use Rattle.stores.proofs.Fronts.{length_front, front_there, front_past}

pub same_mesh : {P : Type 0} {ts us : List Tri} {vs ws : List (Vertex P)} → ts ≡ us → vs ≡ ws → mesh_of ts vs ≡ mesh_of us ws
same_mesh e i = cc

vertex_has_room : (room m parent : ℕ) → vertex_fits room m parent ≡ true → m < room
vertex_has_room room m parent e = grind (arith, nat_tests)

pub triangle_has_room : (room n m : ℕ) (t : Tri) → triangle_fits room n m t ≡ true → n < room
triangle_has_room room n m t e = grind (arith, nat_tests)

pub triangle_within : (room n m a b c : ℕ) → triangle_fits room n m (tri a b c) ≡ true → (a < m) × (b < m) × (c < m)
triangle_within room n m a b c e = grind (arith, nat_tests)

pub corner_within : (m k v : ℕ) (t : Tri) → corner_fits m k v t ≡ true → (k < 3) × (v < m)
corner_within m k v t e = grind (arith, nat_tests)

-- the changes that may be made by the meaning, by the counts in use
pub may_vertex : {X Y : Type 0} (f : X → Y) (room m parent : ℕ) (vs : List X) (b : Bool) → b ≡ true → b ≡ vertex_fits room (length (front f m vs)) parent → m ≤ length vs → m < room
may_vertex f room m parent vs b q e k = vertex_has_room room m parent (rw (length_front f m vs k) at (sym e ∙ q))

pub may_triangle : {X Y Z W : Type 0} (f : X → Y) (g : Z → W) (room n m : ℕ) (ts : List X) (vs : List Z) (t : Tri) (b : Bool) → b ≡ true → b ≡ triangle_fits room (length (front f n ts)) (length (front g m vs)) t → n ≤ length ts → m ≤ length vs → triangle_fits room n m t ≡ true
may_triangle f g room n m ts vs t b q e h k = rw (length_front f n ts h, length_front g m vs k) at (sym e ∙ q)

pub may_corner : {X Z W : Type 0} (f : X → Tri) (g : Z → W) (n m : ℕ) (ts : List X) (vs : List Z) (i k v : ℕ) (d : X) (b : Bool) → b ≡ true → b ≡ corner_fits_in (length (front g m vs)) k v (slice_get (front f n ts) i) → n ≤ length ts → m ≤ length vs → (i < n) × (corner_fits m k v (f (get_or ts i d)) ≡ true)
may_corner f g n m ts vs i k v d b q e h j =
    let fits = corner_fits_in (length (front g m vs)) k v in
    ⊎_elim
    (λ (l : i < n). (l, sym (ap fits (front_there f n ts i d l h) ∙ ap (λ z. corner_fits z k v (f (get_or ts i d))) (length_front g m vs j)) ∙ sym e ∙ q))
    (λ (l : n ≤ i). absurd (clash (sym (ap fits (front_past f n ts i l h)) ∙ sym e ∙ q)))
    (cases_lt i n)

pub may_place : {X Y : Type 0} (f : X → Y) (m v : ℕ) (vs : List X) (b : Bool) → b ≡ true → b ≡ ltb v (length (front f m vs)) → m ≤ length vs → v < m
may_place f m v vs b q e k = ltb-true v m (rw (length_front f m vs k) at (sym e ∙ q))
