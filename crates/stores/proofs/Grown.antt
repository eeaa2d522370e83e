-- How a chain store's tables grow, by what its tests and its links ensure.
use Rattle.std.proofs.Common.{◌≡◌, ℕ, ◌+◌, ◌*◌, ◌≤◌, min, Bool, true, List, length, get_or, set, Option, refl, arith, length-set}
use Rattle.place.specs.Kinds.{Kind}
use Rattle.mesh.specs.declared.triangle.Triangle.{Triangle}
use Rattle.mesh.specs.Triangles.{tri_of}
use Rattle.mesh.specs.Growth.{may_add_vertex, may_add_triangle, may_replace_corner}
use Rattle.stores.specs.declared.chain.ChainStore.{ChainStore}
use Rattle.stores.specs.declared.chain_record.ChainTriangle.{ChainTriangle}
use Rattle.stores.specs.declared.chain_record.ChainVertex.{ChainVertex}
use Rattle.stores.specs.Chains.{chain_corner, no_triangle, corners_in, vertex_at, next_at, first_at, put_corner, put_first, relinked, refirsted}
use Rattle.stores.specs.Chained.{chained_in, chain_mesh, chain_vertex_room, chain_triangle_room}
use Rattle.stores.specs.Before.{Before}
use Rattle.stores.proofs.Growing.{may_vertex, may_triangle, may_corner, corner_within}
use Rattle.stores.proofs.Stages.{Kept, whole_held}
use Rattle.stores.proofs.Linked.{more_vertex, Added, added}
use Rattle.stores.proofs.Moved.{Moves, Moved, moved}

module _ {P D : Type 0} (kind : Kind P D) (s : ChainStore P) where
  held : Kept (3 * s.triangle_count) s.vertex_count s.tables.triangles.now s.tables.vertices.now
  held = record { placed = s.placed; ends = s.ends; holds = s.holds }

  long : s.triangle_count ≤ length s.tables.triangles.now
  long = let h = s.triangles_fit in omega arith

  tall : s.vertex_count ≤ length s.tables.vertices.now
  tall = let h = s.vertices_fit in omega arith

  pub vertex_added : (room parent : ℕ) (r : ChainVertex) (b : Bool) → b ≡ true → b ≡ may_add_vertex room (chain_mesh kind s) parent → room ≡ chain_vertex_room s → r.first ≡ 0 → Kept (3 * s.triangle_count) (s.vertex_count + 1) s.tables.triangles.now (set s.tables.vertices.now s.vertex_count r) × (s.vertex_count + 1 ≤ min (length (set s.tables.vertices.now s.vertex_count r)) 16384)
  vertex_added room parent r b q e d z =
      let m = s.vertex_count in
      let vs = s.tables.vertices.now in
      let l = may_vertex (chained_in kind) room m parent vs b q e tall in
      (more_vertex (3 * s.triangle_count) m s.tables.triangles.now vs r (whole_held (3 * s.triangle_count) m s.tables.triangles.now vs s.placed s.ends s.holds) z (omega arith), omega (arith, length-set vs m r))

  pub triangle_added : (room : ℕ) (t : Triangle) (b : Bool) {rs₁ rs₂ rs₃ : List ChainTriangle} {vs₁ vs₂ vs₃ : List ChainVertex} → b ≡ true → b ≡ may_add_triangle room (chain_mesh kind s) (tri_of t) → room ≡ chain_triangle_room s
      → rs₁ ≡ put_corner s.tables.triangles.now (3 * s.triangle_count) (chain_corner t.a (first_at s.tables.vertices.now t.a)) → vs₁ ≡ put_first s.tables.vertices.now t.a (3 * s.triangle_count + 1)
      → rs₂ ≡ put_corner rs₁ (3 * s.triangle_count + 1) (chain_corner t.b (first_at vs₁ t.b)) → vs₂ ≡ put_first vs₁ t.b (3 * s.triangle_count + 1 + 1)
      → rs₃ ≡ put_corner rs₂ (3 * s.triangle_count + 2) (chain_corner t.c (first_at vs₂ t.c)) → vs₃ ≡ put_first vs₂ t.c (3 * s.triangle_count + 2 + 1)
      → Added (chained_in kind) s.triangle_count s.vertex_count s.tables.triangles.now s.tables.vertices.now (tri_of t) rs₃ vs₃
  triangle_added room t b {rs₁} {rs₂} {rs₃} {vs₁} {vs₂} {vs₃} q e d e₁ d₁ e₂ d₂ e₃ d₃ =
      let n = s.triangle_count in
      let m = s.vertex_count in
      let rs = s.tables.triangles.now in
      let vs = s.tables.vertices.now in
      added (chained_in kind) (λ r h. refl) room n m t.a t.b t.c rs rs₁ rs₂ rs₃ vs vs₁ vs₂ vs₃ held tall d
      (may_triangle corners_in (chained_in kind) room n m rs vs (tri_of t) b q e long tall) e₁ d₁ e₂ d₂ e₃ d₃

  -- the corner's number comes as j, and stands in the tables as k
  pub corner_moves : (t j k v : ℕ) (b : Bool) → b ≡ true → b ≡ may_replace_corner (chain_mesh kind s) t j v → k ≡ j → Moves s.triangle_count s.vertex_count t k v s.tables.triangles.now
  corner_moves t j k v b q e d =
      let n = s.triangle_count in
      let m = s.vertex_count in
      let rs = s.tables.triangles.now in
      let w = may_corner corners_in (chained_in kind) n m rs s.tables.vertices.now t j v no_triangle b q e long tall in
      let i = corner_within m j v (corners_in (get_or rs t no_triangle)) w.1 in
      record { one = w.0; corner = omega (arith, i.0); vertex = i.1; low = s.placed (3 * t + k) (omega (arith, w.0, i.0)) }

  pub corner_moved : (t k v : ℕ) (before : Option ℕ) {rs₁ rs₂ : List ChainTriangle} {vs₁ vs₂ : List ChainVertex} → Moves s.triangle_count s.vertex_count t k v s.tables.triangles.now
      → Before (3 * s.triangle_count) s.tables.triangles.now (first_at s.tables.vertices.now (vertex_at s.tables.triangles.now (3 * t + k))) (3 * t + k) before
      → rs₁ ≡ relinked s.tables.triangles.now before (next_at s.tables.triangles.now (3 * t + k)) → vs₁ ≡ refirsted s.tables.vertices.now before (vertex_at s.tables.triangles.now (3 * t + k)) (next_at s.tables.triangles.now (3 * t + k))
      → rs₂ ≡ put_corner rs₁ (3 * t + k) (chain_corner v (first_at vs₁ v)) → vs₂ ≡ put_first vs₁ v (3 * t + k + 1)
      → Moved (chained_in kind) s.triangle_count s.vertex_count s.tables.triangles.now s.tables.vertices.now t k v rs₂ vs₂
  corner_moved t k v before {rs₁} {rs₂} {vs₁} {vs₂} w p e₁ d₁ e₂ d₂ =
      let n = s.triangle_count in
      let m = s.vertex_count in
      let rs = s.tables.triangles.now in
      let vs = s.tables.vertices.now in
      moved (chained_in kind) (λ r h. refl) n m t k v before rs rs₁ rs₂ vs vs₁ vs₂ held long tall w p e₁ d₁ e₂ d₂
