-- The ends of the edges of a closed mesh, in a table of their keys.
use Rattle.std.proofs.Common.{◌≡◌, ℕ, zero, suc, ◌/◌, ◌%◌, ◌<◌, List, [], ◌∷◌, length, get_or, subst, arith}
use Rattle.mesh.specs.Lists.{Mem, now, later}
use Rattle.mesh.specs.Triangles.{Tri}
use Rattle.mesh.specs.Sides.{Side, side, sides}
use Rattle.mesh.specs.Edges.{up, edges}
use Rattle.mesh.specs.Closed.{Closed}
use Rattle.forest.specs.Trees.{start, end}
use Rattle.forest.specs.Tables.{key_side, key_sides}
use Rattle.mesh.proofs.Members.{kept_mem, mem_map}
use Rattle.mesh.proofs.Counting.{edge_up, closed_sided}
use Rattle.mesh.proofs.Links.{side_link}
use Rattle.engine.specs.Joining.{EndsBelow}

mem_at : (xs : List ℕ) (i : ℕ) → i < length xs → Mem (get_or xs i 0) xs
mem_at [] i h = absurd (omega arith)
mem_at (x ∷ xs) zero h = now
mem_at (x ∷ xs) (suc i) h = later (mem_at xs i (omega arith))

module _ (V : ℕ) (ts : List Tri) (closed : Closed V ts) where
  edge_small : (s : Side) → Mem s (edges ts) → (start s < V) × (end s < V)
  edge_small (side i j) m =
      let k = kept_mem up (sides ts) (edge_up ts (closed_sided V ts closed) (side i j) m) in
      let a = side_link ts k.0 in
      let b = side_link ts (closed.both_ways (side i j) k.0) in
      ((closed.fits i j a.0 a.1).0, (closed.fits j i b.0 b.1).0)

  -- the ends of each edge are vertices
  pub ends_below : (ks : List ℕ) → key_sides ks ≡ edges ts → EndsBelow V ks
  ends_below ks e = record { low = λ i h. (here i h).0; high = λ i h. (here i h).1 }
    where
      here : (i : ℕ) → i < length ks → (get_or ks i 0 / 16384 < V) × (get_or ks i 0 % 16384 < V)
      here i h = edge_small (key_side (get_or ks i 0)) (subst (Mem (key_side (get_or ks i 0))) e (mem_map key_side (mem_at ks i h)))
