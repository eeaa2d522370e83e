-- A closed mesh.
use Rattle.std.specs.Prelude.{ℕ, ◌<◌, ◌≤◌, List, length, ◌≢◌}
use Rattle.mesh.specs.Lists.{Mem, Apart}
use Rattle.mesh.specs.Triangles.{Tri}
use Rattle.mesh.specs.Sides.{Side, back, sides}
use Rattle.mesh.specs.Rings.{Link, OneRing}

-- V vertices and the triangles ts are a closed mesh
pub record Closed (V : ℕ) (ts : List Tri) : Type 0 where
  -- there are at least two triangles
  pub two : 2 ≤ length ts
  -- every corner is a vertex, and differs from the next
  pub fits : (v x y : ℕ) → Link ts v x y → (v < V) × (v ≢ x)
  -- every directed side lies in one triangle only
  pub once : Apart (sides ts)
  -- the reverse of every side lies in a triangle
  pub both_ways : (s : Side) → Mem s (sides ts) → Mem (back s) (sides ts)
  -- every vertex has one ring
  pub ring : (v : ℕ) → v < V → OneRing (Link ts v)
