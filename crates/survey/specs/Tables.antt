-- Tables with an entry for each vertex that a mesh may have: its corners counted, and its last triangle.
use Rattle.std.specs.Prelude.{◌≡◌, ℕ, ◌+◌, ◌<◌, ◌≤◌, cond, List, map, slice_index}
use Rattle.mesh.specs.Triangles.{Tri, tri}
use Rattle.survey.specs.declared.tally.Corners.{Corners}
use Rattle.survey.specs.Ringwalk.{corners_in, corners_to, touches, last_to}

-- the numbers of corners in a table, and the last triangles
abbrev pub counts : List Corners → List ℕ
counts cs = map (λ c. c.count) cs

abbrev pub lasts : List Corners → List ℕ
lasts cs = map (λ c. c.last) cs

-- each corner is below n
abbrev pub Below : ℕ → Tri → Type 0
Below n (tri a b c) = (a < n) × (b < n) × (c < n)

-- no entry is over n
pub record Small (xs : List ℕ) (n : ℕ) : Type 0 where
  pub each : (v : ℕ) → v < 16384 → slice_index xs v ≤ n

pub record Zero (xs : List ℕ) : Type 0 where
  pub each : (v : ℕ) → v < 16384 → slice_index xs v ≡ 0

-- the corners of the first n triangles are counted
pub record Counted (ts : List Tri) (n : ℕ) (xs : List ℕ) : Type 0 where
  pub each : (v : ℕ) → v < 16384 → slice_index xs v ≡ corners_to ts v n

-- the last of the first n triangles at each vertex is noted
pub record Seen (ts : List Tri) (n : ℕ) (xs : List ℕ) : Type 0 where
  pub each : (v : ℕ) → v < 16384 → slice_index xs v ≡ last_to ts v n

-- ys is xs with one triangle's corners counted
pub record Added (xs : List ℕ) (t : Tri) (ys : List ℕ) : Type 0 where
  pub each : (v : ℕ) → v < 16384 → slice_index ys v ≡ slice_index xs v + corners_in v t

-- ys is xs with the triangle i noted at its corners
pub record Noted (xs : List ℕ) (t : Tri) (i : ℕ) (ys : List ℕ) : Type 0 where
  pub each : (v : ℕ) → v < 16384 → slice_index ys v ≡ cond (touches v t) i (slice_index xs v)
