-- What a table of parents says of the labels of vertices.
use Rattle.std.specs.Prelude.{◌≡◌, ℕ, ◌/◌, ◌%◌, ◌<◌, ◌≤◌, Bool, true, false, not, ◌&&◌, List, length, ◌==◌, slice_index}
use Rattle.mesh.specs.Sides.{Side}
use Rattle.forest.specs.Trees.{merged, label}

-- the numbers are the labels of the vertices, in their order
pub record Labelled (ms : List Side) (ls : List ℕ) : Type 0 where
  pub each : (v : ℕ) → v < length ls → slice_index ls v ≡ label ms v

-- both ends of each edge are below n
pub record EndsBelow (n : ℕ) (ks : List ℕ) : Type 0 where
  pub low : (e : ℕ) → e < length ks → slice_index ks e / 16384 < n
  pub high : (e : ℕ) → e < length ks → slice_index ks e % 16384 < n

-- each vertex is its own parent
pub record Own (ps : List ℕ) : Type 0 where
  pub each : (v : ℕ) → v < length ps → slice_index ps v ≡ v

-- no parent is higher than its vertex
pub record Falling (ps : List ℕ) : Type 0 where
  pub each : (v : ℕ) → v < length ps → slice_index ps v ≤ v

-- a vertex has the label of its parent, and one that is its own parent is its own label
pub record Links (ps : List ℕ) (l : ℕ → ℕ) : Type 0 where
  pub kept : (v : ℕ) → v < length ps → l (slice_index ps v) ≡ l v
  pub root : (v : ℕ) → v < length ps → slice_index ps v ≡ v → l v ≡ v

-- r is the label of v, whatever labels the parents link, and they link the same ones after
abbrev pub Finds : List ℕ → List ℕ → ℕ → ℕ → Type 0
Finds before after v r = (l : ℕ → ℕ) → Links before l → (l v ≡ r) × (l r ≡ r) × Links after l

-- the labels after an edge between i and j that is marked or not
abbrev pub joined : Bool → ℕ → ℕ → (ℕ → ℕ) → ℕ → ℕ
joined true i j l v = merged (l i) (l j) (l v)
joined false i j l v = l v

-- r says whether that edge closes no loop; if so, the parents link the labels after it
abbrev pub Joins : List ℕ → List ℕ → Bool → ℕ → ℕ → Bool → Type 0
Joins before after m i j r = (l : ℕ → ℕ) → Links before l → (r ≡ not (m && (l i == l j))) × (r ≡ true → Links after (joined m i j l))

-- the parents are the labels themselves
abbrev pub Flat : List ℕ → List ℕ → Type 0
Flat before after = (l : ℕ → ℕ) → Links before l → (v : ℕ) → v < length before → slice_index after v ≡ l v
