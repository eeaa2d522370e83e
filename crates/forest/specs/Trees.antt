-- Step 1: the trees of the marked edges.
use Rattle.std.specs.Prelude.{ℕ, zero, suc, min, max, Bool, true, false, cond, not, ◌&&◌, List, [], ◌∷◌, ◌++◌, filter, ◌==◌, nat_eq}
use Rattle.mesh.specs.Sides.{Side, side}

-- the vertex that a side leaves
abbrev pub start : Side → ℕ
start (side u v) = u

-- the vertex that a side comes to
abbrev pub end : Side → ℕ
end (side u v) = v

-- the label x after the labels a and b have become the lower of the two
abbrev pub merged : ℕ → ℕ → ℕ → ℕ
merged a b x = cond (x == max a b) (min a b) x

-- the labels l after the two labels at each edge have been merged, edge after edge
abbrev pub labels : (ℕ → ℕ) → List Side → ℕ → ℕ
labels l [] = l
labels l (side i j ∷ ms) = labels (λ v. merged (l i) (l j) (l v)) ms

-- before any edge, a vertex is its own label
abbrev pub own : ℕ → ℕ
own v = v

-- the lowest vertex of the tree that v lies on, v itself if it lies on none
abbrev pub label : List Side → ℕ → ℕ
label ms = labels own ms

-- no edge joins two vertices that have one label when its turn comes
abbrev pub loop_free : (ℕ → ℕ) → List Side → Bool
loop_free l [] = true
loop_free l (side i j ∷ ms) = not (l i == l j) && loop_free (λ v. merged (l i) (l j) (l v)) ms

-- the marked edges of the tree with the label k
abbrev pub tree_edges : List Side → ℕ → List Side
tree_edges ms k = filter (λ m. nat_eq (label ms (start m)) k) ms

-- the numbers below n, rising
abbrev pub below : ℕ → List ℕ
below zero = []
below (suc n) = below n ++ (n ∷ [])

-- the list is not empty
abbrev pub some : List Side → Bool
some [] = false
some (m ∷ ms) = true

-- the trees, each by its lowest vertex, in the order of these
abbrev pub trees : ℕ → List Side → List ℕ
trees V ms = filter (λ k. some (tree_edges ms k)) (below V)
