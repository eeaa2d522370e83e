-- Where a store differs from what a table tells of it.
use Rattle.std.specs.Prelude.{ℕ, ◌+◌, ◌*◌, ◌==◌, Bool, true, not, List, None, Some, Option}
use Rattle.std.specs.List.{prefix_len, zip}
use Rattle.place.specs.Words.{word}
use Rattle.mesh.specs.Searches.{first_in}
use Rattle.mesh.specs.Meshes.{Mesh, vertex_total, parent_at}

-- how many bytes at the front are the same
abbrev pub same_bytes : List ℕ → List ℕ → ℕ
same_bytes xs ys = prefix_len (λ p. p.0 == p.1) (zip xs ys)

-- whether there is no such number, or another one
abbrev pub is_other : Option ℕ → ℕ → Bool
is_other None n = true
is_other (Some m) n = not (m == n)

-- whether the parent of vertex v is another than an item of numbers has for it
abbrev pub other_parent : {P : Type 0} → Mesh P → List ℕ → ℕ → Bool
other_parent m bs v = is_other (parent_at m v) (word bs (4 + 4 * v))

-- the first vertex with another parent
abbrev pub first_other_parent : {P : Type 0} → Mesh P → List ℕ → Option ℕ
first_other_parent m bs = first_in (other_parent m bs) 0 (vertex_total m)
