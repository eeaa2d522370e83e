-- The marked edges of the tables that are sewn along.
use Rattle.std.specs.Prelude.{◌≡◌, ℕ, List, None}
use Rattle.mesh.specs.Triangles.{Tri}
use Rattle.mesh.specs.Sides.{Side}
use Rattle.forest.specs.Tables.{flags_of}
use Rattle.forest.specs.Splitting.{marked_of, forest_fault}
use Rattle.engine.specs.Stages.{Planted}

-- the edges of the triangles whose number is 1
abbrev pub marked_in : List Tri → List ℕ → List Side
marked_in ts marks = marked_of ts (flags_of marks)

-- the tables hold a forest, of just the marks that they hold
abbrev pub Standing : ℕ → List Tri → List ℕ → List ℕ → List ℕ → List ℕ → List ℕ → Type 0
Standing V ts keys marks arounds roots mirrors = Planted V ts (flags_of marks) keys marks arounds roots mirrors

-- neither they nor the number n of codes have a fault
abbrev pub Sound : ℕ → List Tri → List ℕ → ℕ → Type 0
Sound V ts marks n = forest_fault V ts (flags_of marks) n ≡ None
