-- Triangles: three vertex numbers in order.
use Rattle.std.specs.Prelude.{ℕ}
use Rattle.mesh.specs.declared.triangle.Triangle.{Triangle}

pub data Tri : Type 0 where
  tri : ℕ → ℕ → ℕ → Tri

-- what the program's triangle stands for
abbrev pub tri_of : Triangle → Tri
tri_of t = tri t.a t.b t.c
