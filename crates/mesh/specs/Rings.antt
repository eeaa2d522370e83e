-- The ring of triangles at a vertex.
use Rattle.std.specs.Prelude.{ℕ, List, ◌∷◌}
use Rattle.mesh.specs.Triangles.{Tri, tri}

-- read from its corner v, the triangle is (v, x, y)
pub data Corner : Tri → ℕ → ℕ → ℕ → Type 0 where
  at_first : {x y z : ℕ} → Corner (tri x y z) x y z
  at_second : {x y z : ℕ} → Corner (tri x y z) y z x
  at_third : {x y z : ℕ} → Corner (tri x y z) z x y

-- some triangle of the list, read from v, is (v, x, y): the link x→y at v
pub data Link : List Tri → ℕ → ℕ → ℕ → Type 0 where
  here : {t : Tri} {ts : List Tri} {v x y : ℕ} → Corner t v x y → Link (t ∷ ts) v x y
  there : {t : Tri} {ts : List Tri} {v x y : ℕ} → Link ts v x y → Link (t ∷ ts) v x y

-- steps of R lead from x to y
pub data Walk (R : ℕ → ℕ → Type 0) : ℕ → ℕ → Type 0 where
  stop : {x : ℕ} → Walk R x x
  step : {x y z : ℕ} → R x y → Walk R y z → Walk R x z

-- The links at a vertex form one ring: there is one, and from the start of any of them the steps reach the start of every other.
-- One step goes from the triangle (v, a, b) to the triangle with the side v→b.
pub record OneRing (R : ℕ → ℕ → Type 0) : Type 0 where
  pub some : (a : ℕ) × (b : ℕ) × R a b
  pub all : (a b c d : ℕ) → R a b → R c d → Walk R a c
