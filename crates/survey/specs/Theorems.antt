-- What the survey's definitions mean, in words of the mesh.
use Rattle.std.specs.Prelude.{◌≡◌, ℕ, ◌<◌, ◌≤◌, true, List, length, Some, None}
use Rattle.std.specs.List.{slice_get}
use Rattle.fault.specs.declared.fault.Fault.TheVariants.{BadCorners, RepeatedSide, OpenSide, NoSingleRing}
use Rattle.mesh.specs.Lists.{Mem, Apart}
use Rattle.mesh.specs.Triangles.{Tri, tri}
use Rattle.mesh.specs.Sides.{Side, side, back, sides}
use Rattle.mesh.specs.Rings.{Corner, Link, OneRing}
use Rattle.mesh.specs.Closed.{Closed}
use Rattle.survey.specs.Ringwalk.{ringed}
use Rattle.survey.specs.Survey.{survey_fault}

-- closed, and no larger than a mesh may be
pub record ClosedInLimits (V : ℕ) (ts : List Tri) : Type 0 where
  pub few_vertices : V ≤ 16384
  pub few_triangles : length ts ≤ 32768
  pub closed : Closed V ts

-- the survey finds no fault exactly if the lists are within the limits and closed
abbrev pub SurveyExact : Type 0
SurveyExact = (V : ℕ) (ts : List Tri) → (survey_fault V ts ≡ None → ClosedInLimits V ts) × (ClosedInLimits V ts → survey_fault V ts ≡ None)

-- three different corners below V
pub record Different (V a b c : ℕ) : Type 0 where
  pub a_below : a < V
  pub b_below : b < V
  pub c_below : c < V
  pub ab : a ≡ b → ⊥
  pub bc : b ≡ c → ⊥
  pub ca : c ≡ a → ⊥

abbrev pub Fits : ℕ → Tri → Type 0
Fits V (tri a b c) = Different V a b c

-- where all triangles fit and sides lie once and both ways, the walk round a vertex decides whether it has one ring
abbrev pub RingWalkExact : Type 0
RingWalkExact =
    (V : ℕ) (ts : List Tri)
    → ((i : ℕ) (t : Tri) → slice_get ts i ≡ Some t → Fits V t)
    → Apart (sides ts)
    → ((s : Side) → Mem s (sides ts) → Mem (back s) (sides ts))
    → (v : ℕ)
    → (ringed ts v ≡ true → OneRing (Link ts v)) × (OneRing (Link ts v) → ringed ts v ≡ true)

-- triangle i does not fit
pub record Unfit (V : ℕ) (ts : List Tri) (i : ℕ) : Type 0 where
  pub one : Tri
  pub is : slice_get ts i ≡ Some one
  pub unfit : Fits V one → ⊥

-- triangle i has a side u→v that a lower triangle has
pub record Repeats (ts : List Tri) (i : ℕ) : Type 0 where
  pub u : ℕ
  pub v : ℕ
  pub third : ℕ
  pub one : Tri
  pub is : slice_get ts i ≡ Some one
  pub corner : Corner one u v third
  pub low : ℕ
  pub lower : low < i
  pub other : Tri
  pub other_is : slice_get ts low ≡ Some other
  pub other_third : ℕ
  pub other_corner : Corner other u v other_third

-- triangle i has a side u→v, and no triangle has v→u
pub record Open (ts : List Tri) (i : ℕ) : Type 0 where
  pub u : ℕ
  pub v : ℕ
  pub third : ℕ
  pub one : Tri
  pub is : slice_get ts i ≡ Some one
  pub corner : Corner one u v third
  pub none : Mem (side v u) (sides ts) → ⊥

-- vertex v has no single ring
pub record Ringless (V : ℕ) (ts : List Tri) (v : ℕ) : Type 0 where
  pub below : v < V
  pub torn : OneRing (Link ts v) → ⊥

-- the lowest number of which P holds
pub record Lowest (P : ℕ → Type 0) (i : ℕ) : Type 0 where
  pub here : P i
  pub below : (j : ℕ) → j < i → P j → ⊥

-- each refusal's spot is the lowest that has the fault
abbrev pub SpotsMean : Type 0
SpotsMean =
    (V : ℕ) (ts : List Tri) (i : ℕ)
    → (survey_fault V ts ≡ Some (BadCorners i) → Lowest (Unfit V ts) i)
    × (survey_fault V ts ≡ Some (RepeatedSide i) → Lowest (Repeats ts) i)
    × (survey_fault V ts ≡ Some (OpenSide i) → Lowest (Open ts) i)
    × (survey_fault V ts ≡ Some (NoSingleRing i) → Lowest (Ringless V ts) i)
