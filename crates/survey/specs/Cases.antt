-- Worked cases, proved by computation.
use Rattle.std.specs.Prelude.{◌≡◌, List, [], ◌∷◌, Some, Ok}
use Rattle.std.specs.Option.{option_map}
use Rattle.fault.specs.Faults.{told, tells}
use Rattle.mesh.specs.Triangles.{Tri, tri}
use Rattle.mesh.specs.Closed.{Closed}
use Rattle.survey.specs.Survey.{survey_fault, surveyed, counted}

-- two triangles back to back
abbrev pub pair : List Tri
pair = tri 0 1 2 ∷ tri 0 2 1 ∷ []

-- the block with four vertices
abbrev pub block : List Tri
block = tri 0 1 2 ∷ tri 0 2 3 ∷ tri 0 3 1 ∷ tri 1 3 2 ∷ []

-- two blocks that share vertex 0
abbrev pub two_blocks : List Tri
two_blocks = tri 0 1 2 ∷ tri 0 2 3 ∷ tri 0 3 1 ∷ tri 1 3 2 ∷ tri 0 4 5 ∷ tri 0 5 6 ∷ tri 0 6 4 ∷ tri 4 6 5 ∷ []

pub record SurveyCases : Type 0 where
  pub pair_closed : Closed 3 pair
  pub pair_counted : surveyed 3 pair ≡ Ok (counted 3 3 2)
  pub block_closed : Closed 4 block
  pub block_counted : surveyed 4 block ≡ Ok (counted 4 6 4)
  pub blocks_refused : option_map told (survey_fault 7 two_blocks) ≡ Some (tells 19 3 0)
