-- What the comparison of a maker and a shop says.
use Rattle.std.specs.Prelude.{◌≡◌, ℕ, List, true}
use Rattle.place.specs.Kinds.{Kind}
use Rattle.place.specs.Grids.{grid_kind}
use Rattle.place.specs.Floats.{float_kind}
use Rattle.sheet.specs.Content.{sheet_mesh}
use Rattle.runs.specs.Statement.{SameBase, AlwaysKept}
use Rattle.job.specs.declared.comparing.Comparison.{Comparison}
use Rattle.job.specs.Levels.{level_of, level_balances}
use Rattle.statement.specs.Floats.{sheet_as_floats}
use Rattle.statement.specs.Sides.{offers, played}

-- The maker has taken a sheet of kind k and carried out records, on a store with room for va vertices and ta triangles; the shop has
-- taken another sheet, of kind l, and carried out other records, on one with room for vb and tb; each with a work table of this
-- length; and this is how they compare.
pub record Compared {P D Q C : Type 0} (k : Kind P D) (l : Kind Q C) (va ta vb tb table : ℕ) (sheet other : List ℕ) (records others : List (List ℕ)) (c : Comparison) : Type 0 where
  -- what holds of any two jobs from one base, wherever the two sheets' meshes are the same
  pub both : SameBase (sheet_mesh k sheet) (sheet_mesh l other)
      → AlwaysKept k l va ta vb tb (sheet_mesh k sheet) (sheet_mesh l other) (offers table records) (offers table others)
      (played k va ta table sheet records) (played l vb tb table other others)
  -- the levels that they have come to
  pub first : c.first ≡ level_of (played k va ta table sheet records).mesh (played k va ta table sheet records).numbers
  pub second : c.second ≡ level_of (played l vb tb table other others).mesh (played l vb tb table other others).numbers
  -- what is counted is what the tallies tell
  pub first_balances : level_balances c.first ≡ true
  pub second_balances : level_balances c.second ≡ true

-- The maker has taken a sheet of the grid and carried out records; the shop has taken the sheet with its places kept as floats, and
-- carried out records of its own. The two base meshes are the same, so all that holds of two jobs from one base holds of these.
pub record ComparedWithFloats (va ta vb tb table : ℕ) (sheet : List ℕ) (records : List (List ℕ)) (c : Comparison) : Type 0 where
  pub same_base : SameBase (sheet_mesh grid_kind sheet) (sheet_mesh float_kind (sheet_as_floats sheet))
  -- the records that the shop has carried out
  pub others : List (List ℕ)
  pub compared : Compared grid_kind float_kind va ta vb tb table sheet (sheet_as_floats sheet) records others c
