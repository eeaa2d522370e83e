-- Sheets worked out, proved by computation.
use Rattle.std.specs.Prelude.{◌≡◌, ℕ, List, [], ◌∷◌, replicate, Ok, Err}
use Rattle.fault.specs.declared.fault.Fault.TheVariants.{ShortBuffer, NoSingleRing}
use Rattle.fault.specs.Faults.{told, tells}
use Rattle.place.specs.declared.grid.Grid.{Grid}
use Rattle.place.specs.Grids.{grid, grid_kind}
use Rattle.mesh.specs.Meshes.{Mesh, mesh_of, vertex_of}
use Rattle.survey.specs.Survey.{counted}
use Rattle.survey.specs.Cases.{pair, block, two_blocks}
use Rattle.sheet.specs.Surveying.{sheet_surveyed}
use Rattle.sheet.specs.Writing.{sheet_bytes, sheet_written, sheet_after}

-- no vertex and no triangle
abbrev pub empty_mesh : Mesh Grid
empty_mesh = mesh_of [] []

-- two triangles back to back
abbrev pub pair_mesh : Mesh Grid
pair_mesh = mesh_of pair (vertex_of (grid 0 0 0) 0 ∷ vertex_of (grid 8 0 0) 1 ∷ vertex_of (grid 0 8 0) 2 ∷ [])

-- the block with four vertices
abbrev pub block_mesh : Mesh Grid
block_mesh = mesh_of block (vertex_of (grid 0 0 0) 0 ∷ vertex_of (grid 8 0 0) 1 ∷ vertex_of (grid 0 8 0) 2 ∷ vertex_of (grid 0 0 8) 3 ∷ [])

-- two blocks that share vertex 0
abbrev pub two_block_mesh : Mesh Grid
two_block_mesh = mesh_of two_blocks (vertex_of (grid 9 9 9) 0 ∷ vertex_of (grid 17 9 9) 1 ∷ vertex_of (grid 9 17 9) 2 ∷ vertex_of (grid 9 9 17) 3 ∷ vertex_of (grid 1 9 9) 4 ∷ vertex_of (grid 9 1 9) 5 ∷ vertex_of (grid 9 9 1) 6 ∷ [])

-- the block's sheet: the head, then a line for each place and each triangle
abbrev pub block_sheet : List ℕ
block_sheet =
    0 ∷ 0 ∷ 0 ∷ 82 ∷ 1 ∷ 1 ∷ 0 ∷ 0 ∷ 0 ∷ 4 ∷ 0 ∷ 0 ∷ 0 ∷ 4
    ∷ 0 ∷ 0 ∷ 0 ∷ 0 ∷ 0 ∷ 0
    ∷ 0 ∷ 8 ∷ 0 ∷ 0 ∷ 0 ∷ 0
    ∷ 0 ∷ 0 ∷ 0 ∷ 8 ∷ 0 ∷ 0
    ∷ 0 ∷ 0 ∷ 0 ∷ 0 ∷ 0 ∷ 8
    ∷ 0 ∷ 0 ∷ 0 ∷ 0 ∷ 0 ∷ 0 ∷ 0 ∷ 1 ∷ 0 ∷ 0 ∷ 0 ∷ 2
    ∷ 0 ∷ 0 ∷ 0 ∷ 0 ∷ 0 ∷ 0 ∷ 0 ∷ 2 ∷ 0 ∷ 0 ∷ 0 ∷ 3
    ∷ 0 ∷ 0 ∷ 0 ∷ 0 ∷ 0 ∷ 0 ∷ 0 ∷ 3 ∷ 0 ∷ 0 ∷ 0 ∷ 1
    ∷ 0 ∷ 0 ∷ 0 ∷ 1 ∷ 0 ∷ 0 ∷ 0 ∷ 3 ∷ 0 ∷ 0 ∷ 0 ∷ 2
    ∷ []

pub record WorkedSheets : Type 0 where
  pub empty_bytes : sheet_bytes grid_kind empty_mesh ≡ 0 ∷ 0 ∷ 0 ∷ 10 ∷ 1 ∷ 1 ∷ 0 ∷ 0 ∷ 0 ∷ 0 ∷ 0 ∷ 0 ∷ 0 ∷ 0 ∷ []
  -- the survey of what is written
  pub pair_surveyed : sheet_surveyed grid_kind (sheet_bytes grid_kind pair_mesh) ≡ Ok (counted 3 3 2)
  pub block_bytes : sheet_bytes grid_kind block_mesh ≡ block_sheet
  pub block_surveyed : sheet_surveyed grid_kind block_sheet ≡ Ok (counted 4 6 4)
  -- 86 bytes are enough, and 85 are not
  pub block_written : sheet_written grid_kind block_mesh (replicate 86 7) ≡ Ok 86
  pub block_after : sheet_after grid_kind block_mesh (replicate 86 7) ≡ block_sheet
  pub block_refused : sheet_written grid_kind block_mesh (replicate 85 7) ≡ Err (ShortBuffer 86)
  pub block_unchanged : sheet_after grid_kind block_mesh (replicate 85 7) ≡ replicate 85 7
  pub blocks_refused : sheet_surveyed grid_kind (sheet_bytes grid_kind two_block_mesh) ≡ Err (NoSingleRing 0)
  pub blocks_told : told (NoSingleRing 0) ≡ tells 19 3 0
