-- Calls on the block, worked out from the bytes.
use Rattle.std.specs.Prelude.{◌≡◌, ℕ, List, [], ◌∷◌, ◌++◌, drop, replicate, Some, Ok, Err, Option}
use Rattle.std.specs.Option.{option_map}
use Rattle.fault.specs.declared.fault.Fault.TheVariants.{SideTwice, ShortBuffer}
use Rattle.fault.specs.Faults.{Told, told, tells}
use Rattle.place.specs.declared.grid.Grid.{Grid}
use Rattle.place.specs.Grids.{grid, grid_kind}
use Rattle.place.specs.Floats.{float_kind}
use Rattle.mesh.specs.Triangles.{tri}
use Rattle.mesh.specs.Meshes.{Mesh, mesh_of, vertex_of}
use Rattle.sheet.specs.Content.{sheet_mesh}
use Rattle.survey.specs.Cases.{SurveyCases}
use Rattle.forest.specs.Cases.{block, grid_block, SplitCases}
use Rattle.runs.specs.Jobs.{Numbers, base_numbers}
use Rattle.runs.specs.Outcome.{split_fault, SplitTold, split_answer, split_mesh_after, numbers_after}
use Rattle.runs.specs.Calls.{state_of, Call, offer, ask, write_sheet, which_ancestor, split, number_if_any, written}
use Rattle.runs.specs.Runs.{begun, answers, edges_marked_over, trees_formed_over, Run}
use Rattle.runs.specs.Statement.{SameBase}

-- the head of a record: how many bytes follow its length, its version and kind, and how many codes it has
abbrev pub head : ℕ → ℕ → ℕ → ℕ → List ℕ
head long version kind codes = 0 ∷ 0 ∷ 0 ∷ long ∷ version ∷ kind ∷ 0 ∷ 0 ∷ 0 ∷ codes ∷ []

-- four displacements by nothing
abbrev pub still_bytes : List ℕ
still_bytes = replicate 24 0

-- a record of the grid with two codes for six edges, none of which moves: the byte of its marks, and the byte of its codes
abbrev pub still_record : ℕ → ℕ → List ℕ
still_record marks codes = head 32 1 1 2 ++ (marks ∷ codes ∷ still_bytes)

-- the edges 0–1 and 1–2 marked, the codes 2 and 0
abbrev pub plain_record : List ℕ
plain_record = still_record 0x90 0x80

-- the mesh that it makes
abbrev pub plain_mesh : Mesh Grid
plain_mesh =
    mesh_of (tri 0 1 2 ∷ tri 0 2 3 ∷ tri 0 3 4 ∷ tri 4 3 2 ∷ tri 0 4 1 ∷ tri 4 2 1 ∷ [])
    (vertex_of (grid 0 0 0) 0 ∷ vertex_of (grid 8 0 0) 1 ∷ vertex_of (grid 0 8 0) 2 ∷ vertex_of (grid 0 0 8) 3 ∷ vertex_of (grid 8 0 0) 1 ∷ [])

abbrev pub plain_told : SplitTold
plain_told = record { vertices = 5; edges = 9; triangles = 6; forest_edges = 2; trees = 1 }

abbrev pub plain_numbers : Numbers
plain_numbers = record { base_vertices = 4; base_triangles = 4; records = 1; forest_edges = 2; trees = 1 }

-- what a split call is refused by, for a job whose base is the block, with room for so many vertices and triangles and a work table of 176 numbers
abbrev pub refused_within : ℕ → ℕ → List ℕ → Option Told
refused_within vertex_room triangle_room bs = option_map told (split_fault grid_kind vertex_room triangle_room 176 grid_block (base_numbers grid_block) bs)

-- the same with room for 5 vertices and 6 triangles
abbrev pub refused_by : List ℕ → Option Told
refused_by bs = refused_within 5 6 bs

-- the block without its first triangle
abbrev pub open_block : Mesh Grid
open_block = mesh_of (drop 1 block) grid_block.vertices

-- an accepted split, and each refusal of the split call but that of a loop too short, which never comes
pub record OutcomeCases : Type 0 where
  pub accepted : split_answer grid_kind 5 6 176 grid_block (base_numbers grid_block) plain_record ≡ Ok plain_told
  pub made : split_mesh_after grid_kind 5 6 176 grid_block (base_numbers grid_block) plain_record ≡ plain_mesh
  pub counted : numbers_after grid_kind 5 6 176 grid_block (base_numbers grid_block) plain_record ≡ plain_numbers
  -- a work table with one number less
  pub short_table : option_map told (split_fault grid_kind 5 6 175 grid_block (base_numbers grid_block) plain_record) ≡ Some (tells 1 1 0)
  -- a store that is not closed, or not the job's, with an empty record
  pub open_store : option_map told (split_fault grid_kind 5 6 176 open_block (base_numbers grid_block) []) ≡ Some (tells 3 1 0)
  pub other_store : option_map told (split_fault grid_kind 5 6 176 grid_block plain_numbers []) ≡ Some (tells 4 1 0)
  -- the head
  pub nothing : refused_by [] ≡ Some (tells 20 2 0)
  pub other_version : refused_by (head 32 2 1 2 ++ drop 10 plain_record) ≡ Some (tells 21 2 4)
  pub other_kind : refused_by (head 32 1 2 2 ++ drop 10 plain_record) ≡ Some (tells 22 2 5)
  pub no_marks : refused_by (head 6 1 1 2) ≡ Some (tells 23 2 0)
  pub spare_mark : refused_by (still_record 0x91 0x80) ≡ Some (tells 24 2 10)
  -- no edge marked, three of one triangle, one alone
  pub none_marked : refused_by (still_record 0x00 0x80) ≡ Some (tells 25 3 0)
  pub closing : refused_by (still_record 0xd0 0x80) ≡ Some (tells 26 3 3)
  pub single : refused_by (still_record 0x80 0x80) ≡ Some (tells 27 3 0)
  -- one code more, told before the size is looked at; a byte less
  pub code_more : refused_by (head 7 1 1 3 ++ (0x90 ∷ [])) ≡ Some (tells 28 2 6)
  pub byte_less : refused_by (head 31 1 1 2 ++ (0x90 ∷ 0x80 ∷ replicate 23 0)) ≡ Some (tells 29 2 0)
  -- room for four vertices, and for five triangles, told before a spare code bit
  pub few_vertices : refused_within 4 6 (still_record 0x90 0x81) ≡ Some (tells 5 1 0)
  pub few_triangles : refused_within 5 5 (still_record 0x90 0x81) ≡ Some (tells 6 1 0)
  pub spare_code : refused_by (still_record 0x90 0x81) ≡ Some (tells 30 2 11)
  -- the codes 0 and 0, and the codes 1 and 0
  pub off_tree : refused_by (still_record 0x90 0x00) ≡ Some (tells 31 4 0)
  pub side_twice : refused_by (still_record 0x90 0x40) ≡ Some (tells 33 4 4)
  -- the edges 0–1 and 0–2 marked, a mirrored tree
  pub mirrored : (split_mesh_after grid_kind 5 6 176 grid_block (base_numbers grid_block) (still_record 0xc0 0x80)).triangles ≡ tri 0 1 2 ∷ tri 4 2 3 ∷ tri 4 3 1 ∷ tri 1 3 2 ∷ tri 1 0 4 ∷ tri 4 0 2 ∷ []
  -- of two faults the earlier check tells: the table before the store, the store's mesh before its counts, a spare bit before no mark, the size before the room, vertices before triangles, a side twice before a place
  pub table_first : option_map told (split_fault grid_kind 5 6 175 open_block (base_numbers grid_block) []) ≡ Some (tells 1 1 0)
  pub open_first : option_map told (split_fault grid_kind 5 6 176 open_block plain_numbers []) ≡ Some (tells 3 1 0)
  pub spare_first : refused_by (still_record 0x01 0x80) ≡ Some (tells 24 2 10)
  pub size_first : refused_within 4 5 (head 31 1 1 2 ++ (0x90 ∷ 0x80 ∷ replicate 23 0)) ≡ Some (tells 29 2 0)
  pub vertices_first : refused_within 4 5 plain_record ≡ Some (tells 5 1 0)
  pub side_first : refused_by (head 32 1 1 2 ++ (0x90 ∷ 0x40 ∷ (replicate 22 0 ++ (255 ∷ 255 ∷ [])))) ≡ Some (tells 33 4 4)
  -- the last displacement by (0, 0, −1)
  pub below_zero : refused_by (head 32 1 1 2 ++ (0x90 ∷ 0x80 ∷ (replicate 22 0 ++ (255 ∷ 255 ∷ [])))) ≡ Some (tells 34 5 4)

-- a number below 256 in four bytes
abbrev pub four : ℕ → List ℕ
four n = 0 ∷ 0 ∷ 0 ∷ n ∷ []

-- the block's triangles in a sheet
abbrev pub block_corners : List ℕ
block_corners =
    four 0 ++ (four 1 ++ (four 2 ++ (four 0 ++ (four 2 ++ (four 3 ++ (four 0 ++ (four 3 ++ (four 1 ++ (four 1 ++ (four 3 ++ four 2))))))))))

-- the sheet of the block on the grid
abbrev pub block_sheet : List ℕ
block_sheet =
    four 82 ++ (1 ∷ 1 ∷ (four 4 ++ (four 4 ++ (replicate 6 0 ++ (0 ∷ 8 ∷ 0 ∷ 0 ∷ 0 ∷ 0 ∷ 0 ∷ 0 ∷ 0 ∷ 8 ∷ 0 ∷ 0 ∷ 0 ∷ 0 ∷ 0 ∷ 0 ∷ 0 ∷ 8 ∷ block_corners)))))

-- a refused split, an accepted one, a question, and a sheet for which the buffer is one byte too short
abbrev pub four_calls : List Call
four_calls = offer (still_record 0x90 0x40) 176 ∷ offer plain_record 176 ∷ ask (which_ancestor 4) ∷ write_sheet 115 ∷ []

-- the sheet of the block with floats for its places, all of them 0
abbrev pub float_sheet : List ℕ
float_sheet = four 106 ++ (1 ∷ 2 ∷ (four 4 ++ (four 4 ++ (replicate 48 0 ++ block_corners))))

pub record RunCases : Type 0 where
  pub run : Run grid_kind 5 6 block_sheet four_calls (state_of plain_mesh plain_numbers)
  pub told : answers grid_kind 5 6 (begun grid_block) four_calls
      ≡ split (Err (SideTwice 4)) ∷ split (Ok plain_told) ∷ number_if_any (Some 1) ∷ written (Err (ShortBuffer 116)) ∷ []
  pub edges_marked : edges_marked_over grid_kind 5 6 (begun grid_block) four_calls ≡ 2
  pub trees_formed : trees_formed_over grid_kind 5 6 (begun grid_block) four_calls ≡ 1
  -- the other kind takes the same base mesh, on a store that it fills
  pub other_run : Run float_kind 4 4 float_sheet [] (begun (sheet_mesh float_kind float_sheet))
  pub same_base : SameBase (sheet_mesh grid_kind block_sheet) (sheet_mesh float_kind float_sheet)

-- The worked cases in one list: closed meshes and the survey of others, the steps of a split, and the outcomes of split calls.
pub record WorkedCases : Type 0 where
  pub surveys : SurveyCases
  pub splits : SplitCases
  pub outcomes : OutcomeCases
