-- Splits of small meshes, as an independent decoder gives them. Written by tools/definition_cases.py.
use Rattle.std.specs.Prelude.{◌≡◌, ℕ, List, [], ◌∷◌, map, Some, Option}
use Rattle.std.specs.List.{range_with_len}
use Rattle.std.specs.Option.{option_map}
use Rattle.fault.specs.Faults.{Told, told, tells}
use Rattle.place.specs.declared.grid.Grid.{Grid}
use Rattle.place.specs.Grids.{grid, grid_kind}
use Rattle.mesh.specs.Triangles.{Tri, tri}
use Rattle.mesh.specs.Meshes.{Mesh, mesh_of, vertex_of, parents}
use Rattle.runs.specs.Jobs.{base_numbers}
use Rattle.runs.specs.Outcome.{split_fault, split_mesh_after}

-- a mesh of the grid whose vertices all lie in its origin
abbrev pub flat : ℕ → List Tri → Mesh Grid
flat V ts = mesh_of ts (map (λ v. vertex_of (grid 0 0 0) v) (range_with_len 0 V))

-- a mesh by its triangles and its parents
pub record Split : Type 0 where
  pub triangles : List Tri
  pub parents : List ℕ

abbrev pub split_of : List Tri → List ℕ → Split
split_of ts ps = record { triangles = ts; parents = ps }

-- what a split call makes of the mesh of a new job, with room for 64 vertices and 128 triangles
abbrev pub made_of : Mesh Grid → List ℕ → Split
made_of m bs = let after = split_mesh_after grid_kind 64 128 3072 m (base_numbers m) bs in split_of after.triangles (parents after)

abbrev pub told_of : Mesh Grid → List ℕ → Option Told
told_of m bs = option_map told (split_fault grid_kind 64 128 3072 m (base_numbers m) bs)

pub record DecodedCases : Type 0 where
  pub case_0 : told_of (flat 4 (tri 1 2 0 ∷ tri 3 0 2 ∷ tri 1 0 3 ∷ tri 1 3 2 ∷ [])) (0 ∷ 0 ∷ 0 ∷ 31 ∷ 1 ∷ 1 ∷ 0 ∷ 0 ∷ 0 ∷ 0 ∷ 132 ∷ 0 ∷ 0 ∷ 0 ∷ 0 ∷ 0 ∷ 0 ∷ 0 ∷ 0 ∷ 0 ∷ 0 ∷ 0 ∷ 0 ∷ 0 ∷ 0 ∷ 0 ∷ 0 ∷ 0 ∷ 0 ∷ 0 ∷ 0 ∷ 0 ∷ 0 ∷ 0 ∷ 0 ∷ []) ≡ Some (tells 27 3 0)
  pub case_1 : made_of (flat 6 (tri 4 1 0 ∷ tri 2 5 3 ∷ tri 3 5 4 ∷ tri 1 5 2 ∷ tri 2 0 1 ∷ tri 0 2 3 ∷ tri 4 0 3 ∷ tri 5 1 4 ∷ [])) (0 ∷ 0 ∷ 0 ∷ 70 ∷ 1 ∷ 1 ∷ 0 ∷ 0 ∷ 0 ∷ 8 ∷ 19 ∷ 192 ∷ 86 ∷ 148 ∷ 0 ∷ 0 ∷ 0 ∷ 0 ∷ 0 ∷ 0 ∷ 0 ∷ 0 ∷ 0 ∷ 0 ∷ 0 ∷ 0 ∷ 0 ∷ 0 ∷ 0 ∷ 0 ∷ 0 ∷ 0 ∷ 0 ∷ 0 ∷ 0 ∷ 0 ∷ 0 ∷ 0 ∷ 0 ∷ 0 ∷ 0 ∷ 0 ∷ 0 ∷ 0 ∷ 0 ∷ 0 ∷ 0 ∷ 0 ∷ 0 ∷ 0 ∷ 0 ∷ 0 ∷ 0 ∷ 0 ∷ 0 ∷ 0 ∷ 0 ∷ 0 ∷ 0 ∷ 0 ∷ 0 ∷ 0 ∷ 0 ∷ 0 ∷ 0 ∷ 0 ∷ 0 ∷ 0 ∷ 0 ∷ 0 ∷ 0 ∷ 0 ∷ 0 ∷ 0 ∷ []) ≡ split_of (tri 4 1 0 ∷ tri 2 5 3 ∷ tri 3 5 4 ∷ tri 1 6 7 ∷ tri 7 0 1 ∷ tri 0 7 8 ∷ tri 9 0 8 ∷ tri 5 1 4 ∷ tri 0 3 4 ∷ tri 0 2 3 ∷ tri 0 5 2 ∷ tri 0 9 5 ∷ tri 9 8 5 ∷ tri 8 1 5 ∷ tri 8 6 1 ∷ tri 8 7 6 ∷ []) (0 ∷ 1 ∷ 2 ∷ 3 ∷ 4 ∷ 5 ∷ 5 ∷ 2 ∷ 3 ∷ 4 ∷ [])
  pub case_2 : made_of (flat 8 (tri 3 1 0 ∷ tri 4 7 5 ∷ tri 0 1 2 ∷ tri 5 6 4 ∷ tri 6 5 7 ∷ tri 2 3 0 ∷ tri 4 6 7 ∷ tri 1 3 2 ∷ [])) (0 ∷ 0 ∷ 0 ∷ 70 ∷ 1 ∷ 1 ∷ 0 ∷ 0 ∷ 0 ∷ 6 ∷ 90 ∷ 32 ∷ 152 ∷ 128 ∷ 0 ∷ 0 ∷ 0 ∷ 0 ∷ 0 ∷ 0 ∷ 0 ∷ 0 ∷ 0 ∷ 0 ∷ 0 ∷ 0 ∷ 0 ∷ 0 ∷ 0 ∷ 0 ∷ 0 ∷ 0 ∷ 0 ∷ 0 ∷ 0 ∷ 0 ∷ 0 ∷ 0 ∷ 0 ∷ 0 ∷ 0 ∷ 0 ∷ 0 ∷ 0 ∷ 0 ∷ 0 ∷ 0 ∷ 0 ∷ 0 ∷ 0 ∷ 0 ∷ 0 ∷ 0 ∷ 0 ∷ 0 ∷ 0 ∷ 0 ∷ 0 ∷ 0 ∷ 0 ∷ 0 ∷ 0 ∷ 0 ∷ 0 ∷ 0 ∷ 0 ∷ 0 ∷ 0 ∷ 0 ∷ 0 ∷ 0 ∷ 0 ∷ 0 ∷ 0 ∷ []) ≡ split_of (tri 3 1 0 ∷ tri 4 7 5 ∷ tri 0 1 2 ∷ tri 10 6 4 ∷ tri 6 10 7 ∷ tri 9 3 0 ∷ tri 4 6 7 ∷ tri 8 3 9 ∷ tri 0 2 9 ∷ tri 9 2 1 ∷ tri 9 1 8 ∷ tri 8 1 3 ∷ tri 4 5 10 ∷ tri 10 5 7 ∷ []) (0 ∷ 1 ∷ 2 ∷ 3 ∷ 4 ∷ 5 ∷ 6 ∷ 7 ∷ 1 ∷ 2 ∷ 5 ∷ [])
  pub case_3 : made_of (flat 9 (tri 3 6 7 ∷ tri 7 2 8 ∷ tri 5 2 1 ∷ tri 0 4 1 ∷ tri 8 2 0 ∷ tri 3 7 4 ∷ tri 8 4 7 ∷ tri 5 6 3 ∷ tri 3 0 2 ∷ tri 6 0 1 ∷ tri 6 8 0 ∷ tri 5 4 8 ∷ tri 3 2 5 ∷ tri 4 0 3 ∷ tri 1 7 6 ∷ tri 1 4 5 ∷ tri 6 5 8 ∷ tri 7 1 2 ∷ [])) (0 ∷ 0 ∷ 0 ∷ 47 ∷ 1 ∷ 1 ∷ 0 ∷ 0 ∷ 0 ∷ 4 ∷ 24 ∷ 64 ∷ 0 ∷ 0 ∷ 164 ∷ 0 ∷ 0 ∷ 0 ∷ 0 ∷ 0 ∷ 0 ∷ 0 ∷ 0 ∷ 0 ∷ 0 ∷ 0 ∷ 0 ∷ 0 ∷ 0 ∷ 0 ∷ 0 ∷ 0 ∷ 0 ∷ 0 ∷ 0 ∷ 0 ∷ 0 ∷ 0 ∷ 0 ∷ 0 ∷ 0 ∷ 0 ∷ 0 ∷ 0 ∷ 0 ∷ 0 ∷ 0 ∷ 0 ∷ 0 ∷ 0 ∷ 0 ∷ []) ≡ split_of (tri 3 10 7 ∷ tri 7 2 8 ∷ tri 5 2 1 ∷ tri 0 4 1 ∷ tri 8 2 9 ∷ tri 3 7 4 ∷ tri 8 4 7 ∷ tri 5 10 3 ∷ tri 3 9 2 ∷ tri 6 0 1 ∷ tri 10 8 9 ∷ tri 5 4 8 ∷ tri 3 2 5 ∷ tri 4 9 3 ∷ tri 1 7 10 ∷ tri 1 4 5 ∷ tri 10 5 8 ∷ tri 7 1 2 ∷ tri 1 10 6 ∷ tri 10 9 6 ∷ tri 9 0 6 ∷ tri 9 4 0 ∷ []) (0 ∷ 1 ∷ 2 ∷ 3 ∷ 4 ∷ 5 ∷ 6 ∷ 7 ∷ 8 ∷ 0 ∷ 6 ∷ [])
  pub case_4 : made_of (flat 10 (tri 3 5 4 ∷ tri 1 5 8 ∷ tri 1 7 0 ∷ tri 5 3 2 ∷ tri 0 8 9 ∷ tri 5 0 9 ∷ tri 4 1 0 ∷ tri 6 7 1 ∷ tri 6 8 7 ∷ tri 5 1 4 ∷ tri 0 7 8 ∷ tri 6 1 8 ∷ tri 5 2 0 ∷ tri 3 0 2 ∷ tri 3 4 0 ∷ tri 8 5 9 ∷ [])) (0 ∷ 0 ∷ 0 ∷ 84 ∷ 1 ∷ 1 ∷ 0 ∷ 0 ∷ 0 ∷ 10 ∷ 16 ∷ 0 ∷ 211 ∷ 235 ∷ 98 ∷ 0 ∷ 0 ∷ 0 ∷ 0 ∷ 0 ∷ 0 ∷ 0 ∷ 0 ∷ 0 ∷ 0 ∷ 0 ∷ 0 ∷ 0 ∷ 0 ∷ 0 ∷ 0 ∷ 0 ∷ 0 ∷ 0 ∷ 0 ∷ 0 ∷ 0 ∷ 0 ∷ 0 ∷ 0 ∷ 0 ∷ 0 ∷ 0 ∷ 0 ∷ 0 ∷ 0 ∷ 0 ∷ 0 ∷ 0 ∷ 0 ∷ 0 ∷ 0 ∷ 0 ∷ 0 ∷ 0 ∷ 0 ∷ 0 ∷ 0 ∷ 0 ∷ 0 ∷ 0 ∷ 0 ∷ 0 ∷ 0 ∷ 0 ∷ 0 ∷ 0 ∷ 0 ∷ 0 ∷ 0 ∷ 0 ∷ 0 ∷ 0 ∷ 0 ∷ 0 ∷ 0 ∷ 0 ∷ 0 ∷ 0 ∷ 0 ∷ 0 ∷ 0 ∷ 0 ∷ 0 ∷ 0 ∷ 0 ∷ 0 ∷ 0 ∷ []) ≡ split_of (tri 3 13 14 ∷ tri 1 5 8 ∷ tri 1 7 0 ∷ tri 12 3 2 ∷ tri 0 10 11 ∷ tri 12 0 11 ∷ tri 4 1 0 ∷ tri 6 7 1 ∷ tri 6 8 7 ∷ tri 5 1 4 ∷ tri 0 7 10 ∷ tri 6 1 8 ∷ tri 12 2 0 ∷ tri 3 0 2 ∷ tri 3 14 0 ∷ tri 8 5 9 ∷ tri 0 9 4 ∷ tri 0 14 9 ∷ tri 14 13 9 ∷ tri 13 10 9 ∷ tri 13 11 10 ∷ tri 13 3 11 ∷ tri 3 12 11 ∷ tri 10 7 9 ∷ tri 7 8 9 ∷ tri 9 5 4 ∷ []) (0 ∷ 1 ∷ 2 ∷ 3 ∷ 4 ∷ 5 ∷ 6 ∷ 7 ∷ 8 ∷ 9 ∷ 8 ∷ 9 ∷ 5 ∷ 5 ∷ 4 ∷ [])
  pub case_5 : made_of (flat 11 (tri 1 8 9 ∷ tri 9 3 0 ∷ tri 2 0 1 ∷ tri 10 5 7 ∷ tri 8 3 9 ∷ tri 7 6 10 ∷ tri 2 1 9 ∷ tri 5 10 4 ∷ tri 1 0 3 ∷ tri 1 3 8 ∷ tri 4 7 5 ∷ tri 2 9 0 ∷ tri 6 7 4 ∷ tri 10 6 4 ∷ [])) (0 ∷ 0 ∷ 0 ∷ 34 ∷ 1 ∷ 1 ∷ 0 ∷ 0 ∷ 0 ∷ 2 ∷ 17 ∷ 0 ∷ 0 ∷ 128 ∷ 0 ∷ 0 ∷ 0 ∷ 0 ∷ 0 ∷ 0 ∷ 0 ∷ 0 ∷ 0 ∷ 0 ∷ 0 ∷ 0 ∷ 0 ∷ 0 ∷ 0 ∷ 0 ∷ 0 ∷ 0 ∷ 0 ∷ 0 ∷ 0 ∷ 0 ∷ 0 ∷ 0 ∷ []) ≡ split_of (tri 1 8 9 ∷ tri 9 3 0 ∷ tri 2 0 1 ∷ tri 10 5 7 ∷ tri 8 3 9 ∷ tri 7 6 10 ∷ tri 2 1 11 ∷ tri 5 10 4 ∷ tri 1 0 3 ∷ tri 1 3 8 ∷ tri 4 7 5 ∷ tri 2 11 0 ∷ tri 6 7 4 ∷ tri 10 6 4 ∷ tri 0 11 9 ∷ tri 11 1 9 ∷ []) (0 ∷ 1 ∷ 2 ∷ 3 ∷ 4 ∷ 5 ∷ 6 ∷ 7 ∷ 8 ∷ 9 ∷ 10 ∷ 9 ∷ [])
  pub case_6 : told_of (flat 11 (tri 0 6 9 ∷ tri 10 6 1 ∷ tri 4 8 5 ∷ tri 3 7 4 ∷ tri 2 3 9 ∷ tri 2 9 8 ∷ tri 1 2 7 ∷ tri 9 10 8 ∷ tri 3 5 10 ∷ tri 7 2 8 ∷ tri 9 3 4 ∷ tri 8 4 7 ∷ tri 0 9 4 ∷ tri 3 2 5 ∷ tri 3 10 7 ∷ tri 1 6 0 ∷ tri 2 1 5 ∷ tri 10 1 7 ∷ tri 4 5 1 ∷ tri 1 0 4 ∷ tri 10 5 8 ∷ tri 6 10 9 ∷ [])) (0 ∷ 0 ∷ 0 ∷ 83 ∷ 1 ∷ 1 ∷ 0 ∷ 0 ∷ 0 ∷ 0 ∷ 32 ∷ 20 ∷ 12 ∷ 64 ∷ 0 ∷ 0 ∷ 0 ∷ 0 ∷ 0 ∷ 0 ∷ 0 ∷ 0 ∷ 0 ∷ 0 ∷ 0 ∷ 0 ∷ 0 ∷ 0 ∷ 0 ∷ 0 ∷ 0 ∷ 0 ∷ 0 ∷ 0 ∷ 0 ∷ 0 ∷ 0 ∷ 0 ∷ 0 ∷ 0 ∷ 0 ∷ 0 ∷ 0 ∷ 0 ∷ 0 ∷ 0 ∷ 0 ∷ 0 ∷ 0 ∷ 0 ∷ 0 ∷ 0 ∷ 0 ∷ 0 ∷ 0 ∷ 0 ∷ 0 ∷ 0 ∷ 0 ∷ 0 ∷ 0 ∷ 0 ∷ 0 ∷ 0 ∷ 0 ∷ 0 ∷ 0 ∷ 0 ∷ 0 ∷ 0 ∷ 0 ∷ 0 ∷ 0 ∷ 0 ∷ 0 ∷ 0 ∷ 0 ∷ 0 ∷ 0 ∷ 0 ∷ 0 ∷ 0 ∷ 0 ∷ 0 ∷ 0 ∷ 0 ∷ 0 ∷ []) ≡ Some (tells 27 3 0)
  pub case_7 : made_of (flat 15 (tri 1 5 8 ∷ tri 3 0 2 ∷ tri 12 0 11 ∷ tri 7 1 6 ∷ tri 5 4 9 ∷ tri 5 1 4 ∷ tri 8 7 6 ∷ tri 13 14 3 ∷ tri 0 4 1 ∷ tri 0 9 4 ∷ tri 9 7 8 ∷ tri 13 10 9 ∷ tri 6 1 8 ∷ tri 11 13 3 ∷ tri 12 11 3 ∷ tri 14 9 0 ∷ tri 13 9 14 ∷ tri 10 11 0 ∷ tri 2 12 3 ∷ tri 1 7 0 ∷ tri 0 12 2 ∷ tri 14 0 3 ∷ tri 10 0 7 ∷ tri 10 13 11 ∷ tri 7 9 10 ∷ tri 8 5 9 ∷ [])) (0 ∷ 0 ∷ 0 ∷ 60 ∷ 1 ∷ 1 ∷ 0 ∷ 0 ∷ 0 ∷ 4 ∷ 0 ∷ 16 ∷ 68 ∷ 0 ∷ 32 ∷ 132 ∷ 0 ∷ 0 ∷ 0 ∷ 0 ∷ 0 ∷ 0 ∷ 0 ∷ 0 ∷ 0 ∷ 0 ∷ 0 ∷ 0 ∷ 0 ∷ 0 ∷ 0 ∷ 0 ∷ 0 ∷ 0 ∷ 0 ∷ 0 ∷ 0 ∷ 0 ∷ 0 ∷ 0 ∷ 0 ∷ 0 ∷ 0 ∷ 0 ∷ 0 ∷ 0 ∷ 0 ∷ 0 ∷ 0 ∷ 0 ∷ 0 ∷ 0 ∷ 0 ∷ 0 ∷ 0 ∷ 0 ∷ 0 ∷ 0 ∷ 0 ∷ 0 ∷ 0 ∷ 0 ∷ 0 ∷ 0 ∷ []) ≡ split_of (tri 1 5 8 ∷ tri 3 0 2 ∷ tri 12 0 16 ∷ tri 7 1 6 ∷ tri 5 4 9 ∷ tri 15 1 4 ∷ tri 8 7 6 ∷ tri 13 14 3 ∷ tri 0 4 1 ∷ tri 0 9 4 ∷ tri 9 7 8 ∷ tri 13 10 9 ∷ tri 6 1 8 ∷ tri 11 13 3 ∷ tri 12 16 3 ∷ tri 14 9 0 ∷ tri 13 9 14 ∷ tri 10 16 0 ∷ tri 2 12 3 ∷ tri 1 7 0 ∷ tri 0 12 2 ∷ tri 14 0 3 ∷ tri 10 0 7 ∷ tri 10 13 11 ∷ tri 7 9 10 ∷ tri 8 5 9 ∷ tri 1 15 5 ∷ tri 15 4 5 ∷ tri 3 10 11 ∷ tri 3 16 10 ∷ []) (0 ∷ 1 ∷ 2 ∷ 3 ∷ 4 ∷ 5 ∷ 6 ∷ 7 ∷ 8 ∷ 9 ∷ 10 ∷ 11 ∷ 12 ∷ 13 ∷ 14 ∷ 5 ∷ 11 ∷ [])
  pub case_8 : made_of (flat 12 (tri 10 5 7 ∷ tri 6 7 4 ∷ tri 1 3 8 ∷ tri 9 8 3 ∷ tri 5 4 7 ∷ tri 8 9 1 ∷ tri 0 9 3 ∷ tri 7 6 10 ∷ tri 9 0 11 ∷ tri 6 4 10 ∷ tri 1 2 0 ∷ tri 11 2 1 ∷ tri 5 10 4 ∷ tri 2 11 0 ∷ tri 9 11 1 ∷ tri 3 1 0 ∷ [])) (0 ∷ 0 ∷ 0 ∷ 46 ∷ 1 ∷ 1 ∷ 0 ∷ 0 ∷ 0 ∷ 4 ∷ 130 ∷ 64 ∷ 0 ∷ 176 ∷ 0 ∷ 0 ∷ 0 ∷ 0 ∷ 0 ∷ 0 ∷ 0 ∷ 0 ∷ 0 ∷ 0 ∷ 0 ∷ 0 ∷ 0 ∷ 0 ∷ 0 ∷ 0 ∷ 0 ∷ 0 ∷ 0 ∷ 0 ∷ 0 ∷ 0 ∷ 0 ∷ 0 ∷ 0 ∷ 0 ∷ 0 ∷ 0 ∷ 0 ∷ 0 ∷ 0 ∷ 0 ∷ 0 ∷ 0 ∷ 0 ∷ 0 ∷ []) ≡ split_of (tri 10 5 7 ∷ tri 6 7 4 ∷ tri 12 3 8 ∷ tri 9 8 3 ∷ tri 5 4 7 ∷ tri 8 9 12 ∷ tri 0 9 3 ∷ tri 7 6 10 ∷ tri 9 0 11 ∷ tri 6 4 10 ∷ tri 1 2 0 ∷ tri 11 2 1 ∷ tri 5 10 4 ∷ tri 2 11 0 ∷ tri 9 11 12 ∷ tri 3 13 0 ∷ tri 0 13 1 ∷ tri 13 12 1 ∷ tri 13 3 12 ∷ tri 12 11 1 ∷ []) (0 ∷ 1 ∷ 2 ∷ 3 ∷ 4 ∷ 5 ∷ 6 ∷ 7 ∷ 8 ∷ 9 ∷ 10 ∷ 11 ∷ 1 ∷ 1 ∷ [])
  pub case_9 : made_of (flat 4 (tri 1 0 3 ∷ tri 2 1 3 ∷ tri 0 1 2 ∷ tri 2 3 0 ∷ [])) (0 ∷ 0 ∷ 0 ∷ 44 ∷ 1 ∷ 1 ∷ 0 ∷ 0 ∷ 0 ∷ 4 ∷ 200 ∷ 196 ∷ 0 ∷ 0 ∷ 0 ∷ 0 ∷ 0 ∷ 0 ∷ 0 ∷ 0 ∷ 0 ∷ 0 ∷ 0 ∷ 0 ∷ 0 ∷ 0 ∷ 0 ∷ 0 ∷ 0 ∷ 0 ∷ 0 ∷ 0 ∷ 0 ∷ 0 ∷ 0 ∷ 0 ∷ 0 ∷ 0 ∷ 0 ∷ 0 ∷ 0 ∷ 0 ∷ 0 ∷ 0 ∷ 0 ∷ 0 ∷ 0 ∷ 0 ∷ []) ≡ split_of (tri 4 5 3 ∷ tri 2 1 3 ∷ tri 0 1 2 ∷ tri 2 3 5 ∷ tri 2 4 0 ∷ tri 2 5 4 ∷ tri 4 1 0 ∷ tri 4 3 1 ∷ []) (0 ∷ 1 ∷ 2 ∷ 3 ∷ 1 ∷ 0 ∷ [])
  pub case_10 : made_of (flat 6 (tri 4 1 0 ∷ tri 3 2 5 ∷ tri 5 2 1 ∷ tri 4 0 3 ∷ tri 1 4 5 ∷ tri 0 1 2 ∷ tri 4 3 5 ∷ tri 0 2 3 ∷ [])) (0 ∷ 0 ∷ 0 ∷ 58 ∷ 1 ∷ 1 ∷ 0 ∷ 0 ∷ 0 ∷ 6 ∷ 36 ∷ 96 ∷ 157 ∷ 0 ∷ 0 ∷ 0 ∷ 0 ∷ 0 ∷ 0 ∷ 0 ∷ 0 ∷ 0 ∷ 0 ∷ 0 ∷ 0 ∷ 0 ∷ 0 ∷ 0 ∷ 0 ∷ 0 ∷ 0 ∷ 0 ∷ 0 ∷ 0 ∷ 0 ∷ 0 ∷ 0 ∷ 0 ∷ 0 ∷ 0 ∷ 0 ∷ 0 ∷ 0 ∷ 0 ∷ 0 ∷ 0 ∷ 0 ∷ 0 ∷ 0 ∷ 0 ∷ 0 ∷ 0 ∷ 0 ∷ 0 ∷ 0 ∷ 0 ∷ 0 ∷ 0 ∷ 0 ∷ 0 ∷ 0 ∷ 0 ∷ []) ≡ split_of (tri 4 1 0 ∷ tri 8 2 5 ∷ tri 5 2 1 ∷ tri 4 0 3 ∷ tri 1 6 5 ∷ tri 0 1 2 ∷ tri 6 7 5 ∷ tri 0 2 8 ∷ tri 0 8 3 ∷ tri 8 4 3 ∷ tri 8 6 4 ∷ tri 8 7 6 ∷ tri 8 5 7 ∷ tri 6 1 4 ∷ []) (0 ∷ 1 ∷ 2 ∷ 3 ∷ 4 ∷ 5 ∷ 4 ∷ 3 ∷ 3 ∷ [])
  pub case_11 : made_of (flat 8 (tri 1 3 2 ∷ tri 5 4 7 ∷ tri 5 6 4 ∷ tri 6 7 4 ∷ tri 3 1 0 ∷ tri 6 5 7 ∷ tri 3 0 2 ∷ tri 0 1 2 ∷ [])) (0 ∷ 0 ∷ 0 ∷ 33 ∷ 1 ∷ 1 ∷ 0 ∷ 0 ∷ 0 ∷ 2 ∷ 36 ∷ 0 ∷ 128 ∷ 0 ∷ 0 ∷ 0 ∷ 0 ∷ 0 ∷ 0 ∷ 0 ∷ 0 ∷ 0 ∷ 0 ∷ 0 ∷ 0 ∷ 0 ∷ 0 ∷ 0 ∷ 0 ∷ 0 ∷ 0 ∷ 0 ∷ 0 ∷ 0 ∷ 0 ∷ 0 ∷ 0 ∷ []) ≡ split_of (tri 1 3 2 ∷ tri 5 4 7 ∷ tri 5 6 4 ∷ tri 6 7 4 ∷ tri 3 1 0 ∷ tri 6 5 7 ∷ tri 8 0 2 ∷ tri 0 1 2 ∷ tri 0 8 3 ∷ tri 8 2 3 ∷ []) (0 ∷ 1 ∷ 2 ∷ 3 ∷ 4 ∷ 5 ∷ 6 ∷ 7 ∷ 3 ∷ [])
  pub case_12 : told_of (flat 9 (tri 4 7 8 ∷ tri 3 5 6 ∷ tri 8 7 2 ∷ tri 7 4 3 ∷ tri 8 5 4 ∷ tri 7 1 2 ∷ tri 3 6 7 ∷ tri 2 1 5 ∷ tri 5 8 6 ∷ tri 4 0 3 ∷ tri 7 6 1 ∷ tri 4 1 0 ∷ tri 0 8 2 ∷ tri 2 3 0 ∷ tri 1 6 0 ∷ tri 3 2 5 ∷ tri 4 5 1 ∷ tri 0 6 8 ∷ [])) (0 ∷ 0 ∷ 0 ∷ 34 ∷ 1 ∷ 1 ∷ 0 ∷ 0 ∷ 0 ∷ 0 ∷ 16 ∷ 2 ∷ 0 ∷ 0 ∷ 0 ∷ 0 ∷ 0 ∷ 0 ∷ 0 ∷ 0 ∷ 0 ∷ 0 ∷ 0 ∷ 0 ∷ 0 ∷ 0 ∷ 0 ∷ 0 ∷ 0 ∷ 0 ∷ 0 ∷ 0 ∷ 0 ∷ 0 ∷ 0 ∷ 0 ∷ 0 ∷ 0 ∷ []) ≡ Some (tells 27 3 0)
  pub case_13 : made_of (flat 10 (tri 5 2 0 ∷ tri 2 3 0 ∷ tri 0 3 4 ∷ tri 4 5 1 ∷ tri 8 7 6 ∷ tri 4 1 0 ∷ tri 5 3 2 ∷ tri 5 8 1 ∷ tri 8 9 0 ∷ tri 0 1 7 ∷ tri 0 7 8 ∷ tri 8 5 9 ∷ tri 1 8 6 ∷ tri 1 6 7 ∷ tri 9 5 0 ∷ tri 3 5 4 ∷ [])) (0 ∷ 0 ∷ 0 ∷ 71 ∷ 1 ∷ 1 ∷ 0 ∷ 0 ∷ 0 ∷ 6 ∷ 0 ∷ 66 ∷ 22 ∷ 224 ∷ 128 ∷ 0 ∷ 0 ∷ 0 ∷ 0 ∷ 0 ∷ 0 ∷ 0 ∷ 0 ∷ 0 ∷ 0 ∷ 0 ∷ 0 ∷ 0 ∷ 0 ∷ 0 ∷ 0 ∷ 0 ∷ 0 ∷ 0 ∷ 0 ∷ 0 ∷ 0 ∷ 0 ∷ 0 ∷ 0 ∷ 0 ∷ 0 ∷ 0 ∷ 0 ∷ 0 ∷ 0 ∷ 0 ∷ 0 ∷ 0 ∷ 0 ∷ 0 ∷ 0 ∷ 0 ∷ 0 ∷ 0 ∷ 0 ∷ 0 ∷ 0 ∷ 0 ∷ 0 ∷ 0 ∷ 0 ∷ 0 ∷ 0 ∷ 0 ∷ 0 ∷ 0 ∷ 0 ∷ 0 ∷ 0 ∷ 0 ∷ 0 ∷ 0 ∷ 0 ∷ 0 ∷ []) ≡ split_of (tri 10 2 0 ∷ tri 2 3 0 ∷ tri 0 3 4 ∷ tri 4 5 1 ∷ tri 8 7 6 ∷ tri 4 1 0 ∷ tri 5 3 2 ∷ tri 11 12 1 ∷ tri 12 9 0 ∷ tri 0 1 7 ∷ tri 0 7 12 ∷ tri 12 11 9 ∷ tri 1 12 6 ∷ tri 1 6 7 ∷ tri 9 10 0 ∷ tri 3 5 4 ∷ tri 1 5 10 ∷ tri 1 10 11 ∷ tri 11 10 9 ∷ tri 10 5 2 ∷ tri 6 12 8 ∷ tri 12 7 8 ∷ []) (0 ∷ 1 ∷ 2 ∷ 3 ∷ 4 ∷ 5 ∷ 6 ∷ 7 ∷ 8 ∷ 9 ∷ 5 ∷ 5 ∷ 8 ∷ [])
  pub case_14 : made_of (flat 11 (tri 1 0 3 ∷ tri 8 1 3 ∷ tri 9 3 0 ∷ tri 9 8 3 ∷ tri 5 10 4 ∷ tri 4 6 7 ∷ tri 8 9 1 ∷ tri 6 10 7 ∷ tri 2 9 0 ∷ tri 10 5 7 ∷ tri 0 1 2 ∷ tri 4 10 6 ∷ tri 9 2 1 ∷ tri 4 7 5 ∷ [])) (0 ∷ 0 ∷ 0 ∷ 83 ∷ 1 ∷ 1 ∷ 0 ∷ 0 ∷ 0 ∷ 8 ∷ 4 ∷ 91 ∷ 0 ∷ 141 ∷ 132 ∷ 0 ∷ 0 ∷ 0 ∷ 0 ∷ 0 ∷ 0 ∷ 0 ∷ 0 ∷ 0 ∷ 0 ∷ 0 ∷ 0 ∷ 0 ∷ 0 ∷ 0 ∷ 0 ∷ 0 ∷ 0 ∷ 0 ∷ 0 ∷ 0 ∷ 0 ∷ 0 ∷ 0 ∷ 0 ∷ 0 ∷ 0 ∷ 0 ∷ 0 ∷ 0 ∷ 0 ∷ 0 ∷ 0 ∷ 0 ∷ 0 ∷ 0 ∷ 0 ∷ 0 ∷ 0 ∷ 0 ∷ 0 ∷ 0 ∷ 0 ∷ 0 ∷ 0 ∷ 0 ∷ 0 ∷ 0 ∷ 0 ∷ 0 ∷ 0 ∷ 0 ∷ 0 ∷ 0 ∷ 0 ∷ 0 ∷ 0 ∷ 0 ∷ 0 ∷ 0 ∷ 0 ∷ 0 ∷ 0 ∷ 0 ∷ 0 ∷ 0 ∷ 0 ∷ 0 ∷ 0 ∷ 0 ∷ 0 ∷ 0 ∷ []) ≡ split_of (tri 1 0 3 ∷ tri 8 1 11 ∷ tri 9 3 0 ∷ tri 9 8 3 ∷ tri 12 10 13 ∷ tri 4 6 7 ∷ tri 8 9 1 ∷ tri 6 10 7 ∷ tri 2 9 0 ∷ tri 10 12 7 ∷ tri 0 1 2 ∷ tri 14 10 6 ∷ tri 9 2 1 ∷ tri 4 7 5 ∷ tri 1 3 11 ∷ tri 11 3 8 ∷ tri 6 4 12 ∷ tri 6 12 13 ∷ tri 6 13 14 ∷ tri 14 13 10 ∷ tri 12 4 5 ∷ tri 12 5 7 ∷ []) (0 ∷ 1 ∷ 2 ∷ 3 ∷ 4 ∷ 5 ∷ 6 ∷ 7 ∷ 8 ∷ 9 ∷ 10 ∷ 3 ∷ 5 ∷ 4 ∷ 4 ∷ [])
  pub case_15 : told_of (flat 11 (tri 9 6 10 ∷ tri 9 8 2 ∷ tri 9 2 3 ∷ tri 8 7 2 ∷ tri 0 4 1 ∷ tri 10 7 3 ∷ tri 10 8 9 ∷ tri 4 7 8 ∷ tri 1 2 7 ∷ tri 5 2 1 ∷ tri 3 4 9 ∷ tri 9 4 0 ∷ tri 10 3 5 ∷ tri 5 1 4 ∷ tri 6 0 1 ∷ tri 10 1 7 ∷ tri 1 10 6 ∷ tri 5 8 10 ∷ tri 5 3 2 ∷ tri 4 8 5 ∷ tri 0 6 9 ∷ tri 7 4 3 ∷ [])) (0 ∷ 0 ∷ 0 ∷ 47 ∷ 1 ∷ 1 ∷ 0 ∷ 0 ∷ 0 ∷ 0 ∷ 128 ∷ 128 ∷ 0 ∷ 32 ∷ 0 ∷ 0 ∷ 0 ∷ 0 ∷ 0 ∷ 0 ∷ 0 ∷ 0 ∷ 0 ∷ 0 ∷ 0 ∷ 0 ∷ 0 ∷ 0 ∷ 0 ∷ 0 ∷ 0 ∷ 0 ∷ 0 ∷ 0 ∷ 0 ∷ 0 ∷ 0 ∷ 0 ∷ 0 ∷ 0 ∷ 0 ∷ 0 ∷ 0 ∷ 0 ∷ 0 ∷ 0 ∷ 0 ∷ 0 ∷ 0 ∷ 0 ∷ 0 ∷ []) ≡ Some (tells 27 3 6)
  pub case_16 : made_of (flat 15 (tri 4 1 0 ∷ tri 14 0 3 ∷ tri 0 2 3 ∷ tri 4 0 9 ∷ tri 12 2 0 ∷ tri 5 8 1 ∷ tri 8 5 9 ∷ tri 10 13 11 ∷ tri 9 5 4 ∷ tri 11 13 3 ∷ tri 0 10 11 ∷ tri 9 0 14 ∷ tri 0 1 7 ∷ tri 3 13 14 ∷ tri 9 7 8 ∷ tri 1 6 7 ∷ tri 9 13 10 ∷ tri 7 6 8 ∷ tri 4 5 1 ∷ tri 3 2 12 ∷ tri 7 9 10 ∷ tri 0 7 10 ∷ tri 12 11 3 ∷ tri 1 8 6 ∷ tri 11 12 0 ∷ tri 9 14 13 ∷ [])) (0 ∷ 0 ∷ 0 ∷ 36 ∷ 1 ∷ 1 ∷ 0 ∷ 0 ∷ 0 ∷ 2 ∷ 0 ∷ 128 ∷ 128 ∷ 0 ∷ 0 ∷ 128 ∷ 0 ∷ 0 ∷ 0 ∷ 0 ∷ 0 ∷ 0 ∷ 0 ∷ 0 ∷ 0 ∷ 0 ∷ 0 ∷ 0 ∷ 0 ∷ 0 ∷ 0 ∷ 0 ∷ 0 ∷ 0 ∷ 0 ∷ 0 ∷ 0 ∷ 0 ∷ 0 ∷ 0 ∷ []) ≡ split_of (tri 4 1 0 ∷ tri 14 0 3 ∷ tri 0 2 3 ∷ tri 4 0 9 ∷ tri 12 2 0 ∷ tri 5 8 1 ∷ tri 8 5 9 ∷ tri 10 13 11 ∷ tri 9 5 4 ∷ tri 11 13 3 ∷ tri 0 10 11 ∷ tri 9 0 14 ∷ tri 0 1 7 ∷ tri 3 13 14 ∷ tri 9 7 8 ∷ tri 1 6 7 ∷ tri 9 13 10 ∷ tri 7 6 8 ∷ tri 4 5 1 ∷ tri 3 2 15 ∷ tri 7 9 10 ∷ tri 0 7 10 ∷ tri 15 11 3 ∷ tri 1 8 6 ∷ tri 11 15 0 ∷ tri 9 14 13 ∷ tri 0 15 12 ∷ tri 15 2 12 ∷ []) (0 ∷ 1 ∷ 2 ∷ 3 ∷ 4 ∷ 5 ∷ 6 ∷ 7 ∷ 8 ∷ 9 ∷ 10 ∷ 11 ∷ 12 ∷ 13 ∷ 14 ∷ 12 ∷ [])
  pub case_17 : made_of (flat 12 (tri 7 5 4 ∷ tri 3 8 1 ∷ tri 10 6 4 ∷ tri 9 8 3 ∷ tri 8 9 1 ∷ tri 1 0 3 ∷ tri 10 7 6 ∷ tri 6 7 4 ∷ tri 5 7 10 ∷ tri 5 10 4 ∷ tri 1 2 0 ∷ tri 1 9 11 ∷ tri 0 9 3 ∷ tri 0 2 11 ∷ tri 9 0 11 ∷ tri 11 2 1 ∷ [])) (0 ∷ 0 ∷ 0 ∷ 59 ∷ 1 ∷ 1 ∷ 0 ∷ 0 ∷ 0 ∷ 6 ∷ 80 ∷ 128 ∷ 2 ∷ 229 ∷ 0 ∷ 0 ∷ 0 ∷ 0 ∷ 0 ∷ 0 ∷ 0 ∷ 0 ∷ 0 ∷ 0 ∷ 0 ∷ 0 ∷ 0 ∷ 0 ∷ 0 ∷ 0 ∷ 0 ∷ 0 ∷ 0 ∷ 0 ∷ 0 ∷ 0 ∷ 0 ∷ 0 ∷ 0 ∷ 0 ∷ 0 ∷ 0 ∷ 0 ∷ 0 ∷ 0 ∷ 0 ∷ 0 ∷ 0 ∷ 0 ∷ 0 ∷ 0 ∷ 0 ∷ 0 ∷ 0 ∷ 0 ∷ 0 ∷ 0 ∷ 0 ∷ 0 ∷ 0 ∷ 0 ∷ 0 ∷ 0 ∷ []) ≡ split_of (tri 7 5 4 ∷ tri 3 8 1 ∷ tri 10 6 4 ∷ tri 12 8 3 ∷ tri 8 9 1 ∷ tri 1 0 3 ∷ tri 10 7 6 ∷ tri 6 7 4 ∷ tri 5 7 10 ∷ tri 5 10 4 ∷ tri 1 2 0 ∷ tri 1 14 11 ∷ tri 0 12 3 ∷ tri 13 2 11 ∷ tri 14 13 11 ∷ tri 11 2 1 ∷ tri 1 9 12 ∷ tri 1 12 14 ∷ tri 14 12 0 ∷ tri 14 0 2 ∷ tri 14 2 13 ∷ tri 12 9 8 ∷ []) (0 ∷ 1 ∷ 2 ∷ 3 ∷ 4 ∷ 5 ∷ 6 ∷ 7 ∷ 8 ∷ 9 ∷ 10 ∷ 11 ∷ 9 ∷ 0 ∷ 9 ∷ [])
  pub case_18 : told_of (flat 4 (tri 1 2 0 ∷ tri 2 3 0 ∷ tri 3 1 0 ∷ tri 1 3 2 ∷ [])) (0 ∷ 0 ∷ 0 ∷ 44 ∷ 1 ∷ 1 ∷ 0 ∷ 0 ∷ 0 ∷ 4 ∷ 176 ∷ 208 ∷ 0 ∷ 0 ∷ 0 ∷ 0 ∷ 0 ∷ 0 ∷ 0 ∷ 0 ∷ 0 ∷ 0 ∷ 0 ∷ 0 ∷ 0 ∷ 0 ∷ 0 ∷ 0 ∷ 0 ∷ 0 ∷ 0 ∷ 0 ∷ 0 ∷ 0 ∷ 0 ∷ 0 ∷ 0 ∷ 0 ∷ 0 ∷ 0 ∷ 0 ∷ 0 ∷ 0 ∷ 0 ∷ 0 ∷ 0 ∷ 0 ∷ 0 ∷ []) ≡ Some (tells 33 4 4)
  pub case_19 : made_of (flat 6 (tri 2 3 0 ∷ tri 4 1 0 ∷ tri 1 5 2 ∷ tri 0 1 2 ∷ tri 4 3 5 ∷ tri 4 5 1 ∷ tri 2 5 3 ∷ tri 4 0 3 ∷ [])) (0 ∷ 0 ∷ 0 ∷ 57 ∷ 1 ∷ 1 ∷ 0 ∷ 0 ∷ 0 ∷ 4 ∷ 68 ∷ 192 ∷ 132 ∷ 0 ∷ 0 ∷ 0 ∷ 0 ∷ 0 ∷ 0 ∷ 0 ∷ 0 ∷ 0 ∷ 0 ∷ 0 ∷ 0 ∷ 0 ∷ 0 ∷ 0 ∷ 0 ∷ 0 ∷ 0 ∷ 0 ∷ 0 ∷ 0 ∷ 0 ∷ 0 ∷ 0 ∷ 0 ∷ 0 ∷ 0 ∷ 0 ∷ 0 ∷ 0 ∷ 0 ∷ 0 ∷ 0 ∷ 0 ∷ 0 ∷ 0 ∷ 0 ∷ 0 ∷ 0 ∷ 0 ∷ 0 ∷ 0 ∷ 0 ∷ 0 ∷ 0 ∷ 0 ∷ 0 ∷ 0 ∷ []) ≡ split_of (tri 2 3 0 ∷ tri 4 1 0 ∷ tri 1 5 6 ∷ tri 0 1 6 ∷ tri 7 3 5 ∷ tri 7 5 1 ∷ tri 2 5 3 ∷ tri 4 0 3 ∷ tri 0 6 2 ∷ tri 6 5 2 ∷ tri 1 4 3 ∷ tri 1 3 7 ∷ []) (0 ∷ 1 ∷ 2 ∷ 3 ∷ 4 ∷ 5 ∷ 2 ∷ 4 ∷ [])
  pub case_20 : made_of (flat 8 (tri 4 7 5 ∷ tri 0 2 3 ∷ tri 7 4 6 ∷ tri 7 6 5 ∷ tri 1 3 2 ∷ tri 5 6 4 ∷ tri 0 3 1 ∷ tri 2 0 1 ∷ [])) (0 ∷ 0 ∷ 0 ∷ 33 ∷ 1 ∷ 1 ∷ 0 ∷ 0 ∷ 0 ∷ 2 ∷ 1 ∷ 128 ∷ 128 ∷ 0 ∷ 0 ∷ 0 ∷ 0 ∷ 0 ∷ 0 ∷ 0 ∷ 0 ∷ 0 ∷ 0 ∷ 0 ∷ 0 ∷ 0 ∷ 0 ∷ 0 ∷ 0 ∷ 0 ∷ 0 ∷ 0 ∷ 0 ∷ 0 ∷ 0 ∷ 0 ∷ 0 ∷ []) ≡ split_of (tri 8 7 5 ∷ tri 0 2 3 ∷ tri 7 4 6 ∷ tri 7 6 5 ∷ tri 1 3 2 ∷ tri 5 6 8 ∷ tri 0 3 1 ∷ tri 2 0 1 ∷ tri 6 4 8 ∷ tri 8 4 7 ∷ []) (0 ∷ 1 ∷ 2 ∷ 3 ∷ 4 ∷ 5 ∷ 6 ∷ 7 ∷ 4 ∷ [])
  pub case_21 : made_of (flat 9 (tri 6 7 3 ∷ tri 8 5 4 ∷ tri 8 6 5 ∷ tri 1 0 4 ∷ tri 7 1 2 ∷ tri 2 5 3 ∷ tri 7 6 1 ∷ tri 7 8 4 ∷ tri 2 1 5 ∷ tri 8 2 0 ∷ tri 4 5 1 ∷ tri 0 6 8 ∷ tri 0 3 4 ∷ tri 2 3 0 ∷ tri 6 3 5 ∷ tri 1 6 0 ∷ tri 4 3 7 ∷ tri 8 7 2 ∷ [])) (0 ∷ 0 ∷ 0 ∷ 59 ∷ 1 ∷ 1 ∷ 0 ∷ 0 ∷ 0 ∷ 4 ∷ 4 ∷ 0 ∷ 18 ∷ 32 ∷ 136 ∷ 0 ∷ 0 ∷ 0 ∷ 0 ∷ 0 ∷ 0 ∷ 0 ∷ 0 ∷ 0 ∷ 0 ∷ 0 ∷ 0 ∷ 0 ∷ 0 ∷ 0 ∷ 0 ∷ 0 ∷ 0 ∷ 0 ∷ 0 ∷ 0 ∷ 0 ∷ 0 ∷ 0 ∷ 0 ∷ 0 ∷ 0 ∷ 0 ∷ 0 ∷ 0 ∷ 0 ∷ 0 ∷ 0 ∷ 0 ∷ 0 ∷ 0 ∷ 0 ∷ 0 ∷ 0 ∷ 0 ∷ 0 ∷ 0 ∷ 0 ∷ 0 ∷ 0 ∷ 0 ∷ 0 ∷ 0 ∷ []) ≡ split_of (tri 6 7 3 ∷ tri 9 5 4 ∷ tri 9 6 5 ∷ tri 1 0 4 ∷ tri 7 1 2 ∷ tri 2 10 3 ∷ tri 7 6 1 ∷ tri 7 9 4 ∷ tri 2 1 10 ∷ tri 8 2 0 ∷ tri 4 10 1 ∷ tri 0 6 9 ∷ tri 0 3 4 ∷ tri 2 3 0 ∷ tri 6 3 10 ∷ tri 1 6 0 ∷ tri 4 3 7 ∷ tri 8 7 2 ∷ tri 0 9 8 ∷ tri 9 7 8 ∷ tri 4 5 10 ∷ tri 10 5 6 ∷ []) (0 ∷ 1 ∷ 2 ∷ 3 ∷ 4 ∷ 5 ∷ 6 ∷ 7 ∷ 8 ∷ 8 ∷ 5 ∷ [])
  pub case_22 : made_of (flat 10 (tri 7 8 0 ∷ tri 4 3 5 ∷ tri 5 3 2 ∷ tri 1 8 6 ∷ tri 0 4 1 ∷ tri 4 5 1 ∷ tri 6 8 7 ∷ tri 2 3 0 ∷ tri 5 9 8 ∷ tri 7 1 6 ∷ tri 0 8 9 ∷ tri 8 1 5 ∷ tri 2 0 5 ∷ tri 0 3 4 ∷ tri 7 0 1 ∷ tri 0 9 5 ∷ [])) (0 ∷ 0 ∷ 0 ∷ 58 ∷ 1 ∷ 1 ∷ 0 ∷ 0 ∷ 0 ∷ 4 ∷ 0 ∷ 64 ∷ 138 ∷ 136 ∷ 0 ∷ 0 ∷ 0 ∷ 0 ∷ 0 ∷ 0 ∷ 0 ∷ 0 ∷ 0 ∷ 0 ∷ 0 ∷ 0 ∷ 0 ∷ 0 ∷ 0 ∷ 0 ∷ 0 ∷ 0 ∷ 0 ∷ 0 ∷ 0 ∷ 0 ∷ 0 ∷ 0 ∷ 0 ∷ 0 ∷ 0 ∷ 0 ∷ 0 ∷ 0 ∷ 0 ∷ 0 ∷ 0 ∷ 0 ∷ 0 ∷ 0 ∷ 0 ∷ 0 ∷ 0 ∷ 0 ∷ 0 ∷ 0 ∷ 0 ∷ 0 ∷ 0 ∷ 0 ∷ 0 ∷ 0 ∷ []) ≡ split_of (tri 11 8 0 ∷ tri 4 3 5 ∷ tri 10 3 2 ∷ tri 1 8 6 ∷ tri 0 4 1 ∷ tri 4 5 1 ∷ tri 6 8 7 ∷ tri 2 3 0 ∷ tri 10 9 8 ∷ tri 11 1 6 ∷ tri 0 8 9 ∷ tri 8 1 10 ∷ tri 2 0 10 ∷ tri 0 3 4 ∷ tri 11 0 1 ∷ tri 0 9 10 ∷ tri 1 5 10 ∷ tri 10 5 3 ∷ tri 6 7 11 ∷ tri 11 7 8 ∷ []) (0 ∷ 1 ∷ 2 ∷ 3 ∷ 4 ∷ 5 ∷ 6 ∷ 7 ∷ 8 ∷ 9 ∷ 5 ∷ 7 ∷ [])
  pub case_23 : made_of (flat 11 (tri 9 0 2 ∷ tri 1 2 0 ∷ tri 3 0 9 ∷ tri 4 7 5 ∷ tri 10 7 6 ∷ tri 8 3 9 ∷ tri 0 3 1 ∷ tri 5 7 10 ∷ tri 8 9 1 ∷ tri 6 7 4 ∷ tri 4 10 6 ∷ tri 8 1 3 ∷ tri 4 5 10 ∷ tri 9 2 1 ∷ [])) (0 ∷ 0 ∷ 0 ∷ 34 ∷ 1 ∷ 1 ∷ 0 ∷ 0 ∷ 0 ∷ 2 ∷ 0 ∷ 18 ∷ 0 ∷ 128 ∷ 0 ∷ 0 ∷ 0 ∷ 0 ∷ 0 ∷ 0 ∷ 0 ∷ 0 ∷ 0 ∷ 0 ∷ 0 ∷ 0 ∷ 0 ∷ 0 ∷ 0 ∷ 0 ∷ 0 ∷ 0 ∷ 0 ∷ 0 ∷ 0 ∷ 0 ∷ 0 ∷ 0 ∷ []) ≡ split_of (tri 9 0 2 ∷ tri 1 2 0 ∷ tri 3 0 9 ∷ tri 4 7 5 ∷ tri 10 7 6 ∷ tri 8 3 9 ∷ tri 0 3 1 ∷ tri 5 7 10 ∷ tri 8 9 1 ∷ tri 6 7 4 ∷ tri 4 10 6 ∷ tri 8 1 3 ∷ tri 11 5 10 ∷ tri 9 2 1 ∷ tri 5 11 4 ∷ tri 11 10 4 ∷ []) (0 ∷ 1 ∷ 2 ∷ 3 ∷ 4 ∷ 5 ∷ 6 ∷ 7 ∷ 8 ∷ 9 ∷ 10 ∷ 4 ∷ [])
  pub case_24 : told_of (flat 11 (tri 7 4 3 ∷ tri 1 6 0 ∷ tri 4 1 0 ∷ tri 3 5 10 ∷ tri 9 3 4 ∷ tri 2 8 7 ∷ tri 3 10 7 ∷ tri 6 1 10 ∷ tri 9 6 10 ∷ tri 0 9 4 ∷ tri 9 2 3 ∷ tri 1 2 7 ∷ tri 5 8 10 ∷ tri 10 1 7 ∷ tri 8 2 9 ∷ tri 1 4 5 ∷ tri 8 5 4 ∷ tri 10 8 9 ∷ tri 2 1 5 ∷ tri 2 5 3 ∷ tri 6 9 0 ∷ tri 7 8 4 ∷ [])) (0 ∷ 0 ∷ 0 ∷ 47 ∷ 1 ∷ 1 ∷ 0 ∷ 0 ∷ 0 ∷ 0 ∷ 1 ∷ 33 ∷ 0 ∷ 0 ∷ 0 ∷ 0 ∷ 0 ∷ 0 ∷ 0 ∷ 0 ∷ 0 ∷ 0 ∷ 0 ∷ 0 ∷ 0 ∷ 0 ∷ 0 ∷ 0 ∷ 0 ∷ 0 ∷ 0 ∷ 0 ∷ 0 ∷ 0 ∷ 0 ∷ 0 ∷ 0 ∷ 0 ∷ 0 ∷ 0 ∷ 0 ∷ 0 ∷ 0 ∷ 0 ∷ 0 ∷ 0 ∷ 0 ∷ 0 ∷ 0 ∷ 0 ∷ 0 ∷ []) ≡ Some (tells 27 3 1)
  pub case_25 : made_of (flat 15 (tri 12 2 0 ∷ tri 14 0 3 ∷ tri 9 14 13 ∷ tri 9 4 0 ∷ tri 9 13 10 ∷ tri 11 3 12 ∷ tri 7 1 6 ∷ tri 3 0 2 ∷ tri 9 10 7 ∷ tri 9 5 4 ∷ tri 11 0 10 ∷ tri 10 0 7 ∷ tri 14 9 0 ∷ tri 5 1 4 ∷ tri 8 6 1 ∷ tri 5 8 1 ∷ tri 5 9 8 ∷ tri 3 11 13 ∷ tri 6 8 7 ∷ tri 4 1 0 ∷ tri 9 7 8 ∷ tri 10 13 11 ∷ tri 1 7 0 ∷ tri 3 2 12 ∷ tri 13 14 3 ∷ tri 11 12 0 ∷ [])) (0 ∷ 0 ∷ 0 ∷ 48 ∷ 1 ∷ 1 ∷ 0 ∷ 0 ∷ 0 ∷ 4 ∷ 16 ∷ 128 ∷ 4 ∷ 0 ∷ 0 ∷ 112 ∷ 0 ∷ 0 ∷ 0 ∷ 0 ∷ 0 ∷ 0 ∷ 0 ∷ 0 ∷ 0 ∷ 0 ∷ 0 ∷ 0 ∷ 0 ∷ 0 ∷ 0 ∷ 0 ∷ 0 ∷ 0 ∷ 0 ∷ 0 ∷ 0 ∷ 0 ∷ 0 ∷ 0 ∷ 0 ∷ 0 ∷ 0 ∷ 0 ∷ 0 ∷ 0 ∷ 0 ∷ 0 ∷ 0 ∷ 0 ∷ 0 ∷ 0 ∷ []) ≡ split_of (tri 12 2 0 ∷ tri 14 0 3 ∷ tri 9 14 13 ∷ tri 9 4 0 ∷ tri 9 13 10 ∷ tri 11 3 12 ∷ tri 7 1 6 ∷ tri 3 0 2 ∷ tri 9 10 7 ∷ tri 9 5 4 ∷ tri 11 15 10 ∷ tri 10 15 7 ∷ tri 14 9 0 ∷ tri 5 1 16 ∷ tri 8 6 1 ∷ tri 5 8 1 ∷ tri 5 9 8 ∷ tri 3 11 13 ∷ tri 6 8 7 ∷ tri 16 1 15 ∷ tri 9 7 8 ∷ tri 10 13 11 ∷ tri 1 7 15 ∷ tri 3 2 12 ∷ tri 13 14 3 ∷ tri 11 12 15 ∷ tri 5 0 4 ∷ tri 5 15 0 ∷ tri 5 16 15 ∷ tri 15 12 0 ∷ []) (0 ∷ 1 ∷ 2 ∷ 3 ∷ 4 ∷ 5 ∷ 6 ∷ 7 ∷ 8 ∷ 9 ∷ 10 ∷ 11 ∷ 12 ∷ 13 ∷ 14 ∷ 0 ∷ 4 ∷ [])
  pub case_26 : made_of (flat 12 (tri 11 2 1 ∷ tri 4 5 10 ∷ tri 1 0 3 ∷ tri 7 6 10 ∷ tri 10 6 4 ∷ tri 0 2 11 ∷ tri 1 9 11 ∷ tri 0 1 2 ∷ tri 8 3 9 ∷ tri 5 7 10 ∷ tri 0 9 3 ∷ tri 9 0 11 ∷ tri 9 1 8 ∷ tri 6 7 4 ∷ tri 3 8 1 ∷ tri 4 7 5 ∷ [])) (0 ∷ 0 ∷ 0 ∷ 96 ∷ 1 ∷ 1 ∷ 0 ∷ 0 ∷ 0 ∷ 10 ∷ 32 ∷ 8 ∷ 59 ∷ 122 ∷ 7 ∷ 0 ∷ 0 ∷ 0 ∷ 0 ∷ 0 ∷ 0 ∷ 0 ∷ 0 ∷ 0 ∷ 0 ∷ 0 ∷ 0 ∷ 0 ∷ 0 ∷ 0 ∷ 0 ∷ 0 ∷ 0 ∷ 0 ∷ 0 ∷ 0 ∷ 0 ∷ 0 ∷ 0 ∷ 0 ∷ 0 ∷ 0 ∷ 0 ∷ 0 ∷ 0 ∷ 0 ∷ 0 ∷ 0 ∷ 0 ∷ 0 ∷ 0 ∷ 0 ∷ 0 ∷ 0 ∷ 0 ∷ 0 ∷ 0 ∷ 0 ∷ 0 ∷ 0 ∷ 0 ∷ 0 ∷ 0 ∷ 0 ∷ 0 ∷ 0 ∷ 0 ∷ 0 ∷ 0 ∷ 0 ∷ 0 ∷ 0 ∷ 0 ∷ 0 ∷ 0 ∷ 0 ∷ 0 ∷ 0 ∷ 0 ∷ 0 ∷ 0 ∷ 0 ∷ 0 ∷ 0 ∷ 0 ∷ 0 ∷ 0 ∷ 0 ∷ 0 ∷ 0 ∷ 0 ∷ 0 ∷ 0 ∷ 0 ∷ 0 ∷ 0 ∷ 0 ∷ 0 ∷ 0 ∷ 0 ∷ []) ≡ split_of (tri 11 2 1 ∷ tri 4 5 10 ∷ tri 1 0 3 ∷ tri 7 15 16 ∷ tri 10 6 4 ∷ tri 0 2 11 ∷ tri 1 12 11 ∷ tri 0 1 2 ∷ tri 8 3 9 ∷ tri 5 7 16 ∷ tri 0 13 14 ∷ tri 13 0 11 ∷ tri 12 1 8 ∷ tri 6 7 4 ∷ tri 3 8 1 ∷ tri 4 7 5 ∷ tri 0 9 3 ∷ tri 0 12 9 ∷ tri 0 14 12 ∷ tri 14 13 12 ∷ tri 13 11 12 ∷ tri 12 8 9 ∷ tri 5 6 10 ∷ tri 5 15 6 ∷ tri 5 16 15 ∷ tri 15 7 6 ∷ []) (0 ∷ 1 ∷ 2 ∷ 3 ∷ 4 ∷ 5 ∷ 6 ∷ 7 ∷ 8 ∷ 9 ∷ 10 ∷ 11 ∷ 9 ∷ 9 ∷ 3 ∷ 6 ∷ 10 ∷ [])
  pub case_27 : told_of (flat 4 (tri 0 3 1 ∷ tri 1 2 0 ∷ tri 2 3 0 ∷ tri 2 1 3 ∷ [])) (0 ∷ 0 ∷ 0 ∷ 44 ∷ 1 ∷ 1 ∷ 0 ∷ 0 ∷ 0 ∷ 4 ∷ 52 ∷ 84 ∷ 0 ∷ 0 ∷ 0 ∷ 0 ∷ 0 ∷ 0 ∷ 0 ∷ 0 ∷ 0 ∷ 0 ∷ 0 ∷ 0 ∷ 0 ∷ 0 ∷ 0 ∷ 0 ∷ 0 ∷ 0 ∷ 0 ∷ 0 ∷ 0 ∷ 0 ∷ 0 ∷ 0 ∷ 0 ∷ 0 ∷ 0 ∷ 0 ∷ 0 ∷ 0 ∷ 0 ∷ 0 ∷ 0 ∷ 0 ∷ 0 ∷ 0 ∷ []) ≡ Some (tells 33 4 5)
  pub case_28 : made_of (flat 6 (tri 3 5 4 ∷ tri 0 4 1 ∷ tri 1 4 5 ∷ tri 0 2 3 ∷ tri 2 1 5 ∷ tri 2 0 1 ∷ tri 5 3 2 ∷ tri 3 4 0 ∷ [])) (0 ∷ 0 ∷ 0 ∷ 33 ∷ 1 ∷ 1 ∷ 0 ∷ 0 ∷ 0 ∷ 2 ∷ 192 ∷ 0 ∷ 128 ∷ 0 ∷ 0 ∷ 0 ∷ 0 ∷ 0 ∷ 0 ∷ 0 ∷ 0 ∷ 0 ∷ 0 ∷ 0 ∷ 0 ∷ 0 ∷ 0 ∷ 0 ∷ 0 ∷ 0 ∷ 0 ∷ 0 ∷ 0 ∷ 0 ∷ 0 ∷ 0 ∷ 0 ∷ []) ≡ split_of (tri 3 5 4 ∷ tri 0 4 1 ∷ tri 1 4 5 ∷ tri 0 2 3 ∷ tri 2 1 5 ∷ tri 2 6 1 ∷ tri 5 3 2 ∷ tri 3 4 0 ∷ tri 1 6 0 ∷ tri 6 2 0 ∷ []) (0 ∷ 1 ∷ 2 ∷ 3 ∷ 4 ∷ 5 ∷ 0 ∷ [])
  pub case_29 : made_of (flat 8 (tri 0 1 2 ∷ tri 3 1 0 ∷ tri 1 3 2 ∷ tri 0 2 3 ∷ tri 6 5 7 ∷ tri 4 6 7 ∷ tri 5 4 7 ∷ tri 6 4 5 ∷ [])) (0 ∷ 0 ∷ 0 ∷ 70 ∷ 1 ∷ 1 ∷ 0 ∷ 0 ∷ 0 ∷ 6 ∷ 106 ∷ 128 ∷ 200 ∷ 128 ∷ 0 ∷ 0 ∷ 0 ∷ 0 ∷ 0 ∷ 0 ∷ 0 ∷ 0 ∷ 0 ∷ 0 ∷ 0 ∷ 0 ∷ 0 ∷ 0 ∷ 0 ∷ 0 ∷ 0 ∷ 0 ∷ 0 ∷ 0 ∷ 0 ∷ 0 ∷ 0 ∷ 0 ∷ 0 ∷ 0 ∷ 0 ∷ 0 ∷ 0 ∷ 0 ∷ 0 ∷ 0 ∷ 0 ∷ 0 ∷ 0 ∷ 0 ∷ 0 ∷ 0 ∷ 0 ∷ 0 ∷ 0 ∷ 0 ∷ 0 ∷ 0 ∷ 0 ∷ 0 ∷ 0 ∷ 0 ∷ 0 ∷ 0 ∷ 0 ∷ 0 ∷ 0 ∷ 0 ∷ 0 ∷ 0 ∷ 0 ∷ 0 ∷ 0 ∷ 0 ∷ []) ≡ split_of (tri 0 1 2 ∷ tri 3 1 0 ∷ tri 1 9 2 ∷ tri 8 2 9 ∷ tri 6 5 7 ∷ tri 10 6 7 ∷ tri 5 4 7 ∷ tri 6 10 5 ∷ tri 1 3 8 ∷ tri 1 8 9 ∷ tri 8 3 2 ∷ tri 2 3 0 ∷ tri 5 10 4 ∷ tri 10 7 4 ∷ []) (0 ∷ 1 ∷ 2 ∷ 3 ∷ 4 ∷ 5 ∷ 6 ∷ 7 ∷ 0 ∷ 3 ∷ 4 ∷ [])
  pub case_30 : told_of (flat 9 (tri 1 4 5 ∷ tri 7 4 3 ∷ tri 1 5 2 ∷ tri 6 0 1 ∷ tri 4 0 3 ∷ tri 8 7 2 ∷ tri 8 5 4 ∷ tri 6 5 8 ∷ tri 6 7 3 ∷ tri 4 1 0 ∷ tri 3 0 2 ∷ tri 7 1 2 ∷ tri 5 6 3 ∷ tri 8 0 6 ∷ tri 8 2 0 ∷ tri 4 7 8 ∷ tri 6 1 7 ∷ tri 2 5 3 ∷ [])) (0 ∷ 0 ∷ 0 ∷ 46 ∷ 1 ∷ 1 ∷ 0 ∷ 0 ∷ 0 ∷ 0 ∷ 8 ∷ 2 ∷ 8 ∷ 0 ∷ 0 ∷ 0 ∷ 0 ∷ 0 ∷ 0 ∷ 0 ∷ 0 ∷ 0 ∷ 0 ∷ 0 ∷ 0 ∷ 0 ∷ 0 ∷ 0 ∷ 0 ∷ 0 ∷ 0 ∷ 0 ∷ 0 ∷ 0 ∷ 0 ∷ 0 ∷ 0 ∷ 0 ∷ 0 ∷ 0 ∷ 0 ∷ 0 ∷ 0 ∷ 0 ∷ 0 ∷ 0 ∷ 0 ∷ 0 ∷ 0 ∷ 0 ∷ []) ≡ Some (tells 27 3 0)
  pub case_31 : made_of (flat 10 (tri 8 0 7 ∷ tri 7 0 1 ∷ tri 0 5 2 ∷ tri 7 6 8 ∷ tri 0 9 5 ∷ tri 6 1 8 ∷ tri 9 0 8 ∷ tri 4 1 0 ∷ tri 8 5 9 ∷ tri 8 1 5 ∷ tri 7 1 6 ∷ tri 3 2 5 ∷ tri 5 1 4 ∷ tri 0 3 4 ∷ tri 5 4 3 ∷ tri 3 0 2 ∷ [])) (0 ∷ 0 ∷ 0 ∷ 34 ∷ 1 ∷ 1 ∷ 0 ∷ 0 ∷ 0 ∷ 2 ∷ 12 ∷ 0 ∷ 0 ∷ 64 ∷ 0 ∷ 0 ∷ 0 ∷ 0 ∷ 0 ∷ 0 ∷ 0 ∷ 0 ∷ 0 ∷ 0 ∷ 0 ∷ 0 ∷ 0 ∷ 0 ∷ 0 ∷ 0 ∷ 0 ∷ 0 ∷ 0 ∷ 0 ∷ 0 ∷ 0 ∷ 0 ∷ 0 ∷ []) ≡ split_of (tri 8 10 7 ∷ tri 7 0 1 ∷ tri 0 5 2 ∷ tri 7 6 8 ∷ tri 10 9 5 ∷ tri 6 1 8 ∷ tri 9 10 8 ∷ tri 4 1 0 ∷ tri 8 5 9 ∷ tri 8 1 5 ∷ tri 7 1 6 ∷ tri 3 2 5 ∷ tri 5 1 4 ∷ tri 0 3 4 ∷ tri 5 4 3 ∷ tri 3 0 2 ∷ tri 5 0 7 ∷ tri 5 7 10 ∷ []) (0 ∷ 1 ∷ 2 ∷ 3 ∷ 4 ∷ 5 ∷ 6 ∷ 7 ∷ 8 ∷ 9 ∷ 0 ∷ [])
  pub case_32 : made_of (flat 11 (tri 7 6 10 ∷ tri 6 4 10 ∷ tri 9 0 2 ∷ tri 2 0 1 ∷ tri 9 1 8 ∷ tri 0 3 1 ∷ tri 1 3 8 ∷ tri 5 10 4 ∷ tri 4 6 7 ∷ tri 5 7 10 ∷ tri 2 1 9 ∷ tri 0 9 3 ∷ tri 4 7 5 ∷ tri 9 8 3 ∷ [])) (0 ∷ 0 ∷ 0 ∷ 96 ∷ 1 ∷ 1 ∷ 0 ∷ 0 ∷ 0 ∷ 10 ∷ 13 ∷ 8 ∷ 104 ∷ 180 ∷ 137 ∷ 64 ∷ 0 ∷ 0 ∷ 0 ∷ 0 ∷ 0 ∷ 0 ∷ 0 ∷ 0 ∷ 0 ∷ 0 ∷ 0 ∷ 0 ∷ 0 ∷ 0 ∷ 0 ∷ 0 ∷ 0 ∷ 0 ∷ 0 ∷ 0 ∷ 0 ∷ 0 ∷ 0 ∷ 0 ∷ 0 ∷ 0 ∷ 0 ∷ 0 ∷ 0 ∷ 0 ∷ 0 ∷ 0 ∷ 0 ∷ 0 ∷ 0 ∷ 0 ∷ 0 ∷ 0 ∷ 0 ∷ 0 ∷ 0 ∷ 0 ∷ 0 ∷ 0 ∷ 0 ∷ 0 ∷ 0 ∷ 0 ∷ 0 ∷ 0 ∷ 0 ∷ 0 ∷ 0 ∷ 0 ∷ 0 ∷ 0 ∷ 0 ∷ 0 ∷ 0 ∷ 0 ∷ 0 ∷ 0 ∷ 0 ∷ 0 ∷ 0 ∷ 0 ∷ 0 ∷ 0 ∷ 0 ∷ 0 ∷ 0 ∷ 0 ∷ 0 ∷ 0 ∷ 0 ∷ 0 ∷ 0 ∷ 0 ∷ 0 ∷ 0 ∷ 0 ∷ 0 ∷ 0 ∷ 0 ∷ []) ≡ split_of (tri 7 14 10 ∷ tri 6 4 10 ∷ tri 12 0 2 ∷ tri 2 0 1 ∷ tri 9 11 8 ∷ tri 0 3 1 ∷ tri 11 3 8 ∷ tri 5 10 4 ∷ tri 4 15 7 ∷ tri 5 7 10 ∷ tri 2 13 12 ∷ tri 0 12 3 ∷ tri 4 7 5 ∷ tri 12 8 3 ∷ tri 2 1 13 ∷ tri 13 1 9 ∷ tri 13 9 8 ∷ tri 13 8 12 ∷ tri 9 1 11 ∷ tri 11 1 3 ∷ tri 4 6 15 ∷ tri 15 6 10 ∷ tri 15 10 14 ∷ tri 15 14 7 ∷ []) (0 ∷ 1 ∷ 2 ∷ 3 ∷ 4 ∷ 5 ∷ 6 ∷ 7 ∷ 8 ∷ 9 ∷ 10 ∷ 1 ∷ 9 ∷ 1 ∷ 6 ∷ 6 ∷ [])
  pub case_33 : told_of (flat 11 (tri 6 10 9 ∷ tri 2 1 5 ∷ tri 4 9 3 ∷ tri 8 4 7 ∷ tri 9 10 8 ∷ tri 5 1 4 ∷ tri 8 5 4 ∷ tri 6 0 1 ∷ tri 3 5 10 ∷ tri 3 9 2 ∷ tri 8 2 9 ∷ tri 0 9 4 ∷ tri 2 5 3 ∷ tri 7 2 8 ∷ tri 1 0 4 ∷ tri 2 7 1 ∷ tri 9 0 6 ∷ tri 4 3 7 ∷ tri 10 6 1 ∷ tri 7 3 10 ∷ tri 5 8 10 ∷ tri 7 10 1 ∷ [])) (0 ∷ 0 ∷ 0 ∷ 35 ∷ 1 ∷ 1 ∷ 0 ∷ 0 ∷ 0 ∷ 0 ∷ 0 ∷ 0 ∷ 72 ∷ 0 ∷ 0 ∷ 0 ∷ 0 ∷ 0 ∷ 0 ∷ 0 ∷ 0 ∷ 0 ∷ 0 ∷ 0 ∷ 0 ∷ 0 ∷ 0 ∷ 0 ∷ 0 ∷ 0 ∷ 0 ∷ 0 ∷ 0 ∷ 0 ∷ 0 ∷ 0 ∷ 0 ∷ 0 ∷ 0 ∷ []) ≡ Some (tells 27 3 3)
  pub case_34 : made_of (flat 15 (tri 4 0 9 ∷ tri 4 5 1 ∷ tri 3 0 2 ∷ tri 2 0 12 ∷ tri 7 1 6 ∷ tri 12 3 2 ∷ tri 0 4 1 ∷ tri 0 3 14 ∷ tri 9 14 13 ∷ tri 11 13 3 ∷ tri 8 6 1 ∷ tri 10 0 7 ∷ tri 0 11 12 ∷ tri 12 11 3 ∷ tri 5 8 1 ∷ tri 9 10 7 ∷ tri 3 13 14 ∷ tri 9 7 8 ∷ tri 9 13 10 ∷ tri 1 7 0 ∷ tri 11 0 10 ∷ tri 14 9 0 ∷ tri 9 8 5 ∷ tri 10 13 11 ∷ tri 6 8 7 ∷ tri 4 9 5 ∷ [])) (0 ∷ 0 ∷ 0 ∷ 36 ∷ 1 ∷ 1 ∷ 0 ∷ 0 ∷ 0 ∷ 2 ∷ 128 ∷ 128 ∷ 0 ∷ 0 ∷ 0 ∷ 64 ∷ 0 ∷ 0 ∷ 0 ∷ 0 ∷ 0 ∷ 0 ∷ 0 ∷ 0 ∷ 0 ∷ 0 ∷ 0 ∷ 0 ∷ 0 ∷ 0 ∷ 0 ∷ 0 ∷ 0 ∷ 0 ∷ 0 ∷ 0 ∷ 0 ∷ 0 ∷ 0 ∷ 0 ∷ []) ≡ split_of (tri 4 0 9 ∷ tri 4 5 1 ∷ tri 3 0 2 ∷ tri 2 0 12 ∷ tri 7 1 6 ∷ tri 12 3 2 ∷ tri 0 4 1 ∷ tri 0 3 14 ∷ tri 9 14 13 ∷ tri 11 13 3 ∷ tri 8 6 1 ∷ tri 10 15 7 ∷ tri 15 11 12 ∷ tri 12 11 3 ∷ tri 5 8 1 ∷ tri 9 10 7 ∷ tri 3 13 14 ∷ tri 9 7 8 ∷ tri 9 13 10 ∷ tri 1 7 15 ∷ tri 11 15 10 ∷ tri 14 9 0 ∷ tri 9 8 5 ∷ tri 10 13 11 ∷ tri 6 8 7 ∷ tri 4 9 5 ∷ tri 1 12 0 ∷ tri 1 15 12 ∷ []) (0 ∷ 1 ∷ 2 ∷ 3 ∷ 4 ∷ 5 ∷ 6 ∷ 7 ∷ 8 ∷ 9 ∷ 10 ∷ 11 ∷ 12 ∷ 13 ∷ 14 ∷ 0 ∷ [])
  pub case_35 : made_of (flat 12 (tri 2 0 1 ∷ tri 4 10 6 ∷ tri 3 1 0 ∷ tri 8 3 9 ∷ tri 1 9 11 ∷ tri 4 6 7 ∷ tri 7 10 5 ∷ tri 11 0 2 ∷ tri 0 11 9 ∷ tri 3 0 9 ∷ tri 4 5 10 ∷ tri 8 9 1 ∷ tri 6 10 7 ∷ tri 3 8 1 ∷ tri 1 11 2 ∷ tri 4 7 5 ∷ [])) (0 ∷ 0 ∷ 0 ∷ 34 ∷ 1 ∷ 1 ∷ 0 ∷ 0 ∷ 0 ∷ 2 ∷ 0 ∷ 0 ∷ 20 ∷ 128 ∷ 0 ∷ 0 ∷ 0 ∷ 0 ∷ 0 ∷ 0 ∷ 0 ∷ 0 ∷ 0 ∷ 0 ∷ 0 ∷ 0 ∷ 0 ∷ 0 ∷ 0 ∷ 0 ∷ 0 ∷ 0 ∷ 0 ∷ 0 ∷ 0 ∷ 0 ∷ 0 ∷ 0 ∷ []) ≡ split_of (tri 2 0 1 ∷ tri 4 10 6 ∷ tri 3 1 0 ∷ tri 8 3 9 ∷ tri 1 9 11 ∷ tri 4 6 7 ∷ tri 7 10 5 ∷ tri 11 0 2 ∷ tri 0 11 9 ∷ tri 3 0 9 ∷ tri 4 5 10 ∷ tri 8 9 1 ∷ tri 6 10 12 ∷ tri 3 8 1 ∷ tri 1 11 2 ∷ tri 4 7 5 ∷ tri 6 12 7 ∷ tri 12 10 7 ∷ []) (0 ∷ 1 ∷ 2 ∷ 3 ∷ 4 ∷ 5 ∷ 6 ∷ 7 ∷ 8 ∷ 9 ∷ 10 ∷ 11 ∷ 7 ∷ [])
  pub case_36 : told_of (flat 4 (tri 2 0 1 ∷ tri 0 3 1 ∷ tri 2 1 3 ∷ tri 2 3 0 ∷ [])) (0 ∷ 0 ∷ 0 ∷ 32 ∷ 1 ∷ 1 ∷ 0 ∷ 0 ∷ 0 ∷ 2 ∷ 96 ∷ 64 ∷ 0 ∷ 0 ∷ 0 ∷ 0 ∷ 0 ∷ 0 ∷ 0 ∷ 0 ∷ 0 ∷ 0 ∷ 0 ∷ 0 ∷ 0 ∷ 0 ∷ 0 ∷ 0 ∷ 0 ∷ 0 ∷ 0 ∷ 0 ∷ 0 ∷ 0 ∷ 0 ∷ 0 ∷ []) ≡ Some (tells 33 4 4)
  pub case_37 : made_of (flat 6 (tri 3 2 5 ∷ tri 0 4 1 ∷ tri 1 4 5 ∷ tri 5 4 3 ∷ tri 0 3 4 ∷ tri 3 0 2 ∷ tri 2 1 5 ∷ tri 2 0 1 ∷ [])) (0 ∷ 0 ∷ 0 ∷ 45 ∷ 1 ∷ 1 ∷ 0 ∷ 0 ∷ 0 ∷ 4 ∷ 33 ∷ 64 ∷ 152 ∷ 0 ∷ 0 ∷ 0 ∷ 0 ∷ 0 ∷ 0 ∷ 0 ∷ 0 ∷ 0 ∷ 0 ∷ 0 ∷ 0 ∷ 0 ∷ 0 ∷ 0 ∷ 0 ∷ 0 ∷ 0 ∷ 0 ∷ 0 ∷ 0 ∷ 0 ∷ 0 ∷ 0 ∷ 0 ∷ 0 ∷ 0 ∷ 0 ∷ 0 ∷ 0 ∷ 0 ∷ 0 ∷ 0 ∷ 0 ∷ 0 ∷ 0 ∷ []) ≡ split_of (tri 6 2 5 ∷ tri 0 4 1 ∷ tri 1 4 5 ∷ tri 5 4 6 ∷ tri 0 3 4 ∷ tri 7 0 2 ∷ tri 2 1 5 ∷ tri 2 0 1 ∷ tri 0 7 3 ∷ tri 7 4 3 ∷ tri 7 2 4 ∷ tri 2 6 4 ∷ []) (0 ∷ 1 ∷ 2 ∷ 3 ∷ 4 ∷ 5 ∷ 3 ∷ 3 ∷ [])
  pub case_38 : made_of (flat 8 (tri 4 5 6 ∷ tri 2 0 1 ∷ tri 3 2 1 ∷ tri 5 7 6 ∷ tri 5 4 7 ∷ tri 3 1 0 ∷ tri 2 3 0 ∷ tri 7 4 6 ∷ [])) (0 ∷ 0 ∷ 0 ∷ 33 ∷ 1 ∷ 1 ∷ 0 ∷ 0 ∷ 0 ∷ 2 ∷ 2 ∷ 32 ∷ 128 ∷ 0 ∷ 0 ∷ 0 ∷ 0 ∷ 0 ∷ 0 ∷ 0 ∷ 0 ∷ 0 ∷ 0 ∷ 0 ∷ 0 ∷ 0 ∷ 0 ∷ 0 ∷ 0 ∷ 0 ∷ 0 ∷ 0 ∷ 0 ∷ 0 ∷ 0 ∷ 0 ∷ 0 ∷ []) ≡ split_of (tri 4 5 6 ∷ tri 2 0 1 ∷ tri 3 2 1 ∷ tri 5 7 6 ∷ tri 8 4 7 ∷ tri 3 1 0 ∷ tri 2 3 0 ∷ tri 7 4 6 ∷ tri 4 8 5 ∷ tri 8 7 5 ∷ []) (0 ∷ 1 ∷ 2 ∷ 3 ∷ 4 ∷ 5 ∷ 6 ∷ 7 ∷ 5 ∷ [])
  pub case_39 : told_of (flat 9 (tri 5 1 4 ∷ tri 4 1 0 ∷ tri 2 5 3 ∷ tri 2 3 0 ∷ tri 1 6 0 ∷ tri 3 7 4 ∷ tri 6 1 7 ∷ tri 4 8 5 ∷ tri 7 1 2 ∷ tri 5 8 6 ∷ tri 4 0 3 ∷ tri 4 7 8 ∷ tri 2 1 5 ∷ tri 8 0 6 ∷ tri 5 6 3 ∷ tri 3 6 7 ∷ tri 7 2 8 ∷ tri 0 8 2 ∷ [])) (0 ∷ 0 ∷ 0 ∷ 46 ∷ 1 ∷ 1 ∷ 0 ∷ 0 ∷ 0 ∷ 0 ∷ 0 ∷ 16 ∷ 2 ∷ 32 ∷ 0 ∷ 0 ∷ 0 ∷ 0 ∷ 0 ∷ 0 ∷ 0 ∷ 0 ∷ 0 ∷ 0 ∷ 0 ∷ 0 ∷ 0 ∷ 0 ∷ 0 ∷ 0 ∷ 0 ∷ 0 ∷ 0 ∷ 0 ∷ 0 ∷ 0 ∷ 0 ∷ 0 ∷ 0 ∷ 0 ∷ 0 ∷ 0 ∷ 0 ∷ 0 ∷ 0 ∷ 0 ∷ 0 ∷ 0 ∷ 0 ∷ 0 ∷ []) ≡ Some (tells 27 3 2)
  pub case_40 : made_of (flat 10 (tri 7 1 6 ∷ tri 0 2 3 ∷ tri 5 9 8 ∷ tri 7 0 1 ∷ tri 3 4 0 ∷ tri 5 4 3 ∷ tri 1 8 6 ∷ tri 8 0 7 ∷ tri 2 0 5 ∷ tri 7 6 8 ∷ tri 0 9 5 ∷ tri 5 8 1 ∷ tri 8 9 0 ∷ tri 5 3 2 ∷ tri 4 5 1 ∷ tri 0 4 1 ∷ [])) (0 ∷ 0 ∷ 0 ∷ 71 ∷ 1 ∷ 1 ∷ 0 ∷ 0 ∷ 0 ∷ 8 ∷ 26 ∷ 144 ∷ 0 ∷ 155 ∷ 20 ∷ 0 ∷ 0 ∷ 0 ∷ 0 ∷ 0 ∷ 0 ∷ 0 ∷ 0 ∷ 0 ∷ 0 ∷ 0 ∷ 0 ∷ 0 ∷ 0 ∷ 0 ∷ 0 ∷ 0 ∷ 0 ∷ 0 ∷ 0 ∷ 0 ∷ 0 ∷ 0 ∷ 0 ∷ 0 ∷ 0 ∷ 0 ∷ 0 ∷ 0 ∷ 0 ∷ 0 ∷ 0 ∷ 0 ∷ 0 ∷ 0 ∷ 0 ∷ 0 ∷ 0 ∷ 0 ∷ 0 ∷ 0 ∷ 0 ∷ 0 ∷ 0 ∷ 0 ∷ 0 ∷ 0 ∷ 0 ∷ 0 ∷ 0 ∷ 0 ∷ 0 ∷ 0 ∷ 0 ∷ 0 ∷ 0 ∷ 0 ∷ 0 ∷ 0 ∷ 0 ∷ []) ≡ split_of (tri 7 1 6 ∷ tri 0 2 3 ∷ tri 5 9 8 ∷ tri 7 12 10 ∷ tri 3 4 0 ∷ tri 5 4 3 ∷ tri 1 8 6 ∷ tri 8 12 7 ∷ tri 2 0 5 ∷ tri 7 6 8 ∷ tri 13 9 5 ∷ tri 5 8 1 ∷ tri 8 9 13 ∷ tri 5 3 2 ∷ tri 4 5 1 ∷ tri 12 11 10 ∷ tri 5 0 13 ∷ tri 13 0 4 ∷ tri 13 4 8 ∷ tri 8 4 11 ∷ tri 8 11 12 ∷ tri 11 4 1 ∷ tri 11 1 7 ∷ tri 11 7 10 ∷ []) (0 ∷ 1 ∷ 2 ∷ 3 ∷ 4 ∷ 5 ∷ 6 ∷ 7 ∷ 8 ∷ 9 ∷ 1 ∷ 4 ∷ 0 ∷ 0 ∷ [])
  pub case_41 : made_of (flat 11 (tri 0 3 1 ∷ tri 2 9 0 ∷ tri 1 3 8 ∷ tri 2 0 1 ∷ tri 3 0 9 ∷ tri 10 6 4 ∷ tri 7 6 10 ∷ tri 3 9 8 ∷ tri 9 2 1 ∷ tri 7 5 4 ∷ tri 9 1 8 ∷ tri 10 5 7 ∷ tri 5 10 4 ∷ tri 4 6 7 ∷ [])) (0 ∷ 0 ∷ 0 ∷ 71 ∷ 1 ∷ 1 ∷ 0 ∷ 0 ∷ 0 ∷ 6 ∷ 4 ∷ 161 ∷ 16 ∷ 176 ∷ 128 ∷ 0 ∷ 0 ∷ 0 ∷ 0 ∷ 0 ∷ 0 ∷ 0 ∷ 0 ∷ 0 ∷ 0 ∷ 0 ∷ 0 ∷ 0 ∷ 0 ∷ 0 ∷ 0 ∷ 0 ∷ 0 ∷ 0 ∷ 0 ∷ 0 ∷ 0 ∷ 0 ∷ 0 ∷ 0 ∷ 0 ∷ 0 ∷ 0 ∷ 0 ∷ 0 ∷ 0 ∷ 0 ∷ 0 ∷ 0 ∷ 0 ∷ 0 ∷ 0 ∷ 0 ∷ 0 ∷ 0 ∷ 0 ∷ 0 ∷ 0 ∷ 0 ∷ 0 ∷ 0 ∷ 0 ∷ 0 ∷ 0 ∷ 0 ∷ 0 ∷ 0 ∷ 0 ∷ 0 ∷ 0 ∷ 0 ∷ 0 ∷ 0 ∷ 0 ∷ 0 ∷ []) ≡ split_of (tri 0 3 1 ∷ tri 2 9 0 ∷ tri 1 12 8 ∷ tri 2 0 1 ∷ tri 3 0 9 ∷ tri 10 6 4 ∷ tri 7 6 10 ∷ tri 12 11 8 ∷ tri 11 2 1 ∷ tri 7 5 4 ∷ tri 11 1 8 ∷ tri 10 5 13 ∷ tri 5 10 4 ∷ tri 4 6 7 ∷ tri 1 3 12 ∷ tri 12 3 2 ∷ tri 12 2 11 ∷ tri 2 3 9 ∷ tri 5 7 13 ∷ tri 13 7 10 ∷ []) (0 ∷ 1 ∷ 2 ∷ 3 ∷ 4 ∷ 5 ∷ 6 ∷ 7 ∷ 8 ∷ 9 ∷ 10 ∷ 9 ∷ 3 ∷ 7 ∷ [])
  pub case_42 : told_of (flat 11 (tri 6 10 9 ∷ tri 7 4 3 ∷ tri 8 10 5 ∷ tri 5 1 4 ∷ tri 4 1 0 ∷ tri 2 5 3 ∷ tri 7 2 8 ∷ tri 9 8 2 ∷ tri 9 3 4 ∷ tri 7 10 1 ∷ tri 1 6 0 ∷ tri 7 3 10 ∷ tri 4 0 9 ∷ tri 10 6 1 ∷ tri 4 7 8 ∷ tri 1 5 2 ∷ tri 9 10 8 ∷ tri 3 5 10 ∷ tri 2 3 9 ∷ tri 0 6 9 ∷ tri 1 2 7 ∷ tri 4 8 5 ∷ [])) (0 ∷ 0 ∷ 0 ∷ 83 ∷ 1 ∷ 1 ∷ 0 ∷ 0 ∷ 0 ∷ 0 ∷ 66 ∷ 48 ∷ 8 ∷ 0 ∷ 128 ∷ 0 ∷ 0 ∷ 0 ∷ 0 ∷ 0 ∷ 0 ∷ 0 ∷ 0 ∷ 0 ∷ 0 ∷ 0 ∷ 0 ∷ 0 ∷ 0 ∷ 0 ∷ 0 ∷ 0 ∷ 0 ∷ 0 ∷ 0 ∷ 0 ∷ 0 ∷ 0 ∷ 0 ∷ 0 ∷ 0 ∷ 0 ∷ 0 ∷ 0 ∷ 0 ∷ 0 ∷ 0 ∷ 0 ∷ 0 ∷ 0 ∷ 0 ∷ 0 ∷ 0 ∷ 0 ∷ 0 ∷ 0 ∷ 0 ∷ 0 ∷ 0 ∷ 0 ∷ 0 ∷ 0 ∷ 0 ∷ 0 ∷ 0 ∷ 0 ∷ 0 ∷ 0 ∷ 0 ∷ 0 ∷ 0 ∷ 0 ∷ 0 ∷ 0 ∷ 0 ∷ 0 ∷ 0 ∷ 0 ∷ 0 ∷ 0 ∷ 0 ∷ 0 ∷ 0 ∷ 0 ∷ 0 ∷ 0 ∷ 0 ∷ []) ≡ Some (tells 27 3 9)
  pub case_43 : made_of (flat 15 (tri 3 13 14 ∷ tri 12 11 3 ∷ tri 14 13 9 ∷ tri 4 1 0 ∷ tri 5 9 8 ∷ tri 12 3 2 ∷ tri 10 0 7 ∷ tri 7 8 9 ∷ tri 3 0 2 ∷ tri 9 0 14 ∷ tri 10 9 13 ∷ tri 7 6 8 ∷ tri 2 0 12 ∷ tri 3 11 13 ∷ tri 4 9 5 ∷ tri 12 0 11 ∷ tri 5 1 4 ∷ tri 1 8 6 ∷ tri 14 0 3 ∷ tri 11 0 10 ∷ tri 1 6 7 ∷ tri 9 4 0 ∷ tri 13 11 10 ∷ tri 7 0 1 ∷ tri 7 9 10 ∷ tri 1 5 8 ∷ [])) (0 ∷ 0 ∷ 0 ∷ 36 ∷ 1 ∷ 1 ∷ 0 ∷ 0 ∷ 0 ∷ 2 ∷ 0 ∷ 0 ∷ 0 ∷ 1 ∷ 128 ∷ 128 ∷ 0 ∷ 0 ∷ 0 ∷ 0 ∷ 0 ∷ 0 ∷ 0 ∷ 0 ∷ 0 ∷ 0 ∷ 0 ∷ 0 ∷ 0 ∷ 0 ∷ 0 ∷ 0 ∷ 0 ∷ 0 ∷ 0 ∷ 0 ∷ 0 ∷ 0 ∷ 0 ∷ 0 ∷ []) ≡ split_of (tri 3 13 14 ∷ tri 12 11 3 ∷ tri 14 13 15 ∷ tri 4 1 0 ∷ tri 5 15 8 ∷ tri 12 3 2 ∷ tri 10 0 7 ∷ tri 7 8 15 ∷ tri 3 0 2 ∷ tri 15 0 14 ∷ tri 10 9 13 ∷ tri 7 6 8 ∷ tri 2 0 12 ∷ tri 3 11 13 ∷ tri 4 15 5 ∷ tri 12 0 11 ∷ tri 5 1 4 ∷ tri 1 8 6 ∷ tri 14 0 3 ∷ tri 11 0 10 ∷ tri 1 6 7 ∷ tri 15 4 0 ∷ tri 13 11 10 ∷ tri 7 0 1 ∷ tri 7 15 10 ∷ tri 1 5 8 ∷ tri 10 15 9 ∷ tri 15 13 9 ∷ []) (0 ∷ 1 ∷ 2 ∷ 3 ∷ 4 ∷ 5 ∷ 6 ∷ 7 ∷ 8 ∷ 9 ∷ 10 ∷ 11 ∷ 12 ∷ 13 ∷ 14 ∷ 9 ∷ [])
  pub case_44 : made_of (flat 12 (tri 10 4 5 ∷ tri 8 9 1 ∷ tri 11 9 0 ∷ tri 10 6 4 ∷ tri 3 9 8 ∷ tri 8 1 3 ∷ tri 4 7 5 ∷ tri 6 10 7 ∷ tri 11 2 1 ∷ tri 2 11 0 ∷ tri 11 1 9 ∷ tri 9 3 0 ∷ tri 0 3 1 ∷ tri 1 2 0 ∷ tri 4 6 7 ∷ tri 7 10 5 ∷ [])) (0 ∷ 0 ∷ 0 ∷ 71 ∷ 1 ∷ 1 ∷ 0 ∷ 0 ∷ 0 ∷ 6 ∷ 69 ∷ 8 ∷ 1 ∷ 148 ∷ 64 ∷ 0 ∷ 0 ∷ 0 ∷ 0 ∷ 0 ∷ 0 ∷ 0 ∷ 0 ∷ 0 ∷ 0 ∷ 0 ∷ 0 ∷ 0 ∷ 0 ∷ 0 ∷ 0 ∷ 0 ∷ 0 ∷ 0 ∷ 0 ∷ 0 ∷ 0 ∷ 0 ∷ 0 ∷ 0 ∷ 0 ∷ 0 ∷ 0 ∷ 0 ∷ 0 ∷ 0 ∷ 0 ∷ 0 ∷ 0 ∷ 0 ∷ 0 ∷ 0 ∷ 0 ∷ 0 ∷ 0 ∷ 0 ∷ 0 ∷ 0 ∷ 0 ∷ 0 ∷ 0 ∷ 0 ∷ 0 ∷ 0 ∷ 0 ∷ 0 ∷ 0 ∷ 0 ∷ 0 ∷ 0 ∷ 0 ∷ 0 ∷ 0 ∷ 0 ∷ 0 ∷ []) ≡ split_of (tri 10 4 5 ∷ tri 8 9 1 ∷ tri 11 14 0 ∷ tri 10 6 4 ∷ tri 3 9 8 ∷ tri 8 12 3 ∷ tri 4 7 5 ∷ tri 6 10 7 ∷ tri 11 2 1 ∷ tri 2 11 0 ∷ tri 11 1 9 ∷ tri 14 3 0 ∷ tri 0 3 12 ∷ tri 12 13 0 ∷ tri 4 6 7 ∷ tri 7 10 5 ∷ tri 0 13 2 ∷ tri 13 1 2 ∷ tri 13 8 1 ∷ tri 13 12 8 ∷ tri 3 11 9 ∷ tri 3 14 11 ∷ []) (0 ∷ 1 ∷ 2 ∷ 3 ∷ 4 ∷ 5 ∷ 6 ∷ 7 ∷ 8 ∷ 9 ∷ 10 ∷ 11 ∷ 1 ∷ 2 ∷ 9 ∷ [])
  pub case_45 : told_of (flat 4 (tri 1 0 3 ∷ tri 1 3 2 ∷ tri 1 2 0 ∷ tri 0 2 3 ∷ [])) (0 ∷ 0 ∷ 0 ∷ 44 ∷ 1 ∷ 1 ∷ 0 ∷ 0 ∷ 0 ∷ 4 ∷ 112 ∷ 176 ∷ 0 ∷ 0 ∷ 0 ∷ 0 ∷ 0 ∷ 0 ∷ 0 ∷ 0 ∷ 0 ∷ 0 ∷ 0 ∷ 0 ∷ 0 ∷ 0 ∷ 0 ∷ 0 ∷ 0 ∷ 0 ∷ 0 ∷ 0 ∷ 0 ∷ 0 ∷ 0 ∷ 0 ∷ 0 ∷ 0 ∷ 0 ∷ 0 ∷ 0 ∷ 0 ∷ 0 ∷ 0 ∷ 0 ∷ 0 ∷ 0 ∷ 0 ∷ []) ≡ Some (tells 33 4 5)
  pub case_46 : made_of (flat 6 (tri 4 1 0 ∷ tri 1 2 0 ∷ tri 1 4 5 ∷ tri 2 5 3 ∷ tri 2 3 0 ∷ tri 4 3 5 ∷ tri 3 4 0 ∷ tri 5 2 1 ∷ [])) (0 ∷ 0 ∷ 0 ∷ 33 ∷ 1 ∷ 1 ∷ 0 ∷ 0 ∷ 0 ∷ 2 ∷ 2 ∷ 32 ∷ 64 ∷ 0 ∷ 0 ∷ 0 ∷ 0 ∷ 0 ∷ 0 ∷ 0 ∷ 0 ∷ 0 ∷ 0 ∷ 0 ∷ 0 ∷ 0 ∷ 0 ∷ 0 ∷ 0 ∷ 0 ∷ 0 ∷ 0 ∷ 0 ∷ 0 ∷ 0 ∷ 0 ∷ 0 ∷ []) ≡ split_of (tri 4 1 0 ∷ tri 1 2 0 ∷ tri 1 4 5 ∷ tri 2 6 3 ∷ tri 2 3 0 ∷ tri 4 3 5 ∷ tri 3 4 0 ∷ tri 6 2 1 ∷ tri 1 5 3 ∷ tri 1 3 6 ∷ []) (0 ∷ 1 ∷ 2 ∷ 3 ∷ 4 ∷ 5 ∷ 5 ∷ [])
  pub case_47 : made_of (flat 8 (tri 7 5 4 ∷ tri 2 0 1 ∷ tri 3 1 0 ∷ tri 5 6 4 ∷ tri 6 5 7 ∷ tri 3 0 2 ∷ tri 1 3 2 ∷ tri 6 7 4 ∷ [])) (0 ∷ 0 ∷ 0 ∷ 82 ∷ 1 ∷ 1 ∷ 0 ∷ 0 ∷ 0 ∷ 8 ∷ 45 ∷ 192 ∷ 176 ∷ 164 ∷ 0 ∷ 0 ∷ 0 ∷ 0 ∷ 0 ∷ 0 ∷ 0 ∷ 0 ∷ 0 ∷ 0 ∷ 0 ∷ 0 ∷ 0 ∷ 0 ∷ 0 ∷ 0 ∷ 0 ∷ 0 ∷ 0 ∷ 0 ∷ 0 ∷ 0 ∷ 0 ∷ 0 ∷ 0 ∷ 0 ∷ 0 ∷ 0 ∷ 0 ∷ 0 ∷ 0 ∷ 0 ∷ 0 ∷ 0 ∷ 0 ∷ 0 ∷ 0 ∷ 0 ∷ 0 ∷ 0 ∷ 0 ∷ 0 ∷ 0 ∷ 0 ∷ 0 ∷ 0 ∷ 0 ∷ 0 ∷ 0 ∷ 0 ∷ 0 ∷ 0 ∷ 0 ∷ 0 ∷ 0 ∷ 0 ∷ 0 ∷ 0 ∷ 0 ∷ 0 ∷ 0 ∷ 0 ∷ 0 ∷ 0 ∷ 0 ∷ 0 ∷ 0 ∷ 0 ∷ 0 ∷ 0 ∷ 0 ∷ 0 ∷ []) ≡ split_of (tri 7 5 4 ∷ tri 2 0 1 ∷ tri 3 1 0 ∷ tri 5 6 4 ∷ tri 11 5 7 ∷ tri 9 0 2 ∷ tri 1 8 2 ∷ tri 11 7 10 ∷ tri 0 9 3 ∷ tri 9 8 3 ∷ tri 9 2 8 ∷ tri 8 1 3 ∷ tri 5 11 6 ∷ tri 11 10 6 ∷ tri 10 4 6 ∷ tri 10 7 4 ∷ []) (0 ∷ 1 ∷ 2 ∷ 3 ∷ 4 ∷ 5 ∷ 6 ∷ 7 ∷ 3 ∷ 3 ∷ 4 ∷ 6 ∷ [])
  pub case_48 : made_of (flat 9 (tri 5 3 2 ∷ tri 4 5 1 ∷ tri 6 7 3 ∷ tri 5 8 6 ∷ tri 7 8 4 ∷ tri 6 0 1 ∷ tri 2 7 1 ∷ tri 2 1 5 ∷ tri 8 0 6 ∷ tri 4 8 5 ∷ tri 7 2 8 ∷ tri 2 0 8 ∷ tri 6 1 7 ∷ tri 1 0 4 ∷ tri 3 7 4 ∷ tri 3 4 0 ∷ tri 5 6 3 ∷ tri 3 0 2 ∷ [])) (0 ∷ 0 ∷ 0 ∷ 85 ∷ 1 ∷ 1 ∷ 0 ∷ 0 ∷ 0 ∷ 10 ∷ 0 ∷ 101 ∷ 18 ∷ 0 ∷ 171 ∷ 92 ∷ 0 ∷ 0 ∷ 0 ∷ 0 ∷ 0 ∷ 0 ∷ 0 ∷ 0 ∷ 0 ∷ 0 ∷ 0 ∷ 0 ∷ 0 ∷ 0 ∷ 0 ∷ 0 ∷ 0 ∷ 0 ∷ 0 ∷ 0 ∷ 0 ∷ 0 ∷ 0 ∷ 0 ∷ 0 ∷ 0 ∷ 0 ∷ 0 ∷ 0 ∷ 0 ∷ 0 ∷ 0 ∷ 0 ∷ 0 ∷ 0 ∷ 0 ∷ 0 ∷ 0 ∷ 0 ∷ 0 ∷ 0 ∷ 0 ∷ 0 ∷ 0 ∷ 0 ∷ 0 ∷ 0 ∷ 0 ∷ 0 ∷ 0 ∷ 0 ∷ 0 ∷ 0 ∷ 0 ∷ 0 ∷ 0 ∷ 0 ∷ 0 ∷ 0 ∷ 0 ∷ 0 ∷ 0 ∷ 0 ∷ 0 ∷ 0 ∷ 0 ∷ 0 ∷ 0 ∷ 0 ∷ 0 ∷ 0 ∷ 0 ∷ 0 ∷ []) ≡ split_of (tri 10 3 2 ∷ tri 9 10 1 ∷ tri 11 13 3 ∷ tri 5 8 6 ∷ tri 13 8 4 ∷ tri 6 0 1 ∷ tri 2 7 1 ∷ tri 2 1 10 ∷ tri 8 0 6 ∷ tri 4 8 5 ∷ tri 13 2 8 ∷ tri 2 0 8 ∷ tri 11 12 13 ∷ tri 1 0 9 ∷ tri 3 13 4 ∷ tri 3 9 0 ∷ tri 10 11 3 ∷ tri 3 0 2 ∷ tri 2 13 7 ∷ tri 13 12 7 ∷ tri 12 11 7 ∷ tri 11 6 7 ∷ tri 11 5 6 ∷ tri 11 4 5 ∷ tri 11 9 4 ∷ tri 11 10 9 ∷ tri 9 3 4 ∷ tri 6 1 7 ∷ []) (0 ∷ 1 ∷ 2 ∷ 3 ∷ 4 ∷ 5 ∷ 6 ∷ 7 ∷ 8 ∷ 4 ∷ 5 ∷ 6 ∷ 1 ∷ 7 ∷ [])
  pub case_49 : made_of (flat 10 (tri 7 8 0 ∷ tri 5 2 0 ∷ tri 1 0 4 ∷ tri 8 9 0 ∷ tri 0 9 5 ∷ tri 2 5 3 ∷ tri 6 8 7 ∷ tri 8 5 9 ∷ tri 0 2 3 ∷ tri 3 4 0 ∷ tri 6 7 1 ∷ tri 1 7 0 ∷ tri 1 4 5 ∷ tri 1 8 6 ∷ tri 1 5 8 ∷ tri 4 3 5 ∷ [])) (0 ∷ 0 ∷ 0 ∷ 58 ∷ 1 ∷ 1 ∷ 0 ∷ 0 ∷ 0 ∷ 4 ∷ 68 ∷ 192 ∷ 0 ∷ 72 ∷ 0 ∷ 0 ∷ 0 ∷ 0 ∷ 0 ∷ 0 ∷ 0 ∷ 0 ∷ 0 ∷ 0 ∷ 0 ∷ 0 ∷ 0 ∷ 0 ∷ 0 ∷ 0 ∷ 0 ∷ 0 ∷ 0 ∷ 0 ∷ 0 ∷ 0 ∷ 0 ∷ 0 ∷ 0 ∷ 0 ∷ 0 ∷ 0 ∷ 0 ∷ 0 ∷ 0 ∷ 0 ∷ 0 ∷ 0 ∷ 0 ∷ 0 ∷ 0 ∷ 0 ∷ 0 ∷ 0 ∷ 0 ∷ 0 ∷ 0 ∷ 0 ∷ 0 ∷ 0 ∷ 0 ∷ 0 ∷ []) ≡ split_of (tri 7 8 0 ∷ tri 5 2 0 ∷ tri 1 10 4 ∷ tri 8 9 0 ∷ tri 0 9 5 ∷ tri 2 5 3 ∷ tri 6 8 7 ∷ tri 8 5 9 ∷ tri 10 2 3 ∷ tri 3 4 10 ∷ tri 6 7 1 ∷ tri 1 7 10 ∷ tri 11 4 5 ∷ tri 1 8 6 ∷ tri 1 5 8 ∷ tri 4 3 5 ∷ tri 2 7 0 ∷ tri 2 10 7 ∷ tri 4 11 1 ∷ tri 11 5 1 ∷ []) (0 ∷ 1 ∷ 2 ∷ 3 ∷ 4 ∷ 5 ∷ 6 ∷ 7 ∷ 8 ∷ 9 ∷ 0 ∷ 1 ∷ [])
  pub case_50 : made_of (flat 11 (tri 10 7 6 ∷ tri 5 10 4 ∷ tri 1 3 8 ∷ tri 1 8 9 ∷ tri 6 4 10 ∷ tri 5 7 10 ∷ tri 3 0 9 ∷ tri 2 1 9 ∷ tri 0 2 9 ∷ tri 0 3 1 ∷ tri 0 1 2 ∷ tri 9 8 3 ∷ tri 5 4 7 ∷ tri 6 7 4 ∷ [])) (0 ∷ 0 ∷ 0 ∷ 83 ∷ 1 ∷ 1 ∷ 0 ∷ 0 ∷ 0 ∷ 8 ∷ 80 ∷ 18 ∷ 80 ∷ 139 ∷ 24 ∷ 0 ∷ 0 ∷ 0 ∷ 0 ∷ 0 ∷ 0 ∷ 0 ∷ 0 ∷ 0 ∷ 0 ∷ 0 ∷ 0 ∷ 0 ∷ 0 ∷ 0 ∷ 0 ∷ 0 ∷ 0 ∷ 0 ∷ 0 ∷ 0 ∷ 0 ∷ 0 ∷ 0 ∷ 0 ∷ 0 ∷ 0 ∷ 0 ∷ 0 ∷ 0 ∷ 0 ∷ 0 ∷ 0 ∷ 0 ∷ 0 ∷ 0 ∷ 0 ∷ 0 ∷ 0 ∷ 0 ∷ 0 ∷ 0 ∷ 0 ∷ 0 ∷ 0 ∷ 0 ∷ 0 ∷ 0 ∷ 0 ∷ 0 ∷ 0 ∷ 0 ∷ 0 ∷ 0 ∷ 0 ∷ 0 ∷ 0 ∷ 0 ∷ 0 ∷ 0 ∷ 0 ∷ 0 ∷ 0 ∷ 0 ∷ 0 ∷ 0 ∷ 0 ∷ 0 ∷ 0 ∷ 0 ∷ 0 ∷ 0 ∷ []) ≡ split_of (tri 13 12 6 ∷ tri 5 10 4 ∷ tri 1 3 8 ∷ tri 1 8 9 ∷ tri 6 14 13 ∷ tri 5 7 10 ∷ tri 3 11 9 ∷ tri 2 1 9 ∷ tri 0 2 9 ∷ tri 11 3 1 ∷ tri 11 1 2 ∷ tri 9 8 3 ∷ tri 5 14 7 ∷ tri 6 7 14 ∷ tri 2 0 11 ∷ tri 11 0 9 ∷ tri 5 4 14 ∷ tri 14 4 12 ∷ tri 14 12 13 ∷ tri 12 4 10 ∷ tri 12 10 6 ∷ tri 6 10 7 ∷ []) (0 ∷ 1 ∷ 2 ∷ 3 ∷ 4 ∷ 5 ∷ 6 ∷ 7 ∷ 8 ∷ 9 ∷ 10 ∷ 0 ∷ 7 ∷ 10 ∷ 4 ∷ [])
  pub case_51 : made_of (flat 11 (tri 1 2 7 ∷ tri 4 7 8 ∷ tri 3 10 7 ∷ tri 2 3 9 ∷ tri 4 9 3 ∷ tri 6 9 0 ∷ tri 9 8 2 ∷ tri 9 10 8 ∷ tri 8 10 5 ∷ tri 0 1 6 ∷ tri 5 1 4 ∷ tri 1 7 10 ∷ tri 2 5 3 ∷ tri 4 0 9 ∷ tri 3 5 10 ∷ tri 9 6 10 ∷ tri 6 1 10 ∷ tri 4 8 5 ∷ tri 3 7 4 ∷ tri 1 5 2 ∷ tri 1 0 4 ∷ tri 8 7 2 ∷ [])) (0 ∷ 0 ∷ 0 ∷ 36 ∷ 1 ∷ 1 ∷ 0 ∷ 0 ∷ 0 ∷ 2 ∷ 0 ∷ 0 ∷ 16 ∷ 0 ∷ 128 ∷ 128 ∷ 0 ∷ 0 ∷ 0 ∷ 0 ∷ 0 ∷ 0 ∷ 0 ∷ 0 ∷ 0 ∷ 0 ∷ 0 ∷ 0 ∷ 0 ∷ 0 ∷ 0 ∷ 0 ∷ 0 ∷ 0 ∷ 0 ∷ 0 ∷ 0 ∷ 0 ∷ 0 ∷ 0 ∷ []) ≡ split_of (tri 1 2 7 ∷ tri 4 7 8 ∷ tri 3 10 7 ∷ tri 2 3 9 ∷ tri 4 9 3 ∷ tri 6 9 0 ∷ tri 9 8 2 ∷ tri 9 11 8 ∷ tri 8 11 5 ∷ tri 0 1 6 ∷ tri 5 1 4 ∷ tri 1 7 10 ∷ tri 2 5 3 ∷ tri 4 0 9 ∷ tri 3 5 11 ∷ tri 9 6 10 ∷ tri 6 1 10 ∷ tri 4 8 5 ∷ tri 3 7 4 ∷ tri 1 5 2 ∷ tri 1 0 4 ∷ tri 8 7 2 ∷ tri 3 11 10 ∷ tri 11 9 10 ∷ []) (0 ∷ 1 ∷ 2 ∷ 3 ∷ 4 ∷ 5 ∷ 6 ∷ 7 ∷ 8 ∷ 9 ∷ 10 ∷ 10 ∷ [])
  pub case_52 : made_of (flat 15 (tri 12 11 3 ∷ tri 13 14 3 ∷ tri 7 8 9 ∷ tri 7 0 1 ∷ tri 6 8 7 ∷ tri 1 5 8 ∷ tri 12 2 0 ∷ tri 8 6 1 ∷ tri 4 1 0 ∷ tri 10 7 9 ∷ tri 5 1 4 ∷ tri 8 5 9 ∷ tri 9 14 13 ∷ tri 12 3 2 ∷ tri 5 4 9 ∷ tri 13 3 11 ∷ tri 1 6 7 ∷ tri 3 14 0 ∷ tri 10 13 11 ∷ tri 11 0 10 ∷ tri 14 9 0 ∷ tri 9 13 10 ∷ tri 0 7 10 ∷ tri 0 9 4 ∷ tri 2 3 0 ∷ tri 12 0 11 ∷ [])) (0 ∷ 0 ∷ 0 ∷ 98 ∷ 1 ∷ 1 ∷ 0 ∷ 0 ∷ 0 ∷ 10 ∷ 32 ∷ 128 ∷ 2 ∷ 2 ∷ 104 ∷ 156 ∷ 71 ∷ 0 ∷ 0 ∷ 0 ∷ 0 ∷ 0 ∷ 0 ∷ 0 ∷ 0 ∷ 0 ∷ 0 ∷ 0 ∷ 0 ∷ 0 ∷ 0 ∷ 0 ∷ 0 ∷ 0 ∷ 0 ∷ 0 ∷ 0 ∷ 0 ∷ 0 ∷ 0 ∷ 0 ∷ 0 ∷ 0 ∷ 0 ∷ 0 ∷ 0 ∷ 0 ∷ 0 ∷ 0 ∷ 0 ∷ 0 ∷ 0 ∷ 0 ∷ 0 ∷ 0 ∷ 0 ∷ 0 ∷ 0 ∷ 0 ∷ 0 ∷ 0 ∷ 0 ∷ 0 ∷ 0 ∷ 0 ∷ 0 ∷ 0 ∷ 0 ∷ 0 ∷ 0 ∷ 0 ∷ 0 ∷ 0 ∷ 0 ∷ 0 ∷ 0 ∷ 0 ∷ 0 ∷ 0 ∷ 0 ∷ 0 ∷ 0 ∷ 0 ∷ 0 ∷ 0 ∷ 0 ∷ 0 ∷ 0 ∷ 0 ∷ 0 ∷ 0 ∷ 0 ∷ 0 ∷ 0 ∷ 0 ∷ 0 ∷ 0 ∷ 0 ∷ 0 ∷ 0 ∷ 0 ∷ 0 ∷ []) ≡ split_of (tri 16 15 3 ∷ tri 13 14 3 ∷ tri 7 8 18 ∷ tri 7 0 1 ∷ tri 6 8 7 ∷ tri 1 5 8 ∷ tri 16 2 17 ∷ tri 8 6 1 ∷ tri 4 1 0 ∷ tri 10 7 18 ∷ tri 5 1 4 ∷ tri 8 5 9 ∷ tri 18 14 13 ∷ tri 16 3 2 ∷ tri 5 4 9 ∷ tri 13 3 15 ∷ tri 1 6 7 ∷ tri 3 14 0 ∷ tri 10 13 15 ∷ tri 11 0 10 ∷ tri 14 19 0 ∷ tri 18 13 10 ∷ tri 0 7 10 ∷ tri 0 19 4 ∷ tri 2 3 17 ∷ tri 12 0 11 ∷ tri 3 0 17 ∷ tri 17 0 12 ∷ tri 17 12 15 ∷ tri 17 15 16 ∷ tri 15 12 11 ∷ tri 15 11 10 ∷ tri 4 8 9 ∷ tri 4 14 8 ∷ tri 4 19 14 ∷ tri 14 18 8 ∷ []) (0 ∷ 1 ∷ 2 ∷ 3 ∷ 4 ∷ 5 ∷ 6 ∷ 7 ∷ 8 ∷ 9 ∷ 10 ∷ 11 ∷ 12 ∷ 13 ∷ 14 ∷ 11 ∷ 12 ∷ 0 ∷ 9 ∷ 9 ∷ [])
  pub case_53 : made_of (flat 12 (tri 4 10 6 ∷ tri 11 0 2 ∷ tri 5 4 7 ∷ tri 0 3 1 ∷ tri 4 6 7 ∷ tri 5 7 10 ∷ tri 9 3 0 ∷ tri 1 9 11 ∷ tri 8 3 9 ∷ tri 1 3 8 ∷ tri 6 10 7 ∷ tri 11 9 0 ∷ tri 1 2 0 ∷ tri 8 9 1 ∷ tri 5 10 4 ∷ tri 1 11 2 ∷ [])) (0 ∷ 0 ∷ 0 ∷ 34 ∷ 1 ∷ 1 ∷ 0 ∷ 0 ∷ 0 ∷ 2 ∷ 8 ∷ 32 ∷ 0 ∷ 128 ∷ 0 ∷ 0 ∷ 0 ∷ 0 ∷ 0 ∷ 0 ∷ 0 ∷ 0 ∷ 0 ∷ 0 ∷ 0 ∷ 0 ∷ 0 ∷ 0 ∷ 0 ∷ 0 ∷ 0 ∷ 0 ∷ 0 ∷ 0 ∷ 0 ∷ 0 ∷ 0 ∷ 0 ∷ []) ≡ split_of (tri 4 10 6 ∷ tri 11 0 2 ∷ tri 5 4 7 ∷ tri 0 3 1 ∷ tri 4 6 7 ∷ tri 5 7 10 ∷ tri 9 3 0 ∷ tri 1 9 12 ∷ tri 8 3 9 ∷ tri 1 3 8 ∷ tri 6 10 7 ∷ tri 12 9 0 ∷ tri 1 2 0 ∷ tri 8 9 1 ∷ tri 5 10 4 ∷ tri 1 12 2 ∷ tri 0 11 12 ∷ tri 12 11 2 ∷ []) (0 ∷ 1 ∷ 2 ∷ 3 ∷ 4 ∷ 5 ∷ 6 ∷ 7 ∷ 8 ∷ 9 ∷ 10 ∷ 11 ∷ 11 ∷ [])
  pub case_54 : told_of (flat 4 (tri 2 1 3 ∷ tri 2 3 0 ∷ tri 3 1 0 ∷ tri 1 2 0 ∷ [])) (0 ∷ 0 ∷ 0 ∷ 32 ∷ 1 ∷ 1 ∷ 0 ∷ 0 ∷ 0 ∷ 2 ∷ 136 ∷ 64 ∷ 0 ∷ 0 ∷ 0 ∷ 0 ∷ 0 ∷ 0 ∷ 0 ∷ 0 ∷ 0 ∷ 0 ∷ 0 ∷ 0 ∷ 0 ∷ 0 ∷ 0 ∷ 0 ∷ 0 ∷ 0 ∷ 0 ∷ 0 ∷ 0 ∷ 0 ∷ 0 ∷ 0 ∷ []) ≡ Some (tells 33 4 4)
  pub case_55 : made_of (flat 6 (tri 3 2 5 ∷ tri 1 2 0 ∷ tri 0 2 3 ∷ tri 0 3 4 ∷ tri 2 1 5 ∷ tri 4 3 5 ∷ tri 5 1 4 ∷ tri 4 1 0 ∷ [])) (0 ∷ 0 ∷ 0 ∷ 45 ∷ 1 ∷ 1 ∷ 0 ∷ 0 ∷ 0 ∷ 4 ∷ 8 ∷ 160 ∷ 152 ∷ 0 ∷ 0 ∷ 0 ∷ 0 ∷ 0 ∷ 0 ∷ 0 ∷ 0 ∷ 0 ∷ 0 ∷ 0 ∷ 0 ∷ 0 ∷ 0 ∷ 0 ∷ 0 ∷ 0 ∷ 0 ∷ 0 ∷ 0 ∷ 0 ∷ 0 ∷ 0 ∷ 0 ∷ 0 ∷ 0 ∷ 0 ∷ 0 ∷ 0 ∷ 0 ∷ 0 ∷ 0 ∷ 0 ∷ 0 ∷ 0 ∷ 0 ∷ []) ≡ split_of (tri 3 2 5 ∷ tri 1 2 0 ∷ tri 0 2 3 ∷ tri 0 3 4 ∷ tri 7 1 6 ∷ tri 4 3 6 ∷ tri 6 1 4 ∷ tri 4 1 0 ∷ tri 1 7 2 ∷ tri 7 5 2 ∷ tri 7 6 5 ∷ tri 6 3 5 ∷ []) (0 ∷ 1 ∷ 2 ∷ 3 ∷ 4 ∷ 5 ∷ 5 ∷ 2 ∷ [])
  pub case_56 : made_of (flat 8 (tri 7 6 5 ∷ tri 7 5 4 ∷ tri 1 3 2 ∷ tri 0 3 1 ∷ tri 6 4 5 ∷ tri 6 7 4 ∷ tri 0 2 3 ∷ tri 1 2 0 ∷ [])) (0 ∷ 0 ∷ 0 ∷ 82 ∷ 1 ∷ 1 ∷ 0 ∷ 0 ∷ 0 ∷ 8 ∷ 198 ∷ 80 ∷ 104 ∷ 164 ∷ 0 ∷ 0 ∷ 0 ∷ 0 ∷ 0 ∷ 0 ∷ 0 ∷ 0 ∷ 0 ∷ 0 ∷ 0 ∷ 0 ∷ 0 ∷ 0 ∷ 0 ∷ 0 ∷ 0 ∷ 0 ∷ 0 ∷ 0 ∷ 0 ∷ 0 ∷ 0 ∷ 0 ∷ 0 ∷ 0 ∷ 0 ∷ 0 ∷ 0 ∷ 0 ∷ 0 ∷ 0 ∷ 0 ∷ 0 ∷ 0 ∷ 0 ∷ 0 ∷ 0 ∷ 0 ∷ 0 ∷ 0 ∷ 0 ∷ 0 ∷ 0 ∷ 0 ∷ 0 ∷ 0 ∷ 0 ∷ 0 ∷ 0 ∷ 0 ∷ 0 ∷ 0 ∷ 0 ∷ 0 ∷ 0 ∷ 0 ∷ 0 ∷ 0 ∷ 0 ∷ 0 ∷ 0 ∷ 0 ∷ 0 ∷ 0 ∷ 0 ∷ 0 ∷ 0 ∷ 0 ∷ 0 ∷ 0 ∷ 0 ∷ []) ≡ split_of (tri 7 6 5 ∷ tri 7 5 4 ∷ tri 1 3 8 ∷ tri 0 3 1 ∷ tri 10 4 11 ∷ tri 10 7 4 ∷ tri 0 2 3 ∷ tri 1 8 9 ∷ tri 1 2 0 ∷ tri 1 9 2 ∷ tri 9 8 2 ∷ tri 8 3 2 ∷ tri 4 5 11 ∷ tri 11 5 10 ∷ tri 10 5 6 ∷ tri 10 6 7 ∷ []) (0 ∷ 1 ∷ 2 ∷ 3 ∷ 4 ∷ 5 ∷ 6 ∷ 7 ∷ 2 ∷ 0 ∷ 6 ∷ 5 ∷ [])
  pub case_57 : told_of (flat 9 (tri 0 8 2 ∷ tri 4 3 7 ∷ tri 0 4 1 ∷ tri 5 3 2 ∷ tri 1 6 0 ∷ tri 1 4 5 ∷ tri 7 6 1 ∷ tri 1 5 2 ∷ tri 3 6 7 ∷ tri 4 7 8 ∷ tri 6 5 8 ∷ tri 0 2 3 ∷ tri 4 0 3 ∷ tri 2 8 7 ∷ tri 1 2 7 ∷ tri 4 8 5 ∷ tri 0 6 8 ∷ tri 5 6 3 ∷ [])) (0 ∷ 0 ∷ 0 ∷ 46 ∷ 1 ∷ 1 ∷ 0 ∷ 0 ∷ 0 ∷ 0 ∷ 16 ∷ 0 ∷ 96 ∷ 0 ∷ 0 ∷ 0 ∷ 0 ∷ 0 ∷ 0 ∷ 0 ∷ 0 ∷ 0 ∷ 0 ∷ 0 ∷ 0 ∷ 0 ∷ 0 ∷ 0 ∷ 0 ∷ 0 ∷ 0 ∷ 0 ∷ 0 ∷ 0 ∷ 0 ∷ 0 ∷ 0 ∷ 0 ∷ 0 ∷ 0 ∷ 0 ∷ 0 ∷ 0 ∷ 0 ∷ 0 ∷ 0 ∷ 0 ∷ 0 ∷ 0 ∷ 0 ∷ []) ≡ Some (tells 27 3 0)
  pub case_58 : made_of (flat 10 (tri 7 6 8 ∷ tri 4 0 3 ∷ tri 1 0 4 ∷ tri 8 5 9 ∷ tri 5 0 9 ∷ tri 0 2 3 ∷ tri 5 8 1 ∷ tri 8 6 1 ∷ tri 1 4 5 ∷ tri 7 1 6 ∷ tri 5 2 0 ∷ tri 5 4 3 ∷ tri 5 3 2 ∷ tri 0 8 9 ∷ tri 0 7 8 ∷ tri 0 1 7 ∷ [])) (0 ∷ 0 ∷ 0 ∷ 46 ∷ 1 ∷ 1 ∷ 0 ∷ 0 ∷ 0 ∷ 4 ∷ 0 ∷ 2 ∷ 96 ∷ 176 ∷ 0 ∷ 0 ∷ 0 ∷ 0 ∷ 0 ∷ 0 ∷ 0 ∷ 0 ∷ 0 ∷ 0 ∷ 0 ∷ 0 ∷ 0 ∷ 0 ∷ 0 ∷ 0 ∷ 0 ∷ 0 ∷ 0 ∷ 0 ∷ 0 ∷ 0 ∷ 0 ∷ 0 ∷ 0 ∷ 0 ∷ 0 ∷ 0 ∷ 0 ∷ 0 ∷ 0 ∷ 0 ∷ 0 ∷ 0 ∷ 0 ∷ 0 ∷ []) ≡ split_of (tri 7 6 8 ∷ tri 4 0 3 ∷ tri 1 0 4 ∷ tri 8 5 9 ∷ tri 5 0 9 ∷ tri 0 2 3 ∷ tri 10 8 1 ∷ tri 8 6 1 ∷ tri 1 4 10 ∷ tri 7 1 6 ∷ tri 5 2 0 ∷ tri 11 4 3 ∷ tri 11 3 2 ∷ tri 0 8 9 ∷ tri 0 7 8 ∷ tri 0 1 7 ∷ tri 2 5 11 ∷ tri 11 5 10 ∷ tri 11 10 4 ∷ tri 10 5 8 ∷ []) (0 ∷ 1 ∷ 2 ∷ 3 ∷ 4 ∷ 5 ∷ 6 ∷ 7 ∷ 8 ∷ 9 ∷ 5 ∷ 5 ∷ [])
  pub case_59 : made_of (flat 11 (tri 0 3 1 ∷ tri 7 4 6 ∷ tri 3 9 8 ∷ tri 7 5 4 ∷ tri 0 2 9 ∷ tri 5 7 10 ∷ tri 9 2 1 ∷ tri 10 6 4 ∷ tri 9 1 8 ∷ tri 2 0 1 ∷ tri 3 0 9 ∷ tri 4 5 10 ∷ tri 8 1 3 ∷ tri 6 10 7 ∷ [])) (0 ∷ 0 ∷ 0 ∷ 58 ∷ 1 ∷ 1 ∷ 0 ∷ 0 ∷ 0 ∷ 4 ∷ 64 ∷ 132 ∷ 64 ∷ 136 ∷ 0 ∷ 0 ∷ 0 ∷ 0 ∷ 0 ∷ 0 ∷ 0 ∷ 0 ∷ 0 ∷ 0 ∷ 0 ∷ 0 ∷ 0 ∷ 0 ∷ 0 ∷ 0 ∷ 0 ∷ 0 ∷ 0 ∷ 0 ∷ 0 ∷ 0 ∷ 0 ∷ 0 ∷ 0 ∷ 0 ∷ 0 ∷ 0 ∷ 0 ∷ 0 ∷ 0 ∷ 0 ∷ 0 ∷ 0 ∷ 0 ∷ 0 ∷ 0 ∷ 0 ∷ 0 ∷ 0 ∷ 0 ∷ 0 ∷ 0 ∷ 0 ∷ 0 ∷ 0 ∷ 0 ∷ 0 ∷ []) ≡ split_of (tri 0 3 1 ∷ tri 7 4 6 ∷ tri 3 9 8 ∷ tri 12 5 4 ∷ tri 0 2 9 ∷ tri 5 12 10 ∷ tri 9 11 1 ∷ tri 10 6 4 ∷ tri 9 1 8 ∷ tri 11 0 1 ∷ tri 3 0 9 ∷ tri 4 5 10 ∷ tri 8 1 3 ∷ tri 6 10 12 ∷ tri 0 11 2 ∷ tri 11 9 2 ∷ tri 4 7 12 ∷ tri 12 7 6 ∷ []) (0 ∷ 1 ∷ 2 ∷ 3 ∷ 4 ∷ 5 ∷ 6 ∷ 7 ∷ 8 ∷ 9 ∷ 10 ∷ 2 ∷ 7 ∷ [])
