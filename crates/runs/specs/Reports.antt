-- What holds of a running job's numbers, and what its report then tells.
use Rattle.std.specs.Prelude.{◌≡◌, ℕ, ◌*◌, ◌≤◌, List}
use Rattle.place.specs.Kinds.{Kind}
use Rattle.mesh.specs.Meshes.{vertex_total, triangle_total}
use Rattle.sheet.specs.Content.{sheet_mesh}
use Rattle.runs.specs.Jobs.{vertices_now, triangles_now}
use Rattle.runs.specs.Outcome.{edge_total}
use Rattle.runs.specs.Calls.{State, Call, report}
use Rattle.runs.specs.Runs.{begun, summed, Run}

-- at the end of a run from a sheet, by these calls
pub record ReportTrue {P D : Type 0} (k : Kind P D) (vertex_room triangle_room : ℕ) (sheet : List ℕ) (calls : List Call) (s : State P) : Type 0 where
  -- the trees are half the forest edges at most, and the counts keep to the limits
  pub half : 2 * s.numbers.trees ≤ s.numbers.forest_edges
  pub few_vertices : vertices_now s.numbers ≤ 16384
  pub few_triangles : triangles_now s.numbers ≤ 32768
  -- the report tells the counts of the store's mesh, and how many splits were accepted
  pub vertices : (report s.numbers).vertices ≡ vertex_total s.mesh
  pub edges : (report s.numbers).edges ≡ edge_total s.mesh
  pub triangles : (report s.numbers).triangles ≡ triangle_total s.mesh
  pub records : (report s.numbers).records ≡ summed (λ m bs. 1) k vertex_room triangle_room (begun (sheet_mesh k sheet)) calls

abbrev pub ReportsTrue : {P D : Type 0} → Kind P D → Type 0
ReportsTrue {P} {D} k = (vertex_room triangle_room : ℕ) (sheet : List ℕ) (calls : List Call) (s : State P) → Run k vertex_room triangle_room sheet calls s → ReportTrue k vertex_room triangle_room sheet calls s
