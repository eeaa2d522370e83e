-- A sheet of the grid written anew, its places kept as floats.
use Rattle.std.proofs.Common.{◌≡◌, ℕ, Bool, cond, List, ◌++◌, length, take, drop, None, sym, ap, ◌∙◌, arith}
use Rattle.std.proofs.lemmas.Bool.{le-leb}
use Rattle.std.proofs.lemmas.List.{append-nil, take_all, drop_all, length-map}
use Rattle.place.specs.declared.float_place.FloatPlace.{FloatPlace}
use Rattle.place.specs.Grids.{grid_kind}
use Rattle.place.specs.Floats.{float_kind}
use Rattle.place.specs.FloatsLemmas.{float_lawful}
use Rattle.mesh.specs.Limits.{counts_fault}
use Rattle.mesh.specs.Meshes.{Mesh, vertex_total, triangle_total}
use Rattle.sheet.specs.Content.{sheet_mesh, sheet_fault}
use Rattle.sheet.specs.ReadBack.{ReadsBack}
use Rattle.sheet.specs.Writing.{sheet_bytes, written_size, sheet_after}
use Rattle.sheet.proofs.Exact.{sheet_exact}
use Rattle.sheet.proofs.Written.{sheet_length}
use Rattle.runs.specs.Statement.{SameBase}
use Rattle.statement.specs.Floats.{vertex_as_floats, mesh_as_floats, sheet_as_floats}

-- a buffer that is as long as the sheet holds the sheet and no more
pub filled : (m : Mesh FloatPlace) (xs out : List ℕ) (long : ℕ) → length xs ≡ long → long ≡ written_size float_kind m → out ≡ sheet_after float_kind m xs → take long (out ++ drop (length out) xs) ≡ sheet_bytes float_kind m
unfolding sheet_after
filled m xs out long l e h =
    let size = written_size float_kind m in
    let bs = sheet_bytes float_kind m in
    let is : out ≡ bs =
    h ∙ (ap (λ (b : Bool). cond b (bs ++ drop size xs) xs) (le-leb _ _ (omega arith)) ∙ (ap (λ ys. bs ++ ys) (drop_all size xs (omega arith)) ∙ append-nil bs)) in
    let same : length out ≡ long = ap length is ∙ (sheet_length float_kind float_lawful m ∙ sym e) in
    ap (take long) (ap (λ ys. out ++ ys) (drop_all (length out) xs (omega arith)) ∙ append-nil out) ∙ (take_all long out (omega arith) ∙ is)

-- a sheet of the grid means as many vertices as what is written of it, and the same triangles
pub same_base : (bs : List ℕ) → sheet_fault grid_kind bs ≡ None
    → (counts_fault (vertex_total (mesh_as_floats (sheet_mesh grid_kind bs))) (triangle_total (sheet_mesh grid_kind bs)) ≡ None → ReadsBack float_kind (mesh_as_floats (sheet_mesh grid_kind bs)))
    → SameBase (sheet_mesh grid_kind bs) (sheet_mesh float_kind (sheet_as_floats bs))
same_base bs e back =
    let m = sheet_mesh grid_kind bs in
    let long = length-map m.vertices vertex_as_floats in
    let r = back (ap (λ n. counts_fault n (triangle_total m)) long ∙ ((sheet_exact grid_kind).0 bs e).1) in
    record {
      vertices = sym long ∙ (sym (length-map (mesh_as_floats m).vertices (λ x. x.place)) ∙ (ap length (sym r.same_places) ∙ length-map (sheet_mesh float_kind (sheet_as_floats bs)).vertices (λ x. x.place)));
      triangles = sym r.same_triangles;
    }
