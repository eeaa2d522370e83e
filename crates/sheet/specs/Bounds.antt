-- Proof that the mesh of a sheet is within the limits. It stands here since the surface shows it by a ghost member, which may not cite proofs/.
use Rattle.std.specs.Prelude.{◌≡◌, ℕ, ◌+◌, ◌≤◌, List, length, Some, None, Option, ◌==◌, nat_le, slice_index, refl}
use Rattle.std.proofs.Common.{arith, eqb-true, leb-true}
use Rattle.std.proofs.lemmas.Bool.{and_parts}
use Rattle.fault.specs.declared.fault.Fault.{Fault}
use Rattle.fault.proofs.Orders.{or_none, test_passed}
use Rattle.place.specs.Kinds.{Kind}
use Rattle.place.specs.Words.{word}
use Rattle.mesh.specs.Limits.{counts_fault}
use Rattle.mesh.specs.Meshes.{InLimits}
use Rattle.mesh.proofs.Bounds.{between_is, counts_none}
use Rattle.std.proofs.lemmas.List.FromFn.{length-map-range_with_len}
use Rattle.sheet.specs.Layout.{vertices_of, triangles_of, sheet_size, length_fault, version_fault, head_fault, layout_fault}
use Rattle.sheet.specs.Content.{triangle_in, vertex_in, count_unless, vertices_in, triangles_in, sheet_mesh}

-- what follows from a right layout
pub record Right {P D : Type 0} (k : Kind P D) (bs : List ℕ) : Type 0 where
  pub long : 14 ≤ length bs
  pub length_field : word bs 0 + 4 ≡ length bs
  pub version : slice_index bs 4 ≡ 1
  pub kind : slice_index bs 5 ≡ k.byte
  pub few_vertices : vertices_of bs ≤ 16384
  pub few_triangles : triangles_of bs ≤ 32768
  pub size : sheet_size k.width (vertices_of bs) (triangles_of bs) ≡ length bs

pub right : {P D : Type 0} (k : Kind P D) (bs : List ℕ) → layout_fault k bs ≡ None → Right k bs
right k bs e =
    let a = or_none (head_fault k.byte bs) _ e in
    let b = or_none (counts_fault (vertices_of bs) (triangles_of bs)) _ a.1 in
    let h = or_none (length_fault bs) _ a.0 in
    let v = or_none (version_fault bs) _ h.1 in
    let l = and_parts (nat_le 14 (length bs)) (word bs 0 + 4 == length bs) (test_passed _ _ h.0) in
    let c = counts_none (vertices_of bs) (triangles_of bs) b.0 in
    record {
      long = leb-true 14 (length bs) l.0;
      length_field = eqb-true (word bs 0 + 4) (length bs) l.1;
      version = eqb-true (slice_index bs 4) 1 (test_passed _ _ v.0);
      kind = eqb-true (slice_index bs 5) k.byte (test_passed _ _ v.1);
      few_vertices = (between_is 3 16384 (vertices_of bs) c.0).1;
      few_triangles = (between_is 2 32768 (triangles_of bs) c.1).1;
      size = eqb-true _ (length bs) (test_passed _ _ b.1);
    }

-- a count is 0, or it is the field of a right layout
count_small : {P D : Type 0} (k : Kind P D) (bs : List ℕ) (n most : ℕ) → (Right k bs → n ≤ most) → count_unless (layout_fault k bs) n ≤ most
count_small k bs n most f = go (layout_fault k bs) refl
  where
    go : (o : Option Fault) → layout_fault k bs ≡ o → count_unless o n ≤ most
    go None e = f (right k bs e)
    go (Some x) e = omega arith

pub few_vertices_in : {P D : Type 0} (k : Kind P D) (bs : List ℕ) → vertices_in k bs ≤ 16384
unfolding vertices_in
few_vertices_in k bs = count_small k bs (vertices_of bs) 16384 (λ r. r.few_vertices)

pub few_triangles_in : {P D : Type 0} (k : Kind P D) (bs : List ℕ) → triangles_in k bs ≤ 32768
unfolding triangles_in
few_triangles_in k bs = count_small k bs (triangles_of bs) 32768 (λ r. r.few_triangles)

pub sheet_limited : {P D : Type 0} (k : Kind P D) (bs : List ℕ) → InLimits (sheet_mesh k bs)
sheet_limited k bs =
    let v = length-map-range_with_len (vertex_in k bs) 0 (vertices_in k bs) in
    let t = length-map-range_with_len (triangle_in k.width bs) 0 (triangles_in k bs) in
    let p = few_vertices_in k bs in
    let q = few_triangles_in k bs in record { few_vertices = omega arith; few_triangles = omega arith }
