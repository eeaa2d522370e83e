-- The base that a base call accepted has counts.
use Rattle.std.proofs.Common.{◌≡◌, ℕ, List, Some, None, Ok, Err, Option, Result, refl, ap, ◌∙◌}
use Rattle.fault.specs.declared.fault.Fault.{Fault}
use Rattle.fault.proofs.Orders.{or_none}
use Rattle.place.specs.Kinds.{Kind}
use Rattle.mesh.specs.Meshes.{Mesh, vertex_total}
use Rattle.survey.specs.declared.counts.Counts.{Counts}
use Rattle.survey.specs.Survey.{counted_unless, surveyed}
use Rattle.sheet.specs.Content.{sheet_mesh, sheet_fault_within}
use Rattle.runs.specs.Jobs.{Numbers, empty_fault, base_fault, base_numbers, base_mesh, base_answer, mesh_unless, numbers_unless}

module _ {P D : Type 0} (k : Kind P D) (vr tr : ℕ) (m : Mesh P) (bs : List ℕ) where
  no_fault : (n : Numbers) → ◌≡◌ {A = Result Numbers Fault} (Ok n) (base_answer k vr tr m bs) → base_fault k vr tr m bs ≡ None
  no_fault n e = go (base_fault k vr tr m bs) e
    where
      go : (o : Option Fault) → ◌≡◌ {A = Result Numbers Fault} (Ok n) (numbers_unless o (base_numbers (sheet_mesh k bs))) → o ≡ None
      go None e = refl
      go (Some f) e = absurd (cc)

  -- so its survey finds no fault
  pub never_uncounted : (n : Numbers) (after : Mesh P) (f : Fault) → ◌≡◌ {A = Result Numbers Fault} (Ok n) (base_answer k vr tr m bs) → after ≡ base_mesh k vr tr m bs
      → ◌≡◌ {A = Result Counts Fault} (Err f) (surveyed (vertex_total after) after.triangles) → ⊥
  never_uncounted n after f e i j =
      let fine = no_fault n e in
      let there : after ≡ sheet_mesh k bs = i ∙ ap (λ (o : Option Fault). mesh_unless o m (sheet_mesh k bs)) fine in
      let sound = (or_none (sheet_fault_within k vr tr bs) _ (or_none (empty_fault m) _ fine).1).1 in
      let told = j ∙ ap (λ (x : Mesh P). surveyed (vertex_total x) x.triangles) there ∙ ap (λ (o : Option Fault). counted_unless o (vertex_total (sheet_mesh k bs)) (sheet_mesh k bs).triangles) sound in
      absurd (cc)
