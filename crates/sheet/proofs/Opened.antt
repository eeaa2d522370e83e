-- What is known of a sheet that was opened, or refused.
use Rattle.std.proofs.Common.{◌≡◌, ℕ, List, Some, None, Ok, Err, Option, Result, sym, refl, ap, ◌∙◌}
use Rattle.fault.specs.declared.fault.Fault.{Fault}
use Rattle.place.specs.Kinds.{Kind}
use Rattle.mesh.specs.Meshes.{vertex_total}
use Rattle.survey.specs.declared.counts.Counts.{Counts}
use Rattle.survey.specs.Survey.{surveyed}
use Rattle.sheet.specs.Content.{sheet_mesh}
use Rattle.sheet.specs.Opening.{opened}
use Rattle.sheet.specs.Surveying.{surveyed_unless}

pub opened_ok : (o : Option Fault) (bs xs : List ℕ) → Ok xs ≡ opened o bs → (o ≡ None) × (xs ≡ bs)
opened_ok None bs xs e = (refl, cc)
opened_ok (Some f) bs xs e = absurd (cc)

pub opened_err : (o : Option Fault) (bs : List ℕ) (f : Fault) → Err f ≡ opened o bs → o ≡ Some f
opened_err None bs f e = absurd (cc)
opened_err (Some g) bs f e = cc

-- the survey of an opened sheet is that of its bytes
pub surveyed_ok : {P D : Type 0} (k : Kind P D) (o : Option Fault) (bs xs : List ℕ) (r : Result Counts Fault) → Ok xs ≡ opened o bs → r ≡ surveyed (vertex_total (sheet_mesh k xs)) (sheet_mesh k xs).triangles → r ≡ surveyed_unless o (sheet_mesh k bs)
surveyed_ok k o bs xs r e i =
    let p = opened_ok o bs xs e in
    i ∙ (ap (λ (ys : List ℕ). surveyed (vertex_total (sheet_mesh k ys)) (sheet_mesh k ys).triangles) p.1 ∙ sym (ap (λ (o : Option Fault). surveyed_unless o (sheet_mesh k bs)) p.0))

pub surveyed_err : {P D : Type 0} (k : Kind P D) (o : Option Fault) (bs : List ℕ) (f : Fault) → Err f ≡ opened o bs → Err f ≡ surveyed_unless o (sheet_mesh k bs)
surveyed_err k o bs f e = sym (ap (λ (o : Option Fault). surveyed_unless o (sheet_mesh k bs)) (opened_err o bs f e))
