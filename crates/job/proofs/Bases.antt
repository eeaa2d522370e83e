-- A base call, path by path.
use Rattle.std.proofs.Common.{◌≡◌, ℕ, ◌*◌, ◌%◌, ◌<◌, Bool, true, cond, eqb, leb, List, [], length, Some, None, Ok, Err, Option, Result, sym, refl, ap, ◌∙◌, subst, arith, eqb-true, leb-true}
use Rattle.std.specs.List.{slice_get}
use Rattle.std.proofs.lemmas.List.{nil_from_length}
use Rattle.std.proofs.lemmas.Bool.{and_parts}
use Rattle.std.proofs.lemmas.Option.{slice_get_within}
use Rattle.fault.specs.declared.fault.Fault.{Fault}
use Rattle.fault.specs.declared.fault.Fault.TheVariants.{StoreNotEmpty, BadCorners}
use Rattle.fault.specs.Faults.{or_else}
use Rattle.fault.proofs.Orders.{or_none, mapped_none, test_passed}
use Rattle.place.specs.Kinds.{Kind}
use Rattle.mesh.specs.Triangles.{Tri}
use Rattle.mesh.specs.Meshes.{Mesh, Vertex, mesh_of, vertex_total, triangle_total}
use Rattle.mesh.specs.Growth.{RoomInLimits}
use Rattle.mesh.specs.Limits.{counts_fault}
use Rattle.mesh.proofs.Tests.{some_inj}
use Rattle.std.proofs.lemmas.List.FromFn.{length-map-range_with_len}
use Rattle.mesh.specs.Copies.{copied}
use Rattle.mesh.proofs.Copied.{Copyable, copied_whole}
use Rattle.mesh.proofs.Indexed.{counted_there}
use Rattle.survey.specs.declared.counts.Counts.{Counts}
use Rattle.survey.specs.Checks.{first_bad}
use Rattle.survey.specs.Survey.{survey_fault, edge_count, counted, counted_unless, surveyed}
use Rattle.survey.proofs.Exact.{edges_half_told}
use Rattle.survey.proofs.Index.{good_fitting}
use Rattle.sheet.specs.Layout.{vertices_of, triangles_of, unless, layout_fault, capacity_fault}
use Rattle.sheet.specs.Content.{triangle_in, vertex_in, vertices_in, triangles_in, sheet_mesh, sheet_fault_within}
use Rattle.sheet.specs.Opening.{opened}
use Rattle.sheet.proofs.Opened.{opened_ok, opened_err}
use Rattle.sheet.proofs.Fields.{vertices_right, triangles_right}
use Rattle.runs.specs.Calls.{state_of}
use Rattle.runs.specs.Runs.{Run}
use Rattle.runs.proofs.Going.{runs_begin}
use Rattle.runs.specs.Jobs.{Numbers, base_numbers, fresh_numbers, is_empty, base_fault, mesh_unless, base_mesh, numbers_unless, base_answer}

-- three edges for two triangles: the triangles are even in number
even : (E T : ℕ) → 2 * E ≡ 3 * T → T % 2 ≡ 0
even E T e = omega arith

empty_start : {P : Type 0} (m : Mesh P) → is_empty m ≡ true → m ≡ mesh_of [] []
empty_start m e =
    let p = and_parts (eqb (vertex_total m) 0) (eqb (triangle_total m) 0) e in
    ap (λ ts. mesh_of ts m.vertices) (nil_from_length m.triangles (eqb-true _ 0 p.1)) ∙ ap (λ vs. mesh_of [] vs) (nil_from_length m.vertices (eqb-true _ 0 p.0))

module _ {P D : Type 0} (k : Kind P D) (vr tr : ℕ) (m : Mesh P) (bs : List ℕ) where
  past_store : is_empty m ≡ true → base_fault k vr tr m bs ≡ or_else (sheet_fault_within k vr tr bs) (survey_fault (vertex_total (sheet_mesh k bs)) (sheet_mesh k bs).triangles)
  past_store e = ap (λ (b : Bool). or_else (cond b None (Some StoreNotEmpty)) (or_else (sheet_fault_within k vr tr bs) (survey_fault (vertex_total (sheet_mesh k bs)) (sheet_mesh k bs).triangles))) e

  pub refused_sheet : (f : Fault) → is_empty m ≡ true → Err f ≡ opened (sheet_fault_within k vr tr bs) bs → base_fault k vr tr m bs ≡ Some f
  refused_sheet f e i = past_store e ∙ ap (λ (o : Option Fault). or_else o (survey_fault (vertex_total (sheet_mesh k bs)) (sheet_mesh k bs).triangles)) (opened_err (sheet_fault_within k vr tr bs) bs f i)

  past_sheet : (xs : List ℕ) → is_empty m ≡ true → Ok xs ≡ opened (sheet_fault_within k vr tr bs) bs → base_fault k vr tr m bs ≡ survey_fault (vertex_total (sheet_mesh k bs)) (sheet_mesh k bs).triangles
  past_sheet xs e i = past_store e ∙ ap (λ (o : Option Fault). or_else o (survey_fault (vertex_total (sheet_mesh k bs)) (sheet_mesh k bs).triangles)) (opened_ok (sheet_fault_within k vr tr bs) bs xs i).0

  pub refused_survey : (xs : List ℕ) (f : Fault) → is_empty m ≡ true → Ok xs ≡ opened (sheet_fault_within k vr tr bs) bs → Err f ≡ surveyed (vertex_total (sheet_mesh k xs)) (sheet_mesh k xs).triangles → base_fault k vr tr m bs ≡ Some f
  refused_survey xs f e i j =
      let d = (opened_ok (sheet_fault_within k vr tr bs) bs xs i).1 in
      past_sheet xs e i ∙ survey_err (vertex_total (sheet_mesh k bs)) (sheet_mesh k bs).triangles f (j ∙ ap (λ (ys : List ℕ). surveyed (vertex_total (sheet_mesh k ys)) (sheet_mesh k ys).triangles) d)
    where
      survey_err : (V : ℕ) (ts : List Tri) (f : Fault) → Err f ≡ surveyed V ts → survey_fault V ts ≡ Some f
      survey_err V ts f e = go (survey_fault V ts) e
        where
          go : (o : Option Fault) → Err f ≡ counted_unless o V ts → o ≡ Some f
          go None e = absurd (cc)
          go (Some g) e = cc

  -- a refusal's answer, and the mesh that stays
  pub refused_answer : (f : Fault) → base_fault k vr tr m bs ≡ Some f → Err f ≡ base_answer k vr tr m bs
  refused_answer f e = sym (ap (λ (o : Option Fault). numbers_unless o (base_numbers (sheet_mesh k bs))) e)

  pub refused_mesh : (f : Fault) → base_fault k vr tr m bs ≡ Some f → m ≡ base_mesh k vr tr m bs
  refused_mesh f e = sym (ap (λ (o : Option Fault). mesh_unless o m (sheet_mesh k bs)) e)

  counts_are : (V : ℕ) (ts : List Tri) (c : Counts) → Ok c ≡ surveyed V ts → (survey_fault V ts ≡ None) × (c ≡ counted V (edge_count ts) (length ts))
  counts_are V ts c e = go (survey_fault V ts) refl e
    where
      go : (o : Option Fault) → survey_fault V ts ≡ o → Ok c ≡ counted_unless o V ts → (survey_fault V ts ≡ None) × (c ≡ counted V (edge_count ts) (length ts))
      go None i e = (i, cc)
      go (Some f) i e = absurd (cc)

  -- what is known where the survey of an opened sheet tells counts
  pub record Accepted (xs : List ℕ) (c : Counts) : Type 0 where
    pub same : xs ≡ bs
    pub sheet_fine : sheet_fault_within k vr tr bs ≡ None
    pub shape_fine : survey_fault (vertex_total (sheet_mesh k bs)) (sheet_mesh k bs).triangles ≡ None
    pub counts : c ≡ counted (vertex_total (sheet_mesh k bs)) (edge_count (sheet_mesh k bs).triangles) (triangle_total (sheet_mesh k bs))

  pub accepted : (xs : List ℕ) (c : Counts) → Ok xs ≡ opened (sheet_fault_within k vr tr bs) bs → Ok c ≡ surveyed (vertex_total (sheet_mesh k xs)) (sheet_mesh k xs).triangles → Accepted xs c
  accepted xs c i j =
      let p = opened_ok (sheet_fault_within k vr tr bs) bs xs i in
      let q = counts_are (vertex_total (sheet_mesh k bs)) (sheet_mesh k bs).triangles c (j ∙ ap (λ (ys : List ℕ). surveyed (vertex_total (sheet_mesh k ys)) (sheet_mesh k ys).triangles) p.1) in
      record { same = p.1; sheet_fine = p.0; shape_fine = q.0; counts = q.1 }

  accepted_none : (xs : List ℕ) (c : Counts) → is_empty m ≡ true → Accepted xs c → base_fault k vr tr m bs ≡ None
  accepted_none xs c e a = past_store e ∙ (ap (λ (o : Option Fault). or_else o (survey_fault (vertex_total (sheet_mesh k bs)) (sheet_mesh k bs).triangles)) a.sheet_fine ∙ a.shape_fine)

  pub accepted_answer : (xs : List ℕ) (c : Counts) (v t : ℕ) → is_empty m ≡ true → Accepted xs c → v ≡ vertex_total (sheet_mesh k xs) → t ≡ triangle_total (sheet_mesh k xs) → Ok (fresh_numbers v t) ≡ base_answer k vr tr m bs
  accepted_answer xs c v t e a p q = (λ i. Ok (fresh_numbers (p i) (q i))) ∙ (ap (λ (ys : List ℕ). Ok (base_numbers (sheet_mesh k ys))) a.same ∙ sym (ap (λ (o : Option Fault). numbers_unless o (base_numbers (sheet_mesh k bs))) (accepted_none xs c e a)))

  accepted_mesh : (xs : List ℕ) (c : Counts) → is_empty m ≡ true → Accepted xs c → sheet_mesh k xs ≡ base_mesh k vr tr m bs
  accepted_mesh xs c e a = ap (sheet_mesh k) a.same ∙ sym (ap (λ (o : Option Fault). mesh_unless o m (sheet_mesh k bs)) (accepted_none xs c e a))

  pub accepted_even : (xs : List ℕ) (c : Counts) (t : ℕ) → Accepted xs c → t ≡ triangle_total (sheet_mesh k xs) → t % 2 ≡ 0
  accepted_even xs c t a e =
      let ts = (sheet_mesh k bs).triangles in
      let n : t ≡ length ts = e ∙ ap (λ (ys : List ℕ). triangle_total (sheet_mesh k ys)) a.same in
      ap (λ (x : ℕ). x % 2) n ∙ even (edge_count ts) (length ts) (edges_half_told (vertex_total (sheet_mesh k bs)) ts a.shape_fine).0

  -- the sheet's mesh can be taken over
  accepted_copyable : (xs : List ℕ) (c : Counts) → Accepted xs c → Copyable vr tr (sheet_mesh k xs)
  accepted_copyable xs c a = subst (λ (ys : List ℕ). Copyable vr tr (sheet_mesh k ys)) (sym a.same) there
    where
      layout : layout_fault k bs ≡ None
      layout = (or_none (layout_fault k bs) _ a.sheet_fine).0

      room : (leb (vertices_of bs) vr ≡ true) × (leb (triangles_of bs) tr ≡ true)
      room =
          let p = (or_none (capacity_fault vr tr bs) _ (or_none (layout_fault k bs) _ a.sheet_fine).1).0 in
          let q = or_none (unless (leb (vertices_of bs) vr) _) _ p in (test_passed _ _ q.0, test_passed _ _ q.1)

      corners : first_bad (vertex_total (sheet_mesh k bs)) (sheet_mesh k bs).triangles ≡ None
      corners =
          let p = (or_none (counts_fault (vertex_total (sheet_mesh k bs)) (triangle_total (sheet_mesh k bs))) _ a.shape_fine).1 in
          mapped_none BadCorners _ (or_none _ _ p).0

      there : Copyable vr tr (sheet_mesh k bs)
      there =
          let v = length-map-range_with_len (vertex_in k bs) 0 (vertices_in k bs) ∙ sym (vertices_right k bs (vertices_of bs) layout refl) in
          let t = length-map-range_with_len (triangle_in k.width bs) 0 (triangles_in k bs) ∙ sym (triangles_right k bs (triangles_of bs) layout refl) in
          let p = leb-true (vertices_of bs) vr room.0 in
          let q = leb-true (triangles_of bs) tr room.1 in
          record { fits = good_fitting vr tr (sheet_mesh k bs) corners (omega arith) (omega arith); own = own_parent }
        where
          own_parent : (w : ℕ) (x : Vertex P) → slice_get (sheet_mesh k bs).vertices w ≡ Some x → x.parent ≡ w
          own_parent w x e =
              let l = slice_get_within (sheet_mesh k bs).vertices w x e in
              let n = length-map-range_with_len (vertex_in k bs) 0 (vertices_in k bs) in
              let h : w < vertices_in k bs = omega arith in sym (ap (λ (y : Vertex P). y.parent) (some_inj (sym (counted_there (vertex_in k bs) (vertices_in k bs) w h) ∙ e)))

  -- and then the store has it
  pub accepted_copy : (xs : List ℕ) (c : Counts) (after : Mesh P) → is_empty m ≡ true → Accepted xs c → after ≡ copied vr tr (sheet_mesh k xs) m → after ≡ base_mesh k vr tr m bs
  accepted_copy xs c after e a copy =
      copy ∙ ap (copied vr tr (sheet_mesh k xs)) (empty_start m e) ∙ copied_whole vr tr (sheet_mesh k xs) (accepted_copyable xs c a) ∙ accepted_mesh xs c e a

-- an accepted base call begins a run
pub begins : {P D : Type 0} (k : Kind P D) (vr tr : ℕ) (m : Mesh P) (bs : List ℕ) → RoomInLimits vr tr → (m' : Mesh P) (n : Numbers) → ◌≡◌ {A = Result Numbers Fault} (Ok n) (base_answer k vr tr m bs) → m' ≡ base_mesh k vr tr m bs → Run k vr tr bs [] (state_of m' n)
begins k vr tr m bs room m' n e i = go (base_fault k vr tr m bs) refl e
  where
    go : (o : Option Fault) → base_fault k vr tr m bs ≡ o → ◌≡◌ {A = Result Numbers Fault} (Ok n) (numbers_unless o (base_numbers (sheet_mesh k bs))) → Run k vr tr bs [] (state_of m' n)
    go None h j =
        let same : n ≡ base_numbers (sheet_mesh k bs) = cc in subst (λ s. Run k vr tr bs [] s) (sym (λ l. state_of (i l) (same l))) (runs_begin k vr tr m bs room h)
    go (Some f) h j = absurd (cc)
