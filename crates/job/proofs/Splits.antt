-- What a split call of a job tells, and what the job's numbers are then.
use Rattle.std.proofs.Common.{◌≡◌, ℕ, ◌+◌, ◌*◌, ◌≤◌, eqb, List, [], ◌∷◌, length, Some, None, Ok, Err, Option, Result, refl, sym, ap, ◌∙◌, arith, eqb-true}
use Rattle.std.proofs.lemmas.Bool.{and_parts}
use Rattle.fault.specs.declared.fault.Fault.{Fault}
use Rattle.fault.specs.declared.fault.Fault.TheVariants.{StoreNotOfJob}
use Rattle.fault.proofs.Orders.{or_none, test_passed}
use Rattle.place.specs.Kinds.{Kind, Lawful}
use Rattle.mesh.specs.Sides.{Side}
use Rattle.mesh.specs.Growth.{RoomInLimits}
use Rattle.mesh.specs.Meshes.{Mesh, vertex_total, triangle_total}
use Rattle.mesh.proofs.Tests.{none_some}
use Rattle.forest.specs.Splitting.{marked_of, unmarked_fault}
use Rattle.runs.specs.Jobs.{Numbers, vertices_now, triangles_now, mesh_unless}
use Rattle.runs.specs.Parts.{record_marks}
use Rattle.runs.specs.Outcome.{SplitTold, told_unless, edge_total, edges_marked, trees_formed, mesh_made, table_fault, closed_fault, job_fault, marks_fault, split_fault, split_mesh_after, numbers_with, numbers_kept, numbers_after}
use Rattle.runs.specs.Calls.{state_of, offer}
use Rattle.runs.specs.Runs.{GoesOn}
use Rattle.runs.proofs.Parts.{marked_counted}
use Rattle.runs.proofs.Going.{goes_on}
use Rattle.runs.proofs.Splits.{Passed, passed, split_outcome_keeps}
use Rattle.engine.specs.Calls.{call_fault, call_answer, call_mesh}

-- an answer is what a split told that passed all checks, or the fault of one
pub told_ok : (r : SplitTold) (o : Option Fault) (t : SplitTold) → ◌≡◌ {A = Result SplitTold Fault} (Ok r) (told_unless o t) → (o ≡ None) × (r ≡ t)
told_ok r None t e = (refl, cc)
told_ok r (Some f) t e = absurd (cc)

pub told_err : (f : Fault) (o : Option Fault) (t : SplitTold) → ◌≡◌ {A = Result SplitTold Fault} (Err f) (told_unless o t) → o ≡ Some f
told_err f None t e = absurd (cc)
told_err f (Some g) t e = cc

-- a job's numbers with one more record, of F marked edges in K trees, keep to their ranges
pub record Ranges (n : Numbers) (F K : ℕ) : Type 0 where
  pub half : 2 * (n.trees + K) ≤ n.forest_edges + F
  pub more : n.records + 1 + (n.trees + K) ≤ n.forest_edges + F
  pub vertices_few : n.base_vertices + (n.forest_edges + F) ≤ 16384 + (n.trees + K)
  pub triangles_few : n.base_triangles + 2 * (n.forest_edges + F) ≤ 32768 + 2 * (n.trees + K)

-- a split call that is accepted, with F marked edges in K trees
pub record Accepted {P D : Type 0} (k : Kind P D) (vr tr table : ℕ) (m : Mesh P) (n : Numbers) (bs : List ℕ) (F K : ℕ) : Type 0 where
  pub fine : split_fault k vr tr table m n bs ≡ None
  pub edges : F ≡ edges_marked m bs
  pub trees : K ≡ trees_formed m bs

-- the store's counts are the job's, and the record passes
checks : {P D : Type 0} (k : Kind P D) (vr tr table : ℕ) (m : Mesh P) (n : Numbers) (bs : List ℕ) → split_fault k vr tr table m n bs ≡ None → (job_fault m n ≡ None) × Passed k vr tr m bs
checks k vr tr table m n bs e =
    let a = or_none (table_fault vr tr table) _ e in
    let b = or_none (closed_fault m) _ a.1 in
    let c = or_none (job_fault m n) _ b.1 in (c.0, passed k vr tr m bs c.1)

-- an edge is marked
some_marked : {P : Type 0} (m : Mesh P) (bs : List ℕ) → marks_fault m bs ≡ None → 1 ≤ edges_marked m bs
some_marked m bs e =
    let ms = marked_of m.triangles (record_marks bs (edge_total m)) in
    let h = marked_counted m.triangles bs in
    let f = some ms (or_none (unmarked_fault ms) _ e).0 in omega arith
  where
    some : (ms : List Side) → unmarked_fault ms ≡ None → 1 ≤ length ms
    some [] e = none_some (sym e)
    some (s ∷ ms) e = omega arith

module _ {P D : Type 0} {k : Kind P D} {vr tr table : ℕ} {m : Mesh P} {n : Numbers} {bs : List ℕ} {F K : ℕ} (a : Accepted k vr tr table m n bs F K) where
  pub ranges : Lawful k → RoomInLimits vr tr → 2 * n.trees ≤ n.forest_edges → n.records + n.trees ≤ n.forest_edges → Ranges n F K
  ranges law room half grown =
      let kept = split_outcome_keeps k law vr tr table m n bs a.fine in
      let c = checks k vr tr table m n bs a.fine in
      let t = and_parts (eqb (vertex_total m) (vertices_now n)) (eqb (triangle_total m) (triangles_now n)) (test_passed _ StoreNotOfJob c.0) in
      let v = eqb-true (vertex_total m) (vertices_now n) t.0 in
      let w = eqb-true (triangle_total m) (triangles_now n) t.1 in
      let some = some_marked m bs c.1.marks in
      let f = a.edges in
      let g = a.trees in
      let h = kept.half in
      let p = kept.vertices in
      let q = kept.triangles in
      let x = kept.vertices_fit in
      let y = kept.triangles_fit in
      let u = room.vertices_few in
      let z = room.triangles_few in record { half = omega arith; more = omega arith; vertices_few = omega arith; triangles_few = omega arith }

  pub numbers_more : numbers_with n F K ≡ numbers_after k vr tr table m n bs
  numbers_more = (λ i. numbers_with n (a.edges i) (a.trees i)) ∙ ap (λ o. numbers_kept o n (numbers_with n (edges_marked m bs) (trees_formed m bs))) (sym a.fine)

-- from what the engine answers
module _ {P D : Type 0} (k : Kind P D) (vr tr table : ℕ) (m : Mesh P) (n : Numbers) (bs : List ℕ) {V T : ℕ} (v : V ≡ vertices_now n) (t : T ≡ triangles_now n) where
  -- the checks by the job's totals are those by its numbers
  same_fault : call_fault k vr tr table m V T bs ≡ split_fault k vr tr table m n bs
  same_fault i = call_fault k vr tr table m (v i) (t i) bs

  pub accepted : (r : SplitTold) → Ok r ≡ call_answer k vr tr table m V T bs → Accepted k vr tr table m n bs r.forest_edges r.trees
  accepted r e =
      let p = told_ok r (call_fault k vr tr table m V T bs) _ e in
      record { fine = sym same_fault ∙ p.0; edges = ap (λ x. x.forest_edges) p.1; trees = ap (λ x. x.trees) p.1 }

  -- a refusal leaves the numbers
  pub numbers_same : {f : Fault} → Err f ≡ call_answer k vr tr table m V T bs → n ≡ numbers_after k vr tr table m n bs
  numbers_same {f} e = ap (λ o. numbers_kept o n (numbers_with n (edges_marked m bs) (trees_formed m bs))) (sym (sym same_fault ∙ told_err f _ _ e))

  -- the call goes on every run
  pub goes_further : {m' : Mesh P} → m' ≡ call_mesh k vr tr table m V T bs → {n' : Numbers} → n' ≡ numbers_after k vr tr table m n bs
      → GoesOn k vr tr (state_of m n) (offer bs table) (state_of m' n')
  goes_further {m'} e {n'} i =
      let a : m' ≡ split_mesh_after k vr tr table m n bs = e ∙ ap (λ o. mesh_unless o m (mesh_made k m bs)) same_fault in
      goes_on k vr tr (state_of m n) (offer bs table) (state_of m' n') (λ j. state_of (a j) (i j))
