-- Any two runs from the same base mesh.
use Rattle.std.proofs.Common.{◌≡◌, ℕ, zero, suc, ◌+◌, ◌*◌, ◌<◌, ◌≤◌, Bool, true, false, cond, ltb, List, [], ◌∷◌, map, length, take, is_some, Some, None, Option, sym, refl, ap, ◌∙◌, subst, arith, ltb-true, eq-eqb}
use Rattle.std.proofs.lemmas.List.{take_all, take-take, take-map}
use Rattle.std.specs.List.{range_with_len, AllByRecursion, slice_get}
use Rattle.std.specs.Option.{option_map}
use Rattle.std.proofs.lemmas.Bool.{cond-true, and_from}
use Rattle.fault.specs.declared.fault.Fault.{Fault}
use Rattle.fault.specs.declared.fault.Fault.TheVariants.{StoreNotClosed, StoreNotOfJob}
use Rattle.fault.proofs.Orders.{or_none}
use Rattle.place.specs.Kinds.{Kind, Lawful}
use Rattle.mesh.specs.Triangles.{Tri, tri}
use Rattle.mesh.specs.Growth.{RoomInLimits}
use Rattle.mesh.specs.Follow.{smaller_parent, back_step, back_steps}
use Rattle.mesh.specs.Meshes.{Mesh, vertex_total, triangle_total, parents}
use Rattle.mesh.proofs.Counting.{edges_counted}
use Rattle.survey.specs.Survey.{survey_fault}
use Rattle.survey.specs.Theorems.{ClosedInLimits}
use Rattle.survey.proofs.Exact.{survey_closed, closed_survey}
use Rattle.sheet.specs.Content.{sheet_mesh, sheet_fault_within, vertex_in, vertices_in}
use Rattle.forest.specs.Theorems.{followed}
use Rattle.runs.specs.Jobs.{Numbers, base_numbers, vertices_now, triangles_now, base_fault, empty_fault, mesh_unless}
use Rattle.runs.specs.Outcome.{edges_marked, trees_formed, mesh_made, closed_fault, job_fault, split_fault, numbers_with, numbers_kept}
use Rattle.runs.specs.Figures.{euler}
use Rattle.runs.specs.Calls.{State, Call, offer, ask, write_sheet, Question, how_many_vertices, how_many_triangles, which_corners, which_place, which_parent, which_triangle, which_counts, which_edge, which_ancestor, answer, question_answer, next}
use Rattle.runs.specs.Runs.{empty_mesh, begun, after, answers, if_accepted, share, summed, Run}
use Rattle.runs.specs.Reports.{ReportTrue, ReportsTrue}
use Rattle.runs.specs.Statement.{FindsNoWrongStore, Kept, SameBase, BothKept, AnyTwoJobs}
use Rattle.runs.proofs.Splits.{split_outcome_keeps}
use Rattle.runs.proofs.RightStore.{safe_split, safe_survey, safe_writing, safe_answer}

-- what every state of a run from a base mesh keeps
pub record Held {P : Type 0} (base : Mesh P) (m : Mesh P) (n : Numbers) : Type 0 where
  pub closed : ClosedInLimits (vertex_total m) m.triangles
  pub base_vertices : n.base_vertices ≡ vertex_total base
  pub base_triangles : n.base_triangles ≡ triangle_total base
  pub vertices : vertex_total m + n.trees ≡ vertex_total base + n.forest_edges
  pub triangles : triangle_total m + 2 * n.trees ≡ triangle_total base + 2 * n.forest_edges
  pub half : 2 * n.trees ≤ n.forest_edges
  pub figure : euler m ≡ euler base
  pub follows : map (followed (parents m)) (take (triangle_total base) m.triangles) ≡ base.triangles

-- an accepted split keeps it
made_held : {P D : Type 0} (k : Kind P D) (law : Lawful k) (vertex_room triangle_room table : ℕ) → RoomInLimits vertex_room triangle_room → (base m : Mesh P) (n : Numbers) (bs : List ℕ) → split_fault k vertex_room triangle_room table m n bs ≡ None → Held base m n → Held base (mesh_made k m bs) (numbers_with n (edges_marked m bs) (trees_formed m bs))
made_held k law vr tr table room base m n bs e h =
    let s = split_outcome_keeps k law vr tr table m n bs e in
    let m' = mesh_made k m bs in
    let a = s.vertices in
    let b = s.triangles in
    let c = s.half in
    let d = h.vertices in
    let f = h.triangles in
    let g = h.half in
    let x = s.vertices_fit in
    let y = s.triangles_fit in
    let u = room.vertices_few in
    let w = room.triangles_few in
    record {
      closed = record { few_vertices = omega arith; few_triangles = omega arith; closed = s.closed };
      base_vertices = h.base_vertices;
      base_triangles = h.base_triangles;
      vertices = omega arith;
      triangles = omega arith;
      half = omega arith;
      figure = s.figure ∙ h.figure;
      follows =
          ap (map (followed (parents m'))) (sym (take-take (triangle_total base) (triangle_total m) m'.triangles (omega arith)))
          ∙ sym (take-map (followed (parents m')) (triangle_total base) (take (triangle_total m) m'.triangles))
          ∙ ap (take (triangle_total base)) s.old_triangles
          ∙ take-map (followed (parents m)) (triangle_total base) m.triangles
          ∙ h.follows;
    }

module _ {P D : Type 0} (k : Kind P D) (law : Lawful k) (vertex_room triangle_room : ℕ) (room : RoomInLimits vertex_room triangle_room) (base : Mesh P) where
  next_held : (s : State P) (c : Call) → Held base s.mesh s.numbers → Held base (next k vertex_room triangle_room s c).mesh (next k vertex_room triangle_room s c).numbers
  next_held s (offer bs table) h = go (split_fault k vertex_room triangle_room table s.mesh s.numbers bs) refl
    where
      go : (o : Option Fault) → split_fault k vertex_room triangle_room table s.mesh s.numbers bs ≡ o → Held base (mesh_unless o s.mesh (mesh_made k s.mesh bs)) (numbers_kept o s.numbers (numbers_with s.numbers (edges_marked s.mesh bs) (trees_formed s.mesh bs)))
      go (Some f) e = h
      go None e = made_held k law vertex_room triangle_room table room base s.mesh s.numbers bs e h
  next_held s (ask q) h = h
  next_held s (write_sheet n) h = h

  after_held : (cs : List Call) (s : State P) → Held base s.mesh s.numbers → Held base (after k vertex_room triangle_room s cs).mesh (after k vertex_room triangle_room s cs).numbers
  after_held [] s h = h
  after_held (c ∷ cs) s h = after_held cs (next k vertex_room triangle_room s c) (next_held s c h)

  closed_passes : (m : Mesh P) → ClosedInLimits (vertex_total m) m.triangles → closed_fault m ≡ None
  closed_passes m c = ap (λ o. cond (is_some o) (Some StoreNotClosed) None) (closed_survey (vertex_total m) m.triangles c)

  job_passes : (m : Mesh P) (n : Numbers) → Held base m n → job_fault m n ≡ None
  job_passes m n h =
      let a = h.vertices in
      let b = h.triangles in
      let c = h.base_vertices in
      let d = h.base_triangles in
      cond-true _ None (Some StoreNotOfJob) (and_from _ _ (eq-eqb (vertex_total m) (vertices_now n) (omega arith)) (eq-eqb (triangle_total m) (triangles_now n) (omega arith)))

  question_right : (m : Mesh P) (q : Question) → FindsNoWrongStore (question_answer m q)
  question_right m how_many_vertices = safe_answer
  question_right m how_many_triangles = safe_answer
  question_right m (which_corners t) = safe_answer
  question_right m (which_place v) = safe_answer
  question_right m (which_parent v) = safe_answer
  question_right m (which_triangle u v) = safe_answer
  question_right m which_counts = safe_survey (vertex_total m) m.triangles
  question_right m (which_edge e) = safe_answer
  question_right m (which_ancestor v) = safe_answer

  answer_right : (s : State P) (c : Call) → Held base s.mesh s.numbers → FindsNoWrongStore (answer k vertex_room triangle_room s c)
  answer_right s (offer bs table) h = safe_split k vertex_room triangle_room table s.mesh s.numbers bs (closed_passes s.mesh h.closed) (job_passes s.mesh s.numbers h)
  answer_right s (ask q) h = question_right s.mesh q
  answer_right s (write_sheet n) h = safe_writing k s.mesh n

  answers_right : (cs : List Call) (s : State P) → Held base s.mesh s.numbers → AllByRecursion FindsNoWrongStore (answers k vertex_room triangle_room s cs)
  answers_right [] s h = tt
  answers_right (c ∷ cs) s h = (answer_right s c h, answers_right cs (next k vertex_room triangle_room s c) (next_held s c h))

-- a tally that grows by what f counts in each accepted record is the sum of f over those
module _ {P D : Type 0} (k : Kind P D) (vertex_room triangle_room : ℕ) (f : Mesh P → List ℕ → ℕ) (tally : Numbers → ℕ) (grows : (n : Numbers) (m : Mesh P) (bs : List ℕ) → tally (numbers_with n (edges_marked m bs) (trees_formed m bs)) ≡ tally n + f m bs) where
  next_tally : (s : State P) (c : Call) → tally (next k vertex_room triangle_room s c).numbers ≡ tally s.numbers + share f k vertex_room triangle_room s c
  next_tally s (offer bs table) = go (split_fault k vertex_room triangle_room table s.mesh s.numbers bs)
    where
      go : (o : Option Fault) → tally (numbers_kept o s.numbers (numbers_with s.numbers (edges_marked s.mesh bs) (trees_formed s.mesh bs))) ≡ tally s.numbers + if_accepted o (f s.mesh bs)
      go (Some x) = omega arith
      go None = grows s.numbers s.mesh bs
  next_tally s (ask q) = omega arith
  next_tally s (write_sheet n) = omega arith

  pub after_tally : (cs : List Call) (s : State P) → tally (after k vertex_room triangle_room s cs).numbers ≡ tally s.numbers + summed f k vertex_room triangle_room s cs
  after_tally [] s = omega arith
  after_tally (c ∷ cs) s = let a = after_tally cs (next k vertex_room triangle_room s c) in let b = next_tally s c in omega arith

-- where every vertex is its own parent, following back stays
module _ (ps : List ℕ) (own : (v : ℕ) → back_step ps v ≡ v) where
  still : (n v : ℕ) → back_steps n ps v ≡ v
  still zero v = refl
  still (suc n) v = ap (back_steps n ps) (own v) ∙ still n v

  pub own_followed : (ts : List Tri) → map (followed ps) ts ≡ ts
  own_followed [] = refl
  own_followed (tri x y z ∷ ts) = let a = still x x in let b = still y y in let c = still z z in let r = own_followed ts in cc

-- the vertices of a sheet are their own parents
sheet_own : {P D : Type 0} (k : Kind P D) (bs : List ℕ) (a n i v : ℕ) → v ≡ a + i → smaller_parent (slice_get (map (λ x. x.parent) (map (vertex_in k bs) (range_with_len a n))) i) v ≡ v
sheet_own k bs a zero i v e = refl
sheet_own k bs a (suc n) zero v e = go (ltb a v) refl
  where
    go : (b : Bool) → ltb a v ≡ b → cond b a v ≡ v
    go true t = let l = ltb-true a v t in absurd (omega arith)
    go false t = refl
sheet_own k bs a (suc n) (suc i) v e = sheet_own k bs (a + 1) n i v (omega arith)

-- an accepted base call begins it
begun_held : {P D : Type 0} (k : Kind P D) (vertex_room triangle_room : ℕ) (bs : List ℕ) → base_fault k vertex_room triangle_room empty_mesh bs ≡ None → Held (sheet_mesh k bs) (sheet_mesh k bs) (base_numbers (sheet_mesh k bs))
begun_held {P} {D} k vr tr bs e =
    let m = sheet_mesh k bs in
    let a = or_none (empty_fault (empty_mesh {P = P})) _ e in
    let b = or_none (sheet_fault_within k vr tr bs) (survey_fault (vertex_total m) m.triangles) a.1 in
    record {
      closed = survey_closed (vertex_total m) m.triangles b.1;
      base_vertices = refl;
      base_triangles = refl;
      vertices = omega arith;
      triangles = omega arith;
      half = omega arith;
      figure = refl;
      follows =
          own_followed (parents m) (λ v. sheet_own k bs 0 (vertices_in k bs) v v (omega arith)) (take (triangle_total m) m.triangles)
          ∙ take_all (triangle_total m) m.triangles (omega arith);
    }

-- an item of the first n
nth_front : {X Y : Type 0} (f : X → Y) (n : ℕ) (xs : List X) (t : ℕ) → t < n → slice_get (map f (take n xs)) t ≡ option_map f (slice_get xs t)
nth_front f zero xs t h = absurd (omega arith)
nth_front f (suc n) [] t h = refl
nth_front f (suc n) (x ∷ xs) zero h = refl
nth_front f (suc n) (x ∷ xs) (suc t) h = nth_front f n xs t (omega arith)

-- what the invariant says at the end of a run
run_held : {P D : Type 0} (k : Kind P D) → Lawful k → (vertex_room triangle_room : ℕ) → RoomInLimits vertex_room triangle_room → (bs : List ℕ) (cs : List Call) → base_fault k vertex_room triangle_room empty_mesh bs ≡ None → Held (sheet_mesh k bs) (after k vertex_room triangle_room (begun (sheet_mesh k bs)) cs).mesh (after k vertex_room triangle_room (begun (sheet_mesh k bs)) cs).numbers
run_held k law vr tr room bs cs e = after_held k law vr tr room (sheet_mesh k bs) cs (begun (sheet_mesh k bs)) (begun_held k vr tr bs e)

run_kept : {P D : Type 0} (k : Kind P D) → Lawful k → (vertex_room triangle_room : ℕ) → RoomInLimits vertex_room triangle_room → (bs : List ℕ) (cs : List Call) → base_fault k vertex_room triangle_room empty_mesh bs ≡ None → Kept k vertex_room triangle_room (sheet_mesh k bs) cs (after k vertex_room triangle_room (begun (sheet_mesh k bs)) cs)
run_kept {P} {D} k law vr tr room bs cs e =
    let base = sheet_mesh k bs in
    let s : State P = begun base in
    let b = begun_held k vr tr bs e in
    let h = run_held k law vr tr room bs cs e in
    let x = after_tally k vr tr edges_marked (λ n. n.forest_edges) (λ n m bs. refl) cs s in
    let y = after_tally k vr tr trees_formed (λ n. n.trees) (λ n m bs. refl) cs s in
    let t = h.triangles in
    record {
      closed = h.closed.closed;
      right_store = answers_right k law vr tr room base cs s b;
      figure = h.figure;
      triangles = omega arith;
      forest_edges = omega arith;
      trees = omega arith;
      base_triangles = λ t l.
          sym (nth_front (followed (parents (after k vr tr s cs).mesh)) (triangle_total base) (after k vr tr s cs).mesh.triangles t l) ∙ ap (λ (us : List Tri). slice_get us t) h.follows;
    }

pub ended : {P D : Type 0} (k : Kind P D) → Lawful k → (vertex_room triangle_room : ℕ) (bs : List ℕ) (cs : List Call) (s : State P) → Run k vertex_room triangle_room bs cs s → Kept k vertex_room triangle_room (sheet_mesh k bs) cs s
ended k law vr tr bs cs s r = subst (λ t. Kept k vr tr (sheet_mesh k bs) cs t) r.ends (run_kept k law vr tr r.room bs cs r.accepted)

-- the same base mesh has one figure
same_figure : {P Q : Type 0} (one : Mesh P) (two : Mesh Q) → SameBase one two → euler one ≡ euler two
same_figure one two s = let v = s.vertices in let t = s.triangles in cc

both_kept : {P D Q C : Type 0} (k : Kind P D) (l : Kind Q C) → Lawful k → Lawful l → (va ta vb tb : ℕ) (sheet other : List ℕ) (xs ys : List Call) (a : State P) (b : State Q)
    → Run k va ta sheet xs a → Run l vb tb other ys b → SameBase (sheet_mesh k sheet) (sheet_mesh l other) → BothKept k l va ta vb tb (sheet_mesh k sheet) (sheet_mesh l other) xs ys a b
both_kept k l p q va ta vb tb sheet other xs ys a b f g same =
    let x = ended k p va ta sheet xs a f in
    let y = ended l q vb tb other ys b g in
    let one = sheet_mesh k sheet in
    let two = sheet_mesh l other in
    let v = same.vertices in
    let t = ap length same.triangles in
    let e : euler one ≡ euler two = same_figure one two same in
    record {
      first = x;
      second = y;
      one_figure = x.figure ∙ e ∙ sym y.figure;
      same_corners = λ i h. x.base_triangles i h ∙ ap (λ (us : List Tri). slice_get us i) same.triangles ∙ sym (y.base_triangles i (omega arith));
    }

pub two_jobs : {P D Q C : Type 0} (k : Kind P D) (l : Kind Q C) → Lawful k → Lawful l → AnyTwoJobs k l
two_jobs k l p q a b va ta vb tb sheet other xs ys f g same = record {
  now = both_kept k l p q va ta vb tb sheet other xs ys a b f g same;
  before = λ ps qs rs ss e h.
      both_kept k l p q va ta vb tb sheet other ps rs (after k va ta (begun (sheet_mesh k sheet)) ps) (after l vb tb (begun (sheet_mesh l other)) rs)
      (record { room = f.room; accepted = f.accepted; ends = refl }) (record { room = g.room; accepted = g.accepted; ends = refl }) same;
}

run_report : {P D : Type 0} (k : Kind P D) → Lawful k → (vertex_room triangle_room : ℕ) → RoomInLimits vertex_room triangle_room → (bs : List ℕ) (cs : List Call) → base_fault k vertex_room triangle_room empty_mesh bs ≡ None → ReportTrue k vertex_room triangle_room bs cs (after k vertex_room triangle_room (begun (sheet_mesh k bs)) cs)
run_report {P} {D} k law vr tr room bs cs e =
    let s : State P = begun (sheet_mesh k bs) in
    let m = (after k vr tr s cs).mesh in
    let h = run_held k law vr tr room bs cs e in
    let a = h.base_vertices in
    let b = h.base_triangles in
    let v = h.vertices in
    let t = h.triangles in
    let c = h.closed.few_vertices in
    let d = h.closed.few_triangles in
    let g = edges_counted (vertex_total m) m.triangles h.closed.closed in
    let x = after_tally k vr tr (λ m bs. 1) (λ n. n.records) (λ n m bs. refl) cs s in
    record {
      half = h.half;
      few_vertices = omega arith;
      few_triangles = omega arith;
      vertices = omega arith;
      edges = omega arith;
      triangles = omega arith;
      records = omega arith;
    }

pub reports_true : {P D : Type 0} (k : Kind P D) → Lawful k → ReportsTrue k
reports_true k law vr tr bs cs s r = subst (λ t. ReportTrue k vr tr bs cs t) r.ends (run_report k law vr tr r.room bs cs r.accepted)
