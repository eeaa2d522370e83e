-- No check but the two says that the store's mesh is not closed, or that it is not the job's.
use Rattle.std.proofs.Common.{◌≡◌, ℕ, ◌-◌, ◌*◌, ◌≤◌, Bool, true, false, cond, eqb, leb, List, [], ◌∷◌, length, Some, None, Ok, Err, Option, sym, refl, ap, subst, arith}
use Rattle.std.specs.Option.{option_map}
use Rattle.fault.specs.declared.fault.Fault.{Fault}
use Rattle.fault.specs.declared.fault.Fault.TheVariants.{ShortWorkTable, StoreNotClosed, StoreNotOfJob, VertexCapacity, TriangleCapacity, ShortBuffer, BadCorners, RepeatedSide, OpenSide, NoSingleRing, RecordLength, RecordVersion, RecordKind, MarksCutShort, SpareMarkBit, MarkClosesLoop, SingleEdgeTree, CodeCount, RecordSize, SpareCodeBit, CodesOffTree, LoopTooShort, SideTwice, NoDisplacedPlace, SheetCounts}
use Rattle.fault.specs.declared.fault.Count.TheVariants.{Vertices, Triangles}
use Rattle.fault.specs.Faults.{or_else, told}
use Rattle.place.specs.Kinds.{Kind}
use Rattle.mesh.specs.Triangles.{Tri}
use Rattle.mesh.specs.Sides.{Side}
use Rattle.mesh.specs.Edges.{edges}
use Rattle.mesh.specs.Limits.{between, counts_fault}
use Rattle.mesh.specs.Meshes.{Mesh, vertex_total}
use Rattle.survey.specs.Checks.{first_bad, first_repeated, first_open}
use Rattle.survey.specs.Ringwalk.{first_unringed}
use Rattle.survey.specs.Survey.{survey_fault, shape_fault, counted_unless, surveyed}
use Rattle.record.specs.Parts.{code_count}
use Rattle.record.specs.Checks.{length_fault, version_fault, kind_fault, marks_fault, spare_mark_fault, head_fault, size_fault, code_bits_fault}
use Rattle.forest.specs.Polygons.{Code}
use Rattle.forest.specs.Splitting.{unmarked_fault, count_fault, forest_fault, sewing_fault, marked_of, first_closing, first_single, first_unclosed, first_early, first_twice, split_triangles}
use Rattle.forest.specs.Trees.{own, trees}
use Rattle.runs.specs.Jobs.{Numbers}
use Rattle.runs.specs.Parts.{record_marks, record_codes}
use Rattle.runs.specs.Outcome.{SplitTold, told_unless, edge_total, table_fault, closed_fault, job_fault, vertex_room_fault, triangle_room_fault, codes_fault, displacements_fault, record_fault, split_fault, split_answer}
use Rattle.runs.specs.Outcome as Outcome
use Rattle.runs.specs.Calls.{fault_in, mesh_size, writing_answer}

-- a refusal's number, and 5 where there is none
abbrev pub rank : Option Fault → ℕ
rank None = 5
rank (Some f) = (told f).number

-- no fault, or one of the numbers from 5 on
abbrev Late : Option Fault → Type 0
Late o = 5 ≤ rank o

-- neither of the two
abbrev pub Safe : Option Fault → Type 0
Safe o = (o ≡ Some StoreNotClosed → ⊥) × (o ≡ Some StoreNotOfJob → ⊥)

late_safe : (o : Option Fault) → Late o → Safe o
late_safe o h = (λ e. let r = ap rank e in omega arith, λ e. let r = ap rank e in omega arith)

late_or : (a b : Option Fault) → Late a → Late b → Late (or_else a b)
late_or None b h i = i
late_or (Some f) b h i = h

late_if : (b : Bool) (f : Fault) → 5 ≤ (told f).number → Late (cond b None (Some f))
late_if true f h = omega arith
late_if false f h = h

late_at : (c : ℕ → Fault) → ((i : ℕ) → 5 ≤ (told (c i)).number) → (o : Option ℕ) → Late (option_map c o)
late_at c h None = omega arith
late_at c h (Some i) = h i

late_head : {P D : Type 0} (k : Kind P D) (bs : List ℕ) (m : ℕ) → Late (head_fault k bs m)
late_head k bs m =
    late_or (length_fault bs) _ (late_if _ RecordLength (omega arith))
    (late_or (version_fault bs) _ (late_if _ RecordVersion (omega arith))
    (late_or (kind_fault k bs) _ (late_if _ RecordKind (omega arith))
    (late_or (marks_fault bs m) (spare_mark_fault bs m) (late_if _ MarksCutShort (omega arith)) (late_if _ (SpareMarkBit _) (omega arith)))))

late_forest : (V : ℕ) (ts : List Tri) (bs : List Bool) (n : ℕ) → Late (forest_fault V ts bs n)
late_forest V ts bs n =
    let closing = first_closing own 0 (edges ts) bs in
    let single = first_single (marked_of ts bs) (trees V (marked_of ts bs)) in
    let count = count_fault V (marked_of ts bs) n in
    late_or (unmarked_fault (marked_of ts bs)) (or_else (option_map MarkClosesLoop closing) (or_else (option_map SingleEdgeTree single) count)) (some_mark (marked_of ts bs))
    (late_or (option_map MarkClosesLoop closing) (or_else (option_map SingleEdgeTree single) count) (late_at MarkClosesLoop (λ i. omega arith) closing)
    (late_or (option_map SingleEdgeTree single) count (late_at SingleEdgeTree (λ i. omega arith) single) (late_if (eqb n (2 * (length (marked_of ts bs) - length (trees V (marked_of ts bs))))) CodeCount (omega arith))))
  where
    some_mark : (ms : List Side) → Late (unmarked_fault ms)
    some_mark [] = omega arith
    some_mark (m ∷ ms) = omega arith

late_sewing : (V : ℕ) (ts : List Tri) (bs : List Bool) (cs : List Code) → Late (sewing_fault V ts bs cs)
late_sewing V ts bs cs =
    let off = first_unclosed (marked_of ts bs) 0 (trees V (marked_of ts bs)) cs in
    let early = first_early ts (marked_of ts bs) 0 (trees V (marked_of ts bs)) in
    let twice = first_twice 0 [] (split_triangles V ts (marked_of ts bs) cs) in
    late_or (option_map CodesOffTree off) (or_else (option_map LoopTooShort early) (option_map SideTwice twice)) (late_at CodesOffTree (λ i. omega arith) off)
    (late_or (option_map LoopTooShort early) (option_map SideTwice twice) (late_at LoopTooShort (λ i. omega arith) early) (late_at SideTwice (λ i. omega arith) twice))

late_record : {P D : Type 0} (k : Kind P D) (vertex_room triangle_room : ℕ) (m : Mesh P) (bs : List ℕ) → Late (record_fault k vertex_room triangle_room m bs)
late_record k vr tr m bs =
    late_or (head_fault k bs (edge_total m)) _ (late_head k bs (edge_total m))
    (late_or (Outcome.marks_fault m bs) _ (late_forest (vertex_total m) m.triangles (record_marks bs (edge_total m)) (code_count bs))
    (late_or (size_fault k bs (edge_total m)) _ (late_if _ RecordSize (omega arith))
    (late_or (vertex_room_fault vr m bs) _ (late_if _ VertexCapacity (omega arith))
    (late_or (triangle_room_fault tr m bs) _ (late_if _ TriangleCapacity (omega arith))
    (late_or (code_bits_fault bs (edge_total m)) _ (late_if _ (SpareCodeBit _) (omega arith))
    (late_or (codes_fault m bs) (displacements_fault k m bs) (late_sewing (vertex_total m) m.triangles (record_marks bs (edge_total m)) (record_codes bs (edge_total m))) (late_at NoDisplacedPlace (λ i. omega arith) _)))))))

safe_or : (a b : Option Fault) → Safe a → Safe b → Safe (or_else a b)
safe_or None b h i = i
safe_or (Some f) b h i = h

safe_none : (o : Option Fault) → o ≡ None → Safe o
safe_none o e = late_safe o (let r = ap rank e in omega arith)

safe_table : (b : Bool) → Safe (cond b None (Some ShortWorkTable))
safe_table true = late_safe None (omega arith)
safe_table false = (λ e. let r = ap rank e in omega arith, λ e. let r = ap rank e in omega arith)

-- a split call on a store that is closed and the job's
pub safe_split : {P D : Type 0} (k : Kind P D) (vertex_room triangle_room table : ℕ) (m : Mesh P) (n : Numbers) (bs : List ℕ) → closed_fault m ≡ None → job_fault m n ≡ None → Safe (fault_in (split_answer k vertex_room triangle_room table m n bs))
safe_split k vr tr table m n bs c j =
    subst Safe (sym (same (split_fault k vr tr table m n bs) _))
    (safe_or (table_fault vr tr table) _ (safe_table _)
    (safe_or (closed_fault m) _ (safe_none _ c) (safe_or (job_fault m n) (record_fault k vr tr m bs) (safe_none _ j) (late_safe _ (late_record k vr tr m bs)))))
  where
    same : (o : Option Fault) (t : SplitTold) → fault_in (told_unless o t) ≡ o
    same None t = refl
    same (Some f) t = refl

late_counts : (V T : ℕ) → Late (counts_fault V T)
late_counts V T = go (between 3 16384 V) (between 2 32768 T)
  where
    go : (p q : Bool) → Late (cond p (cond q None (Some (SheetCounts Triangles))) (Some (SheetCounts Vertices)))
    go true true = omega arith
    go true false = omega arith
    go false q = omega arith

-- a survey
pub safe_survey : (V : ℕ) (ts : List Tri) → Safe (fault_in (surveyed V ts))
safe_survey V ts =
    subst Safe (sym (same (survey_fault V ts)))
    (late_safe (survey_fault V ts)
    (late_or (counts_fault V (length ts)) (shape_fault V ts) (late_counts V (length ts))
    (late_or (option_map BadCorners (first_bad V ts)) _ (late_at BadCorners (λ i. omega arith) (first_bad V ts))
    (late_or (option_map RepeatedSide (first_repeated ts)) _ (late_at RepeatedSide (λ i. omega arith) (first_repeated ts))
    (late_or (option_map OpenSide (first_open ts)) _ (late_at OpenSide (λ i. omega arith) (first_open ts)) (late_at NoSingleRing (λ i. omega arith) (first_unringed V ts)))))))
  where
    same : (o : Option Fault) → fault_in (counted_unless o V ts) ≡ o
    same None = refl
    same (Some f) = refl

-- a sheet writing
pub safe_writing : {P D : Type 0} (k : Kind P D) (m : Mesh P) (room : ℕ) → Safe (fault_in (writing_answer k m room))
safe_writing k m room = go (leb (mesh_size k m) room) (mesh_size k m)
  where
    go : (b : Bool) (n : ℕ) → Safe (fault_in (cond b (Ok n) (Err (ShortBuffer n))))
    go true n = late_safe None (omega arith)
    go false n = late_safe (Some (ShortBuffer n)) (omega arith)

pub safe_answer : Safe None
safe_answer = late_safe None (omega arith)
