-- No loop of a tree comes round too early.
use Rattle.std.proofs.Common.{◌≡◌, ℕ, ◌-◌, ◌*◌, ◌<◌, Bool, true, false, cond, eqb, List, [], ◌∷◌, length, is_some, Some, None, Option, refl, ap, arith}
use Rattle.std.specs.Option.{option_map}
use Rattle.fault.specs.declared.fault.Fault.{Fault}
use Rattle.fault.specs.declared.fault.Fault.TheVariants.{ShortWorkTable, StoreNotClosed, StoreNotOfJob, VertexCapacity, TriangleCapacity, RecordLength, RecordVersion, RecordKind, MarksCutShort, SpareMarkBit, MarkClosesLoop, SingleEdgeTree, CodeCount, RecordSize, SpareCodeBit, LoopTooShort, NoDisplacedPlace}
use Rattle.fault.specs.Faults.{or_else, told}
use Rattle.place.specs.Kinds.{Kind}
use Rattle.mesh.specs.Triangles.{Tri}
use Rattle.mesh.specs.Sides.{Side}
use Rattle.mesh.specs.Edges.{edges}
use Rattle.mesh.specs.Meshes.{vertex_total}
use Rattle.survey.specs.Survey.{survey_fault}
use Rattle.record.specs.Parts.{code_count}
use Rattle.record.specs.Checks.{length_fault, version_fault, kind_fault, marks_fault, spare_mark_fault, head_fault, size_fault, code_bits_fault}
use Rattle.forest.specs.Splitting.{unmarked_fault, count_fault, forest_fault, marked_of, first_closing, first_single}
use Rattle.forest.specs.Trees.{own, trees}
use Rattle.forest.proofs.Wholes.{never_early}
use Rattle.runs.specs.Parts.{record_marks, record_codes}
use Rattle.runs.specs.Outcome as Outcome
use Rattle.runs.specs.Outcome.{edge_total, table_fault, closed_fault, job_fault, vertex_room_fault, triangle_room_fault, codes_fault, displacements_fault, record_fault}
use Rattle.runs.specs.Splits.{NeverTooShort}
use Rattle.runs.proofs.RightStore.{rank}
use Rattle.runs.proofs.Splits.{passed_closed}

-- no fault, or one with a number below 32
abbrev Under : Option Fault → Type 0
Under o = rank o < 32

under_or : (a b : Option Fault) → Under a → Under b → Under (or_else a b)
under_or None b h i = i
under_or (Some f) b h i = h

under_if : (b : Bool) (f : Fault) → (told f).number < 32 → Under (cond b None (Some f))
under_if true f h = omega arith
under_if false f h = h

under_at : (c : ℕ → Fault) → ((i : ℕ) → (told (c i)).number < 32) → (o : Option ℕ) → Under (option_map c o)
under_at c h None = omega arith
under_at c h (Some i) = h i

under_head : {P D : Type 0} (k : Kind P D) (bs : List ℕ) (m : ℕ) → Under (head_fault k bs m)
under_head k bs m =
    under_or (length_fault bs) _ (under_if _ RecordLength (omega arith))
    (under_or (version_fault bs) _ (under_if _ RecordVersion (omega arith))
    (under_or (kind_fault k bs) _ (under_if _ RecordKind (omega arith))
    (under_or (marks_fault bs m) (spare_mark_fault bs m) (under_if _ MarksCutShort (omega arith)) (under_if _ (SpareMarkBit _) (omega arith)))))

under_forest : (V : ℕ) (ts : List Tri) (bs : List Bool) (n : ℕ) → Under (forest_fault V ts bs n)
under_forest V ts bs n =
    let closing = first_closing own 0 (edges ts) bs in
    let single = first_single (marked_of ts bs) (trees V (marked_of ts bs)) in
    let count = count_fault V (marked_of ts bs) n in
    under_or (unmarked_fault (marked_of ts bs)) (or_else (option_map MarkClosesLoop closing) (or_else (option_map SingleEdgeTree single) count)) (some_mark (marked_of ts bs))
    (under_or (option_map MarkClosesLoop closing) (or_else (option_map SingleEdgeTree single) count) (under_at MarkClosesLoop (λ i. omega arith) closing)
    (under_or (option_map SingleEdgeTree single) count (under_at SingleEdgeTree (λ i. omega arith) single) (under_if (eqb n (2 * (length (marked_of ts bs) - length (trees V (marked_of ts bs))))) CodeCount (omega arith))))
  where
    some_mark : (ms : List Side) → Under (unmarked_fault ms)
    some_mark [] = omega arith
    some_mark (m ∷ ms) = omega arith

under_closed : (o : Option Fault) → Under (cond (is_some o) (Some StoreNotClosed) None)
under_closed None = omega arith
under_closed (Some f) = omega arith

-- a check whose numbers are below 32 passes, if the first fault has the number 32
past : (a b : Option Fault) (t : ℕ) → Under a → or_else a b ≡ Some (LoopTooShort t) → (a ≡ None) × (b ≡ Some (LoopTooShort t))
past None b t h e = (refl, e)
past (Some f) b t h e = let r = ap rank e in absurd (omega arith)

-- the first of two checks has it, if the second has another number
first_has : (a b : Option Fault) (t : ℕ) → (rank b ≡ 32 → ⊥) → or_else a b ≡ Some (LoopTooShort t) → a ≡ Some (LoopTooShort t)
first_has None b t h e = absurd (h (ap rank e))
first_has (Some f) b t h e = e

other_place : (o : Option ℕ) → rank (option_map NoDisplacedPlace o) ≡ 32 → ⊥
other_place None e = omega arith
other_place (Some i) e = omega arith

pub never_too_short : {P D : Type 0} (k : Kind P D) → NeverTooShort k
never_too_short k vr tr table m n bs t e =
    let a = past (table_fault vr tr table) _ t (under_if _ ShortWorkTable (omega arith)) e in
    let b = past (closed_fault m) _ t (under_closed (survey_fault (vertex_total m) m.triangles)) a.1 in
    let c = past (job_fault m n) (record_fault k vr tr m bs) t (under_if _ StoreNotOfJob (omega arith)) b.1 in
    let d = past (head_fault k bs (edge_total m)) _ t (under_head k bs (edge_total m)) c.1 in
    let f = past (Outcome.marks_fault m bs) _ t (under_forest (vertex_total m) m.triangles (record_marks bs (edge_total m)) (code_count bs)) d.1 in
    let g = past (size_fault k bs (edge_total m)) _ t (under_if _ RecordSize (omega arith)) f.1 in
    let h = past (vertex_room_fault vr m bs) _ t (under_if _ VertexCapacity (omega arith)) g.1 in
    let i = past (triangle_room_fault tr m bs) _ t (under_if _ TriangleCapacity (omega arith)) h.1 in
    let j = past (code_bits_fault bs (edge_total m)) _ t (under_if _ (SpareCodeBit _) (omega arith)) i.1 in
    let s = first_has (codes_fault m bs) (displacements_fault k m bs) t (other_place _) j.1 in
    (never_early (vertex_total m) m.triangles (record_marks bs (edge_total m))).1 (passed_closed m b.0).closed (code_count bs) f.0 (record_codes bs (edge_total m)) t s
