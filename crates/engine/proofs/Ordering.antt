-- The checks of a record, one after another.
use Rattle.std.proofs.Common.{◌≡◌, ℕ, ◌+◌, ◌-◌, ◌*◌, ◌≤◌, Bool, cond, leb, List, length, Some, None, Err, Option, Result, refl, sym, ap, ◌∙◌, arith, eqb-true, leb-true}
use Rattle.fault.specs.declared.fault.Fault.{Fault}
use Rattle.fault.specs.declared.fault.Fault.TheVariants.{MarkClosesLoop, SingleEdgeTree, CodeCount, VertexCapacity, TriangleCapacity}
use Rattle.fault.specs.Faults.{or_else}
use Rattle.fault.proofs.Orders.{or_none, test_passed}
use Rattle.std.specs.Option.{option_map}
use Rattle.mesh.specs.Triangles.{Tri}
use Rattle.mesh.specs.Closed.{Closed}
use Rattle.mesh.specs.Edges.{edges}
use Rattle.mesh.specs.Meshes.{Mesh, vertex_total, triangle_total}
use Rattle.mesh.proofs.Counting.{edges_counted}
use Rattle.forest.specs.Trees.{own, trees}
use Rattle.forest.specs.Splitting.{marked_of, forest_fault, unmarked_fault, first_closing, first_single}
use Rattle.runs.specs.Jobs.{mesh_unless}
use Rattle.runs.specs.Parts.{record_marks}
use Rattle.runs.specs.Outcome.{SplitTold, told_unless, edge_total, edges_marked, trees_formed, vertex_room_fault, triangle_room_fault}
use Rattle.runs.proofs.Parts.{marked_counted}
use Rattle.runs.proofs.Splits.{half_trees}
use Rattle.engine.specs.Calls.{growth_fault}
use Rattle.engine.proofs.Tallies.{edges_le}

-- a fault that is found, and checks that find none
pub found : {o : Option Fault} {f : Fault} (r : Option Fault) → Some f ≡ o → Some f ≡ or_else o r
found r e = ap (λ x. or_else x r) e

pub passed : {o r : Option Fault} → None ≡ o → r ≡ or_else o r
passed {r = r} e = ap (λ x. or_else x r) e

joined : (a b r : Option Fault) → or_else (or_else a b) r ≡ or_else a (or_else b r)
joined None b r = refl
joined (Some f) b r = refl

-- the checks of room, by the numbers of marked edges and of trees
pub room_told : {P : Type 0} (vr tr : ℕ) (m : Mesh P) (bs : List ℕ) (F K : ℕ) → F ≡ edges_marked m bs → K ≡ trees_formed m bs
    → (r : Option Fault) → or_else (growth_fault vr tr m F K) r ≡ or_else (vertex_room_fault vr m bs) (or_else (triangle_room_fault tr m bs) r)
room_told vr tr m bs F K e i r =
    ap (λ (o : Option Fault). or_else o r) (λ j. growth_fault vr tr m (e j) (i j)) ∙ joined (vertex_room_fault vr m bs) (triangle_room_fault tr m bs) r

-- the numbers of marked edges and of trees, as the record tells them
pub edges_told : {P : Type 0} (m : Mesh P) (bs : List ℕ) (n F : ℕ) → n ≡ edge_total m → F ≡ length (marked_of m.triangles (record_marks bs n)) → F ≡ edges_marked m bs
edges_told m bs n F e i = i ∙ ap (λ (x : ℕ). length (marked_of m.triangles (record_marks bs x))) e ∙ marked_counted m.triangles bs

pub trees_told : {P : Type 0} (m : Mesh P) (bs : List ℕ) (n K : ℕ) → n ≡ edge_total m → K ≡ length (trees (vertex_total m) (marked_of m.triangles (record_marks bs n))) → K ≡ trees_formed m bs
trees_told m bs n K e i = i ∙ ap (λ (x : ℕ). length (trees (vertex_total m) (marked_of m.triangles (record_marks bs x)))) e

-- the marked edges are at least twice the trees, and not more than the edges
pub trees_few : {P : Type 0} (m : Mesh P) (bs : List ℕ) (n c F K : ℕ) → Closed (vertex_total m) m.triangles → None ≡ forest_fault (vertex_total m) m.triangles (record_marks bs n) c
    → F ≡ length (marked_of m.triangles (record_marks bs n)) → K ≡ length (trees (vertex_total m) (marked_of m.triangles (record_marks bs n))) → 2 * K ≤ F
trees_few m bs n c F K closed e i j = let h = half_trees (vertex_total m) m.triangles (record_marks bs n) c closed (sym e) in omega arith

pub edges_few : {P : Type 0} (m : Mesh P) (bs : List ℕ) (n F : ℕ) → Closed (vertex_total m) m.triangles → triangle_total m ≤ 32768
    → F ≡ length (marked_of m.triangles (record_marks bs n)) → F ≤ 49152
edges_few m bs n F closed few e =
    let a = edges_le (edges m.triangles) (record_marks bs n) in let b = edges_counted (vertex_total m) m.triangles closed in omega arith

-- the checks of the call before those of the record
pub call_told : (a b c r : Option Fault) → or_else (or_else a (or_else b c)) r ≡ or_else a (or_else b (or_else c r))
call_told a b c r = joined a (or_else b c) r ∙ ap (or_else a) (joined b c r)

-- what a refusal tells, and what it leaves
pub answer_refused : {o : Option Fault} {f : Fault} (t : SplitTold) → Some f ≡ o → ◌≡◌ {A = Result SplitTold Fault} (Err f) (told_unless o t)
answer_refused t e = ap (λ o. told_unless o t) e

pub mesh_refused : {P : Type 0} {o : Option Fault} {f : Fault} (m m' : Mesh P) → Some f ≡ o → m ≡ mesh_unless o m m'
mesh_refused m m' e = ap (λ o. mesh_unless o m m') e

-- where the marks have no fault the codes are two for each marked edge but for one in each tree
pub codes_told : (V : ℕ) (ts : List Tri) (marks : List Bool) (n : ℕ) → None ≡ forest_fault V ts marks n → n ≡ 2 * (length (marked_of ts marks) - length (trees V (marked_of ts marks)))
codes_told V ts marks n e =
    let a = or_none (unmarked_fault (marked_of ts marks)) _ (sym e) in
    let b = or_none (option_map MarkClosesLoop (first_closing own 0 (edges ts) marks)) _ a.1 in
    let c = or_none (option_map SingleEdgeTree (first_single (marked_of ts marks) (trees V (marked_of ts marks)))) _ b.1 in
    eqb-true n _ (test_passed _ CodeCount c.1)

-- where there is room for the growth
pub growth_fits : {P : Type 0} (vr tr : ℕ) (m : Mesh P) (F K : ℕ) → None ≡ growth_fault vr tr m F K → triangle_total m + 2 * F - 2 * K ≤ tr
growth_fits vr tr m F K e = leb-true _ tr (test_passed _ TriangleCapacity (or_none (cond (leb (vertex_total m + F - K) vr) None (Some VertexCapacity)) _ (sym e)).1)
