-- A split call, by its checks of the store and those of the record.
use Rattle.std.proofs.Common.{◌≡◌, ℕ, ◌+◌, ◌*◌, ◌/◌, ◌≤◌, List, Some, None, Option, sym, ◌∙◌, leb-true}
use Rattle.fault.specs.declared.fault.Fault.{Fault}
use Rattle.fault.specs.declared.fault.Fault.TheVariants.{ShortWorkTable}
use Rattle.fault.specs.Faults.{or_else}
use Rattle.fault.proofs.Orders.{or_none, test_passed}
use Rattle.place.specs.Kinds.{Kind}
use Rattle.mesh.specs.Closed.{Closed}
use Rattle.mesh.specs.Meshes.{Mesh, vertex_total}
use Rattle.runs.specs.Outcome.{edge_total, table_fault, closed_fault, record_fault}
use Rattle.runs.proofs.Splits.{passed_closed}
use Rattle.engine.specs.Calls.{call_fault, expected_fault}
use Rattle.engine.proofs.Ordering.{found, passed, call_told}
use Rattle.engine.proofs.Accepting.{edges_expected}

-- the checks that do not ask for the record
abbrev pub store_fault : {P : Type 0} → ℕ → ℕ → ℕ → Mesh P → ℕ → ℕ → Option Fault
store_fault vr tr table m V T = or_else (table_fault vr tr table) (or_else (closed_fault m) (expected_fault m V T))

-- the first of them is that of the table, and the others ask for the mesh
pub table_refuses : {P : Type 0} (vr tr table : ℕ) (m : Mesh P) (V T : ℕ) {f : Fault} → Some f ≡ table_fault vr tr table → Some f ≡ store_fault vr tr table m V T
table_refuses vr tr table m V T e = found (or_else (closed_fault m) (expected_fault m V T)) e

pub mesh_decides : {P : Type 0} (vr tr table : ℕ) (m : Mesh P) (V T : ℕ) {o : Option Fault} → None ≡ table_fault vr tr table → o ≡ or_else (closed_fault m) (expected_fault m V T) → o ≡ store_fault vr tr table m V T
mesh_decides vr tr table m V T e r = r ∙ passed e

-- a table that is long enough
pub table_long : (vr tr table : ℕ) → None ≡ table_fault vr tr table → 16 * (vr + tr) ≤ table
table_long vr tr table e = leb-true (16 * (vr + tr)) table (test_passed _ ShortWorkTable (sym e))

-- where they find no fault, the mesh is closed and has its edges
pub store_fine : {P : Type 0} (vr tr table : ℕ) (m : Mesh P) (V T : ℕ) → None ≡ store_fault vr tr table m V T → Closed (vertex_total m) m.triangles × (3 * T / 2 ≡ edge_total m)
store_fine vr tr table m V T e =
    let both = or_none (closed_fault m) (expected_fault m V T) (or_none (table_fault vr tr table) _ (sym e)).1 in
    let closed = (passed_closed m both.0).closed in (closed, edges_expected m V T closed both.1)

module _ {P D : Type 0} (k : Kind P D) (vr tr table : ℕ) (m : Mesh P) (V T : ℕ) (bs : List ℕ) where
  rest : or_else (store_fault vr tr table m V T) (record_fault k vr tr m bs) ≡ call_fault k vr tr table m V T bs
  rest = call_told (table_fault vr tr table) (closed_fault m) (expected_fault m V T) (record_fault k vr tr m bs)

  pub store_refuses : {f : Fault} → Some f ≡ store_fault vr tr table m V T → Some f ≡ call_fault k vr tr table m V T bs
  store_refuses e = found (record_fault k vr tr m bs) e ∙ rest

  -- and then the record decides
  pub record_decides : {o : Option Fault} → None ≡ store_fault vr tr table m V T → o ≡ record_fault k vr tr m bs → o ≡ call_fault k vr tr table m V T bs
  record_decides e r = r ∙ passed e ∙ rest

  -- a call without fault: the mesh is closed and has its edges, and the record has no fault
  pub call_fine : None ≡ call_fault k vr tr table m V T bs → Closed (vertex_total m) m.triangles × (3 * T / 2 ≡ edge_total m) × (record_fault k vr tr m bs ≡ None)
  call_fine e =
      let both = or_none (store_fault vr tr table m V T) (record_fault k vr tr m bs) (rest ∙ sym e) in
      let fine = store_fine vr tr table m V T (sym both.0) in (fine.0, fine.1, both.1)
