use Rattle.std.proofs.Common.{◌≡◌, ◌*◌, ◌/◌, length, Some, None, sym, ap, ◌∙◌, subst, arith, rules}
use Rattle.fault.specs.Faults.{or_else}
use Rattle.fault.proofs.Orders.{checked_ok, checked_err}
use Rattle.mesh.specs.Closed.{Closed}
use Rattle.mesh.specs.Meshes.{vertex_total, triangle_total}
use Rattle.runs.specs.Outcome.{table_fault, closed_fault, edge_total}
use Rattle.engine.specs.Calls.{call_fault, expected_fault}
use Rattle.engine.proofs.Calling.{store_fault, store_fine, store_refuses, table_refuses, mesh_decides, table_long, record_decides}
use Rattle.engine.proofs.splitting.check_split.Given as given
use Rattle.engine.proofs.splitting.check_split.Goals as goal
use Rattle.engine.proofs.splitting.check_split.Goals.{In_ok-check_table, In_err-check_mesh, In_ok-check_mesh}

-- the table is long enough
long : (g : given.Over) (c : In_ok-check_table g) → None ≡ table_fault (g.S.GrowingStore.vertex_room c.args.store.now) (g.S.GrowingStore.triangle_room c.args.store.now) (length c.args.table.now)
long g c = checked_ok (table_fault (g.S.GrowingStore.vertex_room c.args.store.now) (g.S.GrowingStore.triangle_room c.args.store.now) (length c.args.table.now)) c.in_ok-check_table.ensures

-- the index has the store's mesh, so that what it is refused for is what the store is refused for
refused : (g : given.Over) (c : In_err-check_mesh g) → Some c.in_err-check_mesh.field-0.0 ≡ or_else (closed_fault (g.S.ReadingSurface.mesh c.args.store.now)) (expected_fault (g.S.ReadingSurface.mesh c.args.store.now) c.args.expected.vertices c.args.expected.triangles)
refused g c =
    checked_err (or_else (closed_fault (g.S.ReadingSurface.mesh c.new-index.result.surface.now)) (expected_fault (g.S.ReadingSurface.mesh c.new-index.result.surface.now) c.args.expected.vertices c.args.expected.triangles)) _ c.in_err-check_mesh.ensures
    ∙ ap (λ x. or_else (closed_fault (g.S.ReadingSurface.mesh x)) (expected_fault (g.S.ReadingSurface.mesh x) c.args.expected.vertices c.args.expected.triangles)) c.new-index.ensures

-- the store has no fault
stored : (g : given.Over) (c : In_ok-check_mesh g) → None ≡ store_fault (g.S.GrowingStore.vertex_room c.args.store.now) (g.S.GrowingStore.triangle_room c.args.store.now) (length c.args.table.now) (g.S.ReadingSurface.mesh c.args.store.now) c.args.expected.vertices c.args.expected.triangles
stored g c =
    mesh_decides (g.S.GrowingStore.vertex_room c.args.store.now) (g.S.GrowingStore.triangle_room c.args.store.now) (length c.args.table.now) (g.S.ReadingSurface.mesh c.args.store.now) c.args.expected.vertices c.args.expected.triangles (checked_ok (table_fault (g.S.GrowingStore.vertex_room c.args.store.now) (g.S.GrowingStore.triangle_room c.args.store.now) (length c.args.table.now)) c.in_ok-check_table.ensures)
    (checked_ok (or_else (closed_fault (g.S.ReadingSurface.mesh c.new-index.result.surface.now)) (expected_fault (g.S.ReadingSurface.mesh c.new-index.result.surface.now) c.args.expected.vertices c.args.expected.triangles)) c.in_ok-check_mesh.ensures
    ∙ ap (λ x. or_else (closed_fault (g.S.ReadingSurface.mesh x)) (expected_fault (g.S.ReadingSurface.mesh x) c.args.expected.vertices c.args.expected.triangles)) c.new-index.ensures)

fine : (g : given.Over) (c : In_ok-check_mesh g) → Closed (vertex_total (g.S.ReadingSurface.mesh c.args.store.now)) (g.S.ReadingSurface.mesh c.args.store.now).triangles × (3 * c.args.expected.triangles / 2 ≡ edge_total (g.S.ReadingSurface.mesh c.args.store.now))
fine g c = store_fine (g.S.GrowingStore.vertex_room c.args.store.now) (g.S.GrowingStore.triangle_room c.args.store.now) (length c.args.table.now) (g.S.ReadingSurface.mesh c.args.store.now) c.args.expected.vertices c.args.expected.triangles (stored g c)

pub returns-in_err-check_table-clause-fault : goal.returns-in_err-check_table-clause-fault
returns-in_err-check_table-clause-fault g c =
    let r : Some c.in_err-check_table.field-0.0 ≡ call_fault g.P.Place.kind (g.S.GrowingStore.vertex_room c.args.store.now) (g.S.GrowingStore.triangle_room c.args.store.now) (length c.args.table.now) (g.S.ReadingSurface.mesh c.args.store.now) c.args.expected.vertices c.args.expected.triangles c.args.from.now.bytes.now =
    store_refuses g.P.Place.kind (g.S.GrowingStore.vertex_room c.args.store.now) (g.S.GrowingStore.triangle_room c.args.store.now) (length c.args.table.now) (g.S.ReadingSurface.mesh c.args.store.now) c.args.expected.vertices c.args.expected.triangles c.args.from.now.bytes.now (table_refuses (g.S.GrowingStore.vertex_room c.args.store.now) (g.S.GrowingStore.triangle_room c.args.store.now) (length c.args.table.now) (g.S.ReadingSurface.mesh c.args.store.now) c.args.expected.vertices c.args.expected.triangles (checked_err (table_fault (g.S.GrowingStore.vertex_room c.args.store.now) (g.S.GrowingStore.triangle_room c.args.store.now) (length c.args.table.now)) _ c.in_err-check_table.ensures)) in
    search rules

pub split_at_mut-links-requires : goal.split_at_mut-links-requires
split_at_mut-links-requires g c =
    let h = table_long (g.S.GrowingStore.vertex_room c.args.store.now) (g.S.GrowingStore.triangle_room c.args.store.now) (length c.args.table.now) (long g (goal.at.split_at_mut-links-requires g c).In_ok-check_table) in
    let w = g.met.S.GrowingStore.within_room c.args.store.now in
    let v = w.vertices_fit in
    let t = w.triangles_fit in
    let s = c.size.ensures in omega arith

pub returns-in_err-check_mesh-clause-fault : goal.returns-in_err-check_mesh-clause-fault
returns-in_err-check_mesh-clause-fault g c =
    let at = goal.at.returns-in_err-check_mesh-clause-fault g c in
    let r : Some c.in_err-check_mesh.field-0.0 ≡ call_fault g.P.Place.kind (g.S.GrowingStore.vertex_room c.args.store.now) (g.S.GrowingStore.triangle_room c.args.store.now) (length c.args.table.now) (g.S.ReadingSurface.mesh c.args.store.now) c.args.expected.vertices c.args.expected.triangles c.args.from.now.bytes.now =
    store_refuses g.P.Place.kind (g.S.GrowingStore.vertex_room c.args.store.now) (g.S.GrowingStore.triangle_room c.args.store.now) (length c.args.table.now) (g.S.ReadingSurface.mesh c.args.store.now) c.args.expected.vertices c.args.expected.triangles c.args.from.now.bytes.now (mesh_decides (g.S.GrowingStore.vertex_room c.args.store.now) (g.S.GrowingStore.triangle_room c.args.store.now) (length c.args.table.now) (g.S.ReadingSurface.mesh c.args.store.now) c.args.expected.vertices c.args.expected.triangles (checked_ok (table_fault (g.S.GrowingStore.vertex_room c.args.store.now) (g.S.GrowingStore.triangle_room c.args.store.now) (length c.args.table.now)) c.in_ok-check_table.ensures) (refused g at.In_err-check_mesh)) in
    search rules

pub check_record-requires-clause-closed : goal.check_record-requires-clause-closed
check_record-requires-clause-closed g c =
    subst (λ x. Closed (vertex_total (g.S.ReadingSurface.mesh x)) (g.S.ReadingSurface.mesh x).triangles) (sym c.new-index.ensures) (fine g (goal.at.check_record-requires-clause-closed g c).In_ok-check_mesh).0

pub check_record-requires-clause-edges : goal.check_record-requires-clause-edges
check_record-requires-clause-edges g c =
    c.requires ∙ (fine g (goal.at.check_record-requires-clause-edges g c).In_ok-check_mesh).1 ∙ ap (λ x. edge_total (g.S.ReadingSurface.mesh x)) (sym c.new-index.ensures)

pub check_record-requires-clause-fits : goal.check_record-requires-clause-fits
check_record-requires-clause-fits g c =
    let w = g.met.S.GrowingStore.within_room c.args.store.now in
    let v = w.vertices_fit in
    let t = w.triangles_fit in
    let i = ap (λ x. vertex_total (g.S.ReadingSurface.mesh x)) c.new-index.ensures in
    let j = ap (λ x. triangle_total (g.S.ReadingSurface.mesh x)) c.new-index.ensures in
    let a = c.room-room.ensures.vertices in
    let b = c.room-room.ensures.triangles in
    record { vertices_fit = omega arith; triangles_fit = omega arith }

pub check_record-requires-clause-limited : goal.check_record-requires-clause-limited
check_record-requires-clause-limited g c =
    let w = g.S.GrowingStore.room_limited c.args.store.now in
    let v = w.vertices_few in
    let t = w.triangles_few in
    let a = c.room-room.ensures.vertices in
    let b = c.room-room.ensures.triangles in
    record { vertices_few = omega arith; triangles_few = omega arith }

pub check_record-requires-clause-room : goal.check_record-requires-clause-room
check_record-requires-clause-room g c =
    let h = table_long (g.S.GrowingStore.vertex_room c.args.store.now) (g.S.GrowingStore.triangle_room c.args.store.now) (length c.args.table.now) (long g (goal.at.check_record-requires-clause-room g c).In_ok-check_table) in
    let i = ap (λ x. vertex_total (g.S.ReadingSurface.mesh x)) c.new-index.ensures in
    let j = ap (λ x. triangle_total (g.S.ReadingSurface.mesh x)) c.new-index.ensures in
    let a = c.room-room.ensures.vertices in
    let b = c.room-room.ensures.triangles in
    let s = c.size.ensures in
    let p = c.split_at_mut-links.ensures.front_len in
    let q = c.split_at_mut-links.ensures.back_len in omega arith

pub returns-clause-fault : goal.returns-clause-fault
returns-clause-fault g c =
    record_decides g.P.Place.kind (g.S.GrowingStore.vertex_room c.args.store.now) (g.S.GrowingStore.triangle_room c.args.store.now) (length c.args.table.now) (g.S.ReadingSurface.mesh c.args.store.now) c.args.expected.vertices c.args.expected.triangles c.args.from.now.bytes.now (stored g (goal.at.returns-clause-fault g c).In_ok-check_mesh)
    (rw (← c.room-room.ensures.vertices, ← c.room-room.ensures.triangles, ← c.new-index.ensures) c.check_record.ensures.fault)

pub returns-clause-edges : goal.returns-clause-edges
returns-clause-edges g c = rw (← c.new-index.ensures) c.check_record.ensures.edges

pub returns-clause-trees : goal.returns-clause-trees
returns-clause-trees g c = rw (← c.new-index.ensures) c.check_record.ensures.trees

pub returns-clause-sewn : goal.returns-clause-sewn
returns-clause-sewn g c = rw (← c.new-index.ensures) c.check_record.ensures.sewn
