use Rattle.std.proofs.Common.{◌≡◌, ◌*◌, ◌/◌, length, None, Ok, Err, ap, ◌∙◌, rules}
use Rattle.mesh.specs.Closed.{Closed}
use Rattle.mesh.specs.Meshes.{vertex_total, triangle_total}
use Rattle.runs.specs.Jobs.{mesh_unless}
use Rattle.runs.specs.Outcome.{edge_total, told_unless, split_told, mesh_made, edges_marked, trees_formed, record_fault}
use Rattle.engine.specs.Calls.{call_answer}
use Rattle.engine.proofs.Ordering.{answer_refused, mesh_refused}
use Rattle.engine.proofs.Calling.{call_fine}
use Rattle.engine.proofs.Accepting.{edges_after, writable, made}
use Rattle.engine.proofs.splitting.split_in.Given as given
use Rattle.engine.proofs.splitting.split_in.Goals as goal
use Rattle.engine.proofs.splitting.split_in.Goals.{In_ok-forest, After-write_split}

-- the closed mesh, with its edges, and the record that has no fault
fine : (g : given.Over) (c : In_ok-forest g) → Closed (vertex_total (g.S.ReadingSurface.mesh c.args.store.now)) (g.S.ReadingSurface.mesh c.args.store.now).triangles × (3 * c.args.expected.triangles / 2 ≡ edge_total (g.S.ReadingSurface.mesh c.args.store.now)) × (record_fault g.P.Place.kind (g.S.GrowingStore.vertex_room c.args.store.now) (g.S.GrowingStore.triangle_room c.args.store.now) (g.S.ReadingSurface.mesh c.args.store.now) c.args.bytes.now ≡ None)
fine g c = call_fine g.P.Place.kind (g.S.GrowingStore.vertex_room c.args.store.now) (g.S.GrowingStore.triangle_room c.args.store.now) (length c.args.table.now) (g.S.ReadingSurface.mesh c.args.store.now) c.args.expected.vertices c.args.expected.triangles c.args.bytes.now c.in_ok-forest.ensures.fault

pub returns-in_err-forest-clause-answer : goal.returns-in_err-forest-clause-answer
returns-in_err-forest-clause-answer g c =
    let m = g.S.ReadingSurface.mesh c.args.store.now in
    let r : Err c.in_err-forest.field-0.0 ≡ call_answer g.P.Place.kind (g.S.GrowingStore.vertex_room c.args.store.now) (g.S.GrowingStore.triangle_room c.args.store.now) (length c.args.table.now) (g.S.ReadingSurface.mesh c.args.store.now) c.args.expected.vertices c.args.expected.triangles c.args.bytes.now = answer_refused (split_told (mesh_made g.P.Place.kind m c.args.bytes.now) (edges_marked m c.args.bytes.now) (trees_formed m c.args.bytes.now)) c.in_err-forest.ensures.fault in
    search rules

pub returns-in_err-forest-clause-mesh : goal.returns-in_err-forest-clause-mesh
returns-in_err-forest-clause-mesh g c = mesh_refused _ (mesh_made g.P.Place.kind (g.S.ReadingSurface.mesh c.args.store.now) c.args.bytes.now) c.in_err-forest.ensures.fault

pub write_split-requires : goal.write_split-requires
write_split-requires g c =
    let s = c.args.store.now in
    let f = fine g (goal.at.write_split-requires g c).In_ok-forest in
    let x = c.in_ok-forest.ensures in
    let w = c.in_ok-forest.sewing in
    let r = writable g.P.Place.kind g.met.P.Place.lawful (g.S.GrowingStore.vertex_room c.args.store.now) (g.S.GrowingStore.triangle_room c.args.store.now) (g.S.ReadingSurface.mesh c.args.store.now) c.args.bytes.now f.0 f.2 _ f.1 w.positions.now w.numbers.now w.corners.now w.added.now x.sewn in
    rw c.displacements.ensures r

-- the store's mesh as it is written
written : (g : given.Over) (c : After-write_split g) → Closed (vertex_total (g.S.ReadingSurface.mesh c.args.store.now)) (g.S.ReadingSurface.mesh c.args.store.now).triangles × (3 * c.args.expected.triangles / 2 ≡ edge_total (g.S.ReadingSurface.mesh c.args.store.now)) × (record_fault g.P.Place.kind (g.S.GrowingStore.vertex_room c.args.store.now) (g.S.GrowingStore.triangle_room c.args.store.now) (g.S.ReadingSurface.mesh c.args.store.now) c.args.bytes.now ≡ None)
    → g.S.ReadingSurface.mesh c.write_split.new.store ≡ mesh_made g.P.Place.kind (g.S.ReadingSurface.mesh c.args.store.now) c.args.bytes.now
written g c f =
    let x = c.in_ok-forest.ensures in
    let w = c.in_ok-forest.sewing in
    c.write_split.ensures.mesh
    ∙ rw c.displacements.ensures (made g.P.Place.kind g.met.P.Place.lawful (g.S.GrowingStore.vertex_room c.args.store.now) (g.S.GrowingStore.triangle_room c.args.store.now) (g.S.ReadingSurface.mesh c.args.store.now) c.args.bytes.now f.0 f.2 _ f.1 w.positions.now w.numbers.now w.corners.now w.added.now x.sewn)

pub returns-clause-answer : goal.returns-clause-answer
returns-clause-answer g c =
    let at = goal.at.returns-clause-answer g c in
    let f = fine g at.In_ok-forest in
    let x = c.in_ok-forest.ensures in
    let m = written g at.After-write_split f in
    let v = c.totals-totals.ensures.vertices ∙ ap vertex_total m in
    let t = c.totals-totals.ensures.triangles ∙ ap triangle_total m in
    let e = edges_after g.P.Place.kind g.met.P.Place.lawful (g.S.GrowingStore.vertex_room c.args.store.now) (g.S.GrowingStore.triangle_room c.args.store.now) (g.S.ReadingSurface.mesh c.args.store.now) c.args.bytes.now f.0 f.2 _ t in
    let b = (g.S.ReadingSurface.mesh c.args.store.now) in
    (λ i. Ok (record { vertices = v i; edges = e i; triangles = t i; forest_edges = x.edges i; trees = x.trees i }))
    ∙ ap (λ o. told_unless o (split_told (mesh_made g.P.Place.kind b c.args.bytes.now) (edges_marked b c.args.bytes.now) (trees_formed b c.args.bytes.now))) x.fault

pub returns-clause-mesh : goal.returns-clause-mesh
returns-clause-mesh g c =
    let at = goal.at.returns-clause-mesh g c in
    written g at.After-write_split (fine g at.In_ok-forest)
    ∙ ap (λ o. mesh_unless o (g.S.ReadingSurface.mesh c.args.store.now) (mesh_made g.P.Place.kind (g.S.ReadingSurface.mesh c.args.store.now) c.args.bytes.now)) c.in_ok-forest.ensures.fault
