use Rattle.std.proofs.Common.{◌≡◌, ◌*◌, ◌≤◌, Some, None, Option, sym, ap, ◌∙◌, arith, rules}
use Rattle.fault.specs.declared.fault.Fault.{Fault}
use Rattle.fault.specs.Faults.{or_else}
use Rattle.fault.proofs.Orders.{checked_ok, checked_err}
use Rattle.mesh.specs.Meshes.{vertex_total}
use Rattle.mesh.proofs.Counting.{edges_counted}
use Rattle.record.specs.Parts.{code_count}
use Rattle.record.specs.Checks.{head_fault, size_fault, code_bits_fault}
use Rattle.forest.specs.Splitting.{forest_fault, sewing_fault}
use Rattle.runs.specs.Parts.{record_marks, record_codes}
use Rattle.runs.specs.Outcome.{edge_total, edges_marked, trees_formed, marks_fault, vertex_room_fault, triangle_room_fault, codes_fault, displacements_fault, record_fault}
use Rattle.engine.specs.Calls.{growth_fault}
use Rattle.engine.proofs.Ordering.{found, passed, room_told, edges_told, trees_told, trees_few, edges_few, codes_told, growth_fits}
use Rattle.engine.proofs.record_checks.check_record.Given as given
use Rattle.engine.proofs.record_checks.check_record.Goals as goal
use Rattle.engine.proofs.record_checks.check_record.Goals.{In_ok-check_head, In_ok-forest, In_ok-check_size, In_ok-check_room, In_ok-check_code_bits, In_ok-sewing}

-- Each check that finds no fault leaves the outcome to those behind it, r.
head : (g : given.Over) (c : In_ok-check_head g) {r : Option Fault} → r ≡ or_else (head_fault g.P.Place.kind c.args.from.now.bytes.now (edge_total (g.S.ReadingSurface.mesh c.args.s.now))) r
head g c = passed (checked_ok (head_fault g.P.Place.kind c.args.from.now.bytes.now c.args.from.now.edges) c.in_ok-check_head.ensures ∙ ap (head_fault g.P.Place.kind c.args.from.now.bytes.now) c.requires.edges)

marks : (g : given.Over) (c : In_ok-forest g) {r : Option Fault} → r ≡ or_else (marks_fault (g.S.ReadingSurface.mesh c.args.s.now) c.args.from.now.bytes.now) r
marks g c =
    let m = g.S.ReadingSurface.mesh c.args.s.now in
    passed (c.in_ok-forest.ensures.fault ∙ ap (λ x. forest_fault (vertex_total m) m.triangles (record_marks c.args.from.now.bytes.now x) (code_count c.args.from.now.bytes.now)) c.requires.edges)

size : (g : given.Over) (c : In_ok-check_size g) {r : Option Fault} → r ≡ or_else (size_fault g.P.Place.kind c.args.from.now.bytes.now (edge_total (g.S.ReadingSurface.mesh c.args.s.now))) r
size g c = passed (checked_ok (size_fault g.P.Place.kind c.args.from.now.bytes.now c.args.from.now.edges) c.in_ok-check_size.ensures ∙ ap (size_fault g.P.Place.kind c.args.from.now.bytes.now) c.requires.edges)

-- the forest's edges and trees are those of the record
edges : (g : given.Over) (c : In_ok-forest g) → c.in_ok-forest.forest.edges ≡ edges_marked (g.S.ReadingSurface.mesh c.args.s.now) c.args.from.now.bytes.now
edges g c = edges_told (g.S.ReadingSurface.mesh c.args.s.now) c.args.from.now.bytes.now c.args.from.now.edges _ c.requires.edges c.in_ok-forest.ensures.edges

trees : (g : given.Over) (c : In_ok-forest g) → c.in_ok-forest.forest.trees ≡ trees_formed (g.S.ReadingSurface.mesh c.args.s.now) c.args.from.now.bytes.now
trees g c = trees_told (g.S.ReadingSurface.mesh c.args.s.now) c.args.from.now.bytes.now c.args.from.now.edges _ c.requires.edges c.in_ok-forest.ensures.trees

-- the room that these ask for is the record's
room : (g : given.Over) (c : In_ok-forest g) (r : Option Fault) → or_else (growth_fault c.args.room.vertices c.args.room.triangles (g.S.ReadingSurface.mesh c.args.s.now) c.in_ok-forest.forest.edges c.in_ok-forest.forest.trees) r
    ≡ or_else (vertex_room_fault c.args.room.vertices (g.S.ReadingSurface.mesh c.args.s.now) c.args.from.now.bytes.now) (or_else (triangle_room_fault c.args.room.triangles (g.S.ReadingSurface.mesh c.args.s.now) c.args.from.now.bytes.now) r)
room g c r = room_told c.args.room.vertices c.args.room.triangles (g.S.ReadingSurface.mesh c.args.s.now) c.args.from.now.bytes.now c.in_ok-forest.forest.edges c.in_ok-forest.forest.trees (edges g c) (trees g c) r

fits : (g : given.Over) (c : In_ok-check_room g) → None ≡ growth_fault c.args.room.vertices c.args.room.triangles (g.S.ReadingSurface.mesh c.args.s.now) c.in_ok-forest.forest.edges c.in_ok-forest.forest.trees
fits g c = checked_ok (growth_fault c.args.room.vertices c.args.room.triangles (g.S.ReadingSurface.mesh c.args.s.now) c.in_ok-forest.forest.edges c.in_ok-forest.forest.trees) c.in_ok-check_room.ensures

code_bits : (g : given.Over) (c : In_ok-check_code_bits g) {r : Option Fault} → r ≡ or_else (code_bits_fault c.args.from.now.bytes.now (edge_total (g.S.ReadingSurface.mesh c.args.s.now))) r
code_bits g c = passed (checked_ok (code_bits_fault c.args.from.now.bytes.now c.args.from.now.edges) c.in_ok-check_code_bits.ensures ∙ ap (code_bits_fault c.args.from.now.bytes.now) c.requires.edges)

codes : (g : given.Over) (c : In_ok-sewing g) → None ≡ codes_fault (g.S.ReadingSurface.mesh c.args.s.now) c.args.from.now.bytes.now
codes g c =
    let m = g.S.ReadingSurface.mesh c.args.s.now in
    c.in_ok-sewing.ensures.fault ∙ ap (λ x. sewing_fault (vertex_total m) m.triangles (record_marks c.args.from.now.bytes.now x) (record_codes c.args.from.now.bytes.now x)) c.requires.edges

-- the marked edges are twice the trees or more
half : (g : given.Over) (c : In_ok-forest g) → 2 * c.in_ok-forest.forest.trees ≤ c.in_ok-forest.forest.edges
half g c =
    let x = c.in_ok-forest.ensures in
    trees_few (g.S.ReadingSurface.mesh c.args.s.now) c.args.from.now.bytes.now c.args.from.now.edges (code_count c.args.from.now.bytes.now) _ _ c.requires.closed x.fault x.edges x.trees

pub returns-in_err-check_head-clause-fault : goal.returns-in_err-check_head-clause-fault
returns-in_err-check_head-clause-fault g c =
    let h = checked_err (head_fault g.P.Place.kind c.args.from.now.bytes.now c.args.from.now.edges) _ c.in_err-check_head.ensures ∙ ap (head_fault g.P.Place.kind c.args.from.now.bytes.now) c.requires.edges in
    let r : Some c.in_err-check_head.field-0.0 ≡ record_fault g.P.Place.kind c.args.room.vertices c.args.room.triangles (g.S.ReadingSurface.mesh c.args.s.now) c.args.from.now.bytes.now = found _ h in search rules

pub plant-requires-clause-room : goal.plant-requires-clause-room
plant-requires-clause-room g c =
    let e = edges_counted (vertex_total (g.S.ReadingSurface.mesh c.args.s.now)) (g.S.ReadingSurface.mesh c.args.s.now).triangles c.requires.closed in
    let a = c.requires.edges in
    let r = c.requires.room in
    let w = c.requires.fits in
    let v = w.vertices_fit in
    let t = w.triangles_fit in omega arith

pub returns-in_err-check_size-clause-fault : goal.returns-in_err-check_size-clause-fault
returns-in_err-check_size-clause-fault g c =
    let h = checked_err (size_fault g.P.Place.kind c.args.from.now.bytes.now c.args.from.now.edges) _ c.in_err-check_size.ensures ∙ ap (size_fault g.P.Place.kind c.args.from.now.bytes.now) c.requires.edges in
    let r : Some c.in_err-check_size.field-0.0 ≡ record_fault g.P.Place.kind c.args.room.vertices c.args.room.triangles (g.S.ReadingSurface.mesh c.args.s.now) c.args.from.now.bytes.now =
    let at = goal.at.returns-in_err-check_size-clause-fault g c in found _ h ∙ marks g at.In_ok-forest ∙ head g at.In_ok-check_head in
    search rules

pub check_room-requires-clause-trees : goal.check_room-requires-clause-trees
check_room-requires-clause-trees g c = let h = half g (goal.at.check_room-requires-clause-trees g c).In_ok-forest in omega arith

pub check_room-requires-clause-few : goal.check_room-requires-clause-few
check_room-requires-clause-few g c =
    edges_few (g.S.ReadingSurface.mesh c.args.s.now) c.args.from.now.bytes.now c.args.from.now.edges _ c.requires.closed (g.S.ReadingSurface.limited c.args.s.now).few_triangles c.in_ok-forest.ensures.edges

pub returns-in_err-check_room-clause-fault : goal.returns-in_err-check_room-clause-fault
returns-in_err-check_room-clause-fault g c =
    let h = checked_err (growth_fault c.args.room.vertices c.args.room.triangles (g.S.ReadingSurface.mesh c.args.s.now) c.in_ok-forest.forest.edges c.in_ok-forest.forest.trees) _ c.in_err-check_room.ensures in
    let r : Some c.in_err-check_room.field-0.0 ≡ record_fault g.P.Place.kind c.args.room.vertices c.args.room.triangles (g.S.ReadingSurface.mesh c.args.s.now) c.args.from.now.bytes.now =
    let at = goal.at.returns-in_err-check_room-clause-fault g c in found _ h ∙ room g at.In_ok-forest _ ∙ size g at.In_ok-check_size ∙ marks g at.In_ok-forest ∙ head g at.In_ok-check_head in
    search rules

pub returns-in_err-check_code_bits-clause-fault : goal.returns-in_err-check_code_bits-clause-fault
returns-in_err-check_code_bits-clause-fault g c =
    let h = checked_err (code_bits_fault c.args.from.now.bytes.now c.args.from.now.edges) _ c.in_err-check_code_bits.ensures ∙ ap (code_bits_fault c.args.from.now.bytes.now) c.requires.edges in
    let r : Some c.in_err-check_code_bits.field-0.0 ≡ record_fault g.P.Place.kind c.args.room.vertices c.args.room.triangles (g.S.ReadingSurface.mesh c.args.s.now) c.args.from.now.bytes.now =
    let at = goal.at.returns-in_err-check_code_bits-clause-fault g c in found _ h ∙ passed (fits g at.In_ok-check_room) ∙ room g at.In_ok-forest _ ∙ size g at.In_ok-check_size ∙ marks g at.In_ok-forest ∙ head g at.In_ok-check_head in
    search rules

pub sew-requires-clause-few : goal.sew-requires-clause-few
sew-requires-clause-few g c =
    let at = goal.at.sew-requires-clause-few g c in
    let m = g.S.ReadingSurface.mesh c.args.s.now in
    let x = c.in_ok-forest.ensures in
    let n = codes_told (vertex_total m) m.triangles (record_marks c.args.from.now.bytes.now c.args.from.now.edges) (code_count c.args.from.now.bytes.now) x.fault in
    let f = growth_fits c.args.room.vertices c.args.room.triangles m _ _ (fits g at.In_ok-check_room) in
    let h = half g at.In_ok-forest in
    let e = x.edges in
    let t = x.trees in
    let l = c.requires.limited.triangles_few in omega arith

pub sew-requires-clause-room : goal.sew-requires-clause-room
sew-requires-clause-room g c =
    let at = goal.at.sew-requires-clause-room g c in
    let m = g.S.ReadingSurface.mesh c.args.s.now in
    let x = c.in_ok-forest.ensures in
    let n = codes_told (vertex_total m) m.triangles (record_marks c.args.from.now.bytes.now c.args.from.now.edges) (code_count c.args.from.now.bytes.now) x.fault in
    let f = growth_fits c.args.room.vertices c.args.room.triangles m _ _ (fits g at.In_ok-check_room) in
    let h = half g at.In_ok-forest in
    let e = x.edges in
    let t = x.trees in
    let d = edges_counted (vertex_total m) m.triangles c.requires.closed in
    let w = c.requires.edges in
    let r = c.requires.room in
    let in_room = c.requires.fits in
    let v = in_room.vertices_fit in
    let o = in_room.triangles_fit in
    let q = x.rest in
    let two = c.requires.closed.two in omega arith

pub returns-in_err-sewing-clause-fault : goal.returns-in_err-sewing-clause-fault
returns-in_err-sewing-clause-fault g c =
    let m = g.S.ReadingSurface.mesh c.args.s.now in
    let h = c.in_err-sewing.ensures.fault ∙ ap (λ x. sewing_fault (vertex_total m) m.triangles (record_marks c.args.from.now.bytes.now x) (record_codes c.args.from.now.bytes.now x)) c.requires.edges in
    let r : Some c.in_err-sewing.field-0.0 ≡ record_fault g.P.Place.kind c.args.room.vertices c.args.room.triangles m c.args.from.now.bytes.now =
    let at = goal.at.returns-in_err-sewing-clause-fault g c in found _ h ∙ code_bits g at.In_ok-check_code_bits ∙ passed (fits g at.In_ok-check_room) ∙ room g at.In_ok-forest _ ∙ size g at.In_ok-check_size ∙ marks g at.In_ok-forest ∙ head g at.In_ok-check_head in
    search rules

pub check_places-requires-clause-codes : goal.check_places-requires-clause-codes
check_places-requires-clause-codes g c = sym (codes g (goal.at.check_places-requires-clause-codes g c).In_ok-sewing)

pub returns-in_err-check_places-clause-fault : goal.returns-in_err-check_places-clause-fault
returns-in_err-check_places-clause-fault g c =
    let h = checked_err (displacements_fault g.P.Place.kind (g.S.ReadingSurface.mesh c.args.s.now) c.args.from.now.bytes.now) _ c.in_err-check_places.ensures in
    let r : Some c.in_err-check_places.field-0.0 ≡ record_fault g.P.Place.kind c.args.room.vertices c.args.room.triangles (g.S.ReadingSurface.mesh c.args.s.now) c.args.from.now.bytes.now =
    let at = goal.at.returns-in_err-check_places-clause-fault g c in h ∙ passed (codes g at.In_ok-sewing) ∙ code_bits g at.In_ok-check_code_bits ∙ passed (fits g at.In_ok-check_room) ∙ room g at.In_ok-forest _ ∙ size g at.In_ok-check_size ∙ marks g at.In_ok-forest ∙ head g at.In_ok-check_head in
    search rules

pub returns-clause-fault : goal.returns-clause-fault
returns-clause-fault g c =
    let at = goal.at.returns-clause-fault g c in
    checked_ok (displacements_fault g.P.Place.kind (g.S.ReadingSurface.mesh c.args.s.now) c.args.from.now.bytes.now) c.in_ok-check_places.ensures
    ∙ passed (codes g at.In_ok-sewing) ∙ code_bits g at.In_ok-check_code_bits ∙ passed (fits g at.In_ok-check_room) ∙ room g at.In_ok-forest _ ∙ size g at.In_ok-check_size ∙ marks g at.In_ok-forest ∙ head g at.In_ok-check_head

pub returns-clause-edges : goal.returns-clause-edges
returns-clause-edges g c = edges g (goal.at.returns-clause-edges g c).In_ok-forest

pub returns-clause-trees : goal.returns-clause-trees
returns-clause-trees g c = trees g (goal.at.returns-clause-trees g c).In_ok-forest
