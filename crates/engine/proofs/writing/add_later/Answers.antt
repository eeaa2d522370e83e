use Rattle.std.proofs.Common.{◌≤◌, length, get_or, refl, ◌∙◌, arith}
use Rattle.forest.specs.Tables.{key_side}
use Rattle.engine.proofs.Adding.{key_listed, adding_start, adding_room, adding_within, adding_more}
use Rattle.engine.proofs.writing.add_later.Goals as goal

pub loop-i-init : goal.loop-i-init
loop-i-init g c =
    let m = g.S.ReadingSurface.mesh c.args.store.now in
    (refl, adding_start g.P.Place.kind g.met.P.Place.lawful m.vertices c.args.positions.now c.args.numbers.now c.args.displacements.now, c.vertex_count-old.ensures, refl, refl)

pub add_if_later-requires-clause-parent : goal.add_if_later-requires-clause-parent
add_if_later-requires-clause-parent g c =
    let m = g.S.ReadingSurface.mesh c.args.store.now in
    let ps = c.args.positions.now in
    let i = c.loop-i.i in
    let low = c.requires.started (key_side (get_or ps i 0)) (key_listed ps i c.loop-i-test.true) in
    let more = adding_within g.P.Place.kind g.met.P.Place.lawful m.vertices ps c.args.numbers.now c.args.displacements.now i _ c.loop-i.invariant.1 in
    omega arith

pub add_if_later-requires-clause-room : goal.add_if_later-requires-clause-room
add_if_later-requires-clause-room g c = λ n.
    let m = g.S.ReadingSurface.mesh c.args.store.now in
    let v = c.loop-i.invariant in
    let o : length m.vertices ≤ get_or c.args.numbers.now c.loop-i.i 0 = omega (arith, v.2) in
    let more = adding_room g.P.Place.kind g.met.P.Place.lawful m.vertices c.args.positions.now c.args.numbers.now c.args.displacements.now c.loop-i.i _ c.requires.numbered c.requires.enough c.loop-i-test.true v.1 o in
    let room = v.3 in
    omega arith

pub loop-i-preserved : goal.loop-i-preserved
loop-i-preserved g c =
    let m = g.S.ReadingSurface.mesh c.args.store.now in
    let v = c.loop-i.invariant in
    let w = c.DISPLACEMENT_WIDTH.ensures ∙ g.met.P.Place.constant.displacement_width_told in
    let n = adding_more g.P.Place.kind g.met.P.Place.lawful m.vertices c.args.positions.now c.args.numbers.now c.args.displacements.now c.loop-i.i c.DISPLACEMENT_WIDTH.result c.vertex_count-old.result m
    (g.S.ReadingSurface.mesh c.loop-i.store) (g.S.ReadingSurface.mesh c.add_if_later.new.store) refl c.requires.numbered c.requires.enough c.requires.started c.loop-i-test.true w v.2 v.0 c.add_if_later.ensures.mesh v.1 in
    (n.0, n.1, v.2, c.add_if_later.ensures.room.0 ∙ v.3, c.add_if_later.ensures.room.1 ∙ v.4)
