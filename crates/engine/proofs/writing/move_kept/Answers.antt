use Rattle.std.proofs.Common.{◌≡◌, length, take, drop, refl, sym, ap, subst, ◌∙◌}
use Rattle.std.proofs.lemmas.List.{length-take-le}
use Rattle.mesh.specs.Meshes.{mesh_of}
use Rattle.forest.specs.Tables.{key_sides}
use Rattle.engine.specs.Writing.{Started}
use Rattle.engine.proofs.Moving.{moving_first, moving_next, moving_end, key_numbers}
use Rattle.engine.proofs.writing.move_kept.Goals as goal

pub loop-i-init : goal.loop-i-init
loop-i-init g c =
    let m = g.S.ReadingSurface.mesh c.args.store.now in
    (refl, moving_first g.P.Place.kind g.met.P.Place.lawful c.args.old m c.args.positions.now c.args.numbers.now c.args.displacements.now c.requires.within c.requires.numbered, refl, refl)

pub loop-i-preserved : goal.loop-i-preserved
loop-i-preserved g c =
    let m = g.S.ReadingSurface.mesh c.args.store.now in
    let v = c.loop-i.invariant in
    let w = c.DISPLACEMENT_WIDTH.ensures ∙ g.met.P.Place.constant.displacement_width_told in
    let old : c.args.old ≡ length (take c.args.old m.vertices) = sym (length-take-le c.args.old m.vertices c.requires.within) in
    let st = subst (λ n. Started n (key_sides c.args.positions.now)) old c.requires.started in
    let n = moving_next g.P.Place.kind g.met.P.Place.lawful (take c.args.old m.vertices) (drop c.args.old m.vertices) c.args.positions.now c.args.numbers.now c.args.displacements.now c.loop-i.i c.DISPLACEMENT_WIDTH.result c.args.old m.triangles
    (g.S.ReadingSurface.mesh c.loop-i.store) (g.S.ReadingSurface.mesh c.move_if_kept.new.store) (key_numbers c.args.old c.args.positions.now c.args.numbers.now c.requires.numbered) c.requires.enough st c.loop-i-test.true w old v.0 c.move_if_kept.ensures.mesh v.1 in
    (n.0, n.1, c.move_if_kept.ensures.room.0 ∙ v.2, c.move_if_kept.ensures.room.1 ∙ v.3)

pub returns : goal.returns
returns g c =
    let m = g.S.ReadingSurface.mesh c.args.store.now in
    let v = c.loop-i.invariant in
    let all = moving_end g.P.Place.kind g.met.P.Place.lawful (take c.args.old m.vertices) (drop c.args.old m.vertices) c.args.positions.now c.args.numbers.now c.args.displacements.now c.loop-i.i _ c.loop-i-test.false v.1 in
    record { mesh = v.0 ∙ ap (mesh_of m.triangles) all; room = (v.2, v.3) }
