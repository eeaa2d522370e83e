use Rattle.std.proofs.Common.{[], sym, ap, subst, ◌∙◌, arith}
use Rattle.mesh.specs.Meshes.{vertex_total}
use Rattle.forest.specs.Numbering.{numbers}
use Rattle.forest.specs.Tables.{key_sides}
use Rattle.engine.specs.Writing.{Started}
use Rattle.engine.proofs.Moving.{key_numbers}
use Rattle.engine.proofs.Written.{vertex_room, corners_whole, corners_exchangeable, triangle_room, added_fitting, old_within, all_written}
use Rattle.engine.proofs.writing.write_split.Goals as goal

pub add_later-requires : goal.add_later-requires
add_later-requires g c =
    let k = g.P.Place.kind in
    let law = g.met.P.Place.lawful in
    let s = c.args.store.now in
    let m = g.S.ReadingSurface.mesh s in
    record {
      numbered = key_numbers (vertex_total m) c.args.positions.now c.args.numbers.now c.requires.numbered;
      started = c.requires.started;
      enough = c.requires.enough;
      room = vertex_room k law (g.S.GrowingStore.vertex_room s) (g.S.GrowingStore.triangle_room s) m c.args.positions.now c.args.numbers.now c.args.displacements.now c.args.corners.now c.args.added.now c.requires;
    }

pub replace_corners-requires : goal.replace_corners-requires
replace_corners-requires g c =
    let k = g.P.Place.kind in
    let law = g.met.P.Place.lawful in
    let s = c.args.store.now in
    let m = g.S.ReadingSurface.mesh s in
    let m1 = g.S.ReadingSurface.mesh c.add_later.new.store in
    record {
      whole = corners_whole k law (g.S.GrowingStore.vertex_room s) (g.S.GrowingStore.triangle_room s) m c.args.positions.now c.args.numbers.now c.args.displacements.now c.args.corners.now c.args.added.now c.requires m1 c.add_later.ensures.mesh;
      exchangeable = corners_exchangeable k law (g.S.GrowingStore.vertex_room s) (g.S.GrowingStore.triangle_room s) m c.args.positions.now c.args.numbers.now c.args.displacements.now c.args.corners.now c.args.added.now c.requires m1 c.add_later.ensures.mesh;
    }

pub add_triangles-requires : goal.add_triangles-requires
add_triangles-requires g c =
    let k = g.P.Place.kind in
    let law = g.met.P.Place.lawful in
    let s = c.args.store.now in
    let m = g.S.ReadingSurface.mesh s in
    let m1 = g.S.ReadingSurface.mesh c.add_later.new.store in
    let m2 = g.S.ReadingSurface.mesh c.replace_corners.new.store in
    let r = triangle_room k law (g.S.GrowingStore.vertex_room s) (g.S.GrowingStore.triangle_room s) m c.args.positions.now c.args.numbers.now c.args.displacements.now c.args.corners.now c.args.added.now c.requires m1 c.add_later.ensures.mesh m2 c.replace_corners.ensures.mesh in
    let a = c.add_later.ensures.room.1 in
    let b = c.replace_corners.ensures.room.1 in
    record {
      room = omega arith;
      fitting = added_fitting k law (g.S.GrowingStore.vertex_room s) (g.S.GrowingStore.triangle_room s) m c.args.positions.now c.args.numbers.now c.args.displacements.now c.args.corners.now c.args.added.now c.requires m1 c.add_later.ensures.mesh m2 c.replace_corners.ensures.mesh;
    }

pub move_kept-requires : goal.move_kept-requires
move_kept-requires g c =
    let k = g.P.Place.kind in
    let law = g.met.P.Place.lawful in
    let s = c.args.store.now in
    let m = g.S.ReadingSurface.mesh s in
    let m1 = g.S.ReadingSurface.mesh c.add_later.new.store in
    let m2 = g.S.ReadingSurface.mesh c.replace_corners.new.store in
    let m3 = g.S.ReadingSurface.mesh c.add_triangles.new.store in
    let o = c.vertex_count-old.ensures in
    record {
      within = old_within k law (g.S.GrowingStore.vertex_room s) (g.S.GrowingStore.triangle_room s) m c.args.positions.now c.args.numbers.now c.args.displacements.now c.args.corners.now c.args.added.now c.requires m1 c.add_later.ensures.mesh m2 c.replace_corners.ensures.mesh m3 c.add_triangles.ensures.mesh c.vertex_count-old.result o;
      numbered = c.requires.numbered ∙ ap (λ n. numbers [] n (key_sides c.args.positions.now)) (sym o);
      started = subst (λ n. Started n (key_sides c.args.positions.now)) (sym o) c.requires.started;
      enough = c.requires.enough;
    }

pub returns : goal.returns
returns g c =
    let k = g.P.Place.kind in
    let law = g.met.P.Place.lawful in
    let s = c.args.store.now in
    let m = g.S.ReadingSurface.mesh s in
    let m1 = g.S.ReadingSurface.mesh c.add_later.new.store in
    let m2 = g.S.ReadingSurface.mesh c.replace_corners.new.store in
    let m3 = g.S.ReadingSurface.mesh c.add_triangles.new.store in
    let x = c.add_later.ensures.room in
    let y = c.replace_corners.ensures.room in
    let z = c.add_triangles.ensures.room in
    let w = c.move_kept.ensures.room in
    record {
      mesh = all_written k law (g.S.GrowingStore.vertex_room s) (g.S.GrowingStore.triangle_room s) m c.args.positions.now c.args.numbers.now c.args.displacements.now c.args.corners.now c.args.added.now c.requires m1 c.add_later.ensures.mesh m2 c.replace_corners.ensures.mesh m3 c.add_triangles.ensures.mesh c.vertex_count-old.result _ c.vertex_count-old.ensures c.move_kept.ensures.mesh;
      room = (w.0 ∙ (z.0 ∙ (y.0 ∙ x.0)), w.1 ∙ (z.1 ∙ (y.1 ∙ x.1)));
    }
