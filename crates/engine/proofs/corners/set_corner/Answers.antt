use Rattle.std.proofs.Common.{arith}
use Rattle.engine.proofs.Slots.{corner_within, corner_set, corner_missed}
use Rattle.engine.proofs.corners.set_corner.Goals as goal

pub offset_bounds-corners-place : goal.offset_bounds-corners-place
offset_bounds-corners-place g c =
    let h = corner_within (g.S.ReadingSurface.mesh c.args.s.now).triangles c.args.mirror c.args.u c.args.v c.in-Some.place c.in-Some.ensures in
    let few = (g.S.ReadingSurface.limited c.args.s.now).few_triangles in
    omega arith

pub bounds-corners-place : goal.bounds-corners-place
bounds-corners-place g c = let h = corner_within (g.S.ReadingSurface.mesh c.args.s.now).triangles c.args.mirror c.args.u c.args.v c.in-Some.place c.in-Some.ensures in omega arith

pub returns-in-Some : goal.returns-in-Some
returns-in-Some g c = corner_set (g.S.ReadingSurface.mesh c.args.s.now).triangles c.args.mirror c.args.u c.args.v c.args.n c.in-Some.place c.args.corners.now c.requires.once c.in-Some.ensures

pub returns-in_default : goal.returns-in_default
returns-in_default g c = corner_missed (g.S.ReadingSurface.mesh c.args.s.now).triangles c.args.mirror c.args.u c.args.v c.args.n c.args.corners.now c.in_default.ensures
