use Rattle.std.proofs.Common.{◌≡◌, suc, ◌-◌, length, arith}
use Rattle.engine.proofs.Linking.{seek_within, seek_found, seek_next, seek_smaller, seek_none}
use Rattle.engine.proofs.index.Index.linked_side.Goals as goal

pub bounds-self-i : goal.bounds-self-i
bounds-self-i g c =
    let s = c.args.self.now in
    let is : c.loop-link.link ≡ suc (c.loop-link.link - 1) = omega arith in
    let w = seek_within (g.S.ReadingSurface.mesh s.surface.now).triangles c.args.u c.args.v c.loop-link.link (c.loop-link.link - 1) c.loop-link.invariant is in
    let e = s.ends_room in omega arith

pub bounds-self-i-in-loop-link : goal.bounds-self-i-in-loop-link
bounds-self-i-in-loop-link g c =
    let s = c.args.self.now in
    let is : c.loop-link.link ≡ suc (c.loop-link.link - 1) = omega arith in
    let w = seek_within (g.S.ReadingSurface.mesh s.surface.now).triangles c.args.u c.args.v c.loop-link.link (c.loop-link.link - 1) c.loop-link.invariant is in
    let e = s.nexts_room in omega arith

pub returns-then-self-i : goal.returns-then-self-i
returns-then-self-i g c =
    let s = c.args.self.now in
    let is : c.loop-link.link ≡ suc (c.loop-link.link - 1) = omega arith in
    seek_found (g.S.ReadingSurface.mesh s.surface.now).triangles c.args.u c.args.v c.loop-link.link (c.loop-link.link - 1) c.loop-link.invariant is s.firsts.now s.ends.now s.nexts.now s.linked c.if-self-i.true

pub loop-link-smaller : goal.loop-link-smaller
loop-link-smaller g c =
    let s = c.args.self.now in
    let is : c.loop-link.link ≡ suc (c.loop-link.link - 1) = omega arith in
    seek_smaller (g.S.ReadingSurface.mesh s.surface.now).triangles c.args.u c.args.v c.loop-link.link (c.loop-link.link - 1) c.loop-link.invariant is s.firsts.now s.ends.now s.nexts.now s.linked c.requires (length s.ends.now) s.ends_room

pub loop-link-preserved : goal.loop-link-preserved
loop-link-preserved g c =
    let s = c.args.self.now in
    let is : c.loop-link.link ≡ suc (c.loop-link.link - 1) = omega arith in
    seek_next (g.S.ReadingSurface.mesh s.surface.now).triangles c.args.u c.args.v c.loop-link.link (c.loop-link.link - 1) c.loop-link.invariant is s.firsts.now s.ends.now s.nexts.now s.linked c.requires c.if-self-i.false

pub returns : goal.returns
returns g c =
    let none : c.loop-link.link ≡ 0 = omega arith in
    seek_none (g.S.ReadingSurface.mesh c.args.self.now.surface.now).triangles c.args.u c.args.v c.loop-link.link c.loop-link.invariant none
