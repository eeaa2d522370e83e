use Rattle.std.proofs.Common.{subst, arith}
use Rattle.mesh.specs.Sides.{sides}
use Rattle.engine.specs.Linking.{Linked}
use Rattle.engine.proofs.Linking.{sides_there}
use Rattle.engine.proofs.index.link_triangle.Goals as goal

pub returns : goal.returns
returns c = λ ts there l.
    let ss = sides ts in
    let n = c.args.n in
    let s = sides_there ts n c.args.t.a c.args.t.b c.args.t.c there in
    let l3 = subst (λ k. Linked ss k c.args.firsts.now c.args.ends.now c.args.nexts.now) (omega arith) l in
    let l2 = c.link_side.ensures ss s.2 l3 in
    let l2' = subst (λ k. Linked ss k c.link_side.new.firsts c.link_side.new.ends c.link_side.new.nexts) (omega arith) l2 in
    let l1 = c.link_side-2.ensures ss s.1 l2' in
    c.link_side-3.ensures ss s.0 l1
