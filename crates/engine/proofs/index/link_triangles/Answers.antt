use Rattle.std.proofs.Common.{◌≡◌, ℕ, ◌*◌, ◌-◌, ◌<◌, ◌≤◌, length, get_or, sym, arith, rules}
use Rattle.mesh.specs.Sides.{sides}
use Rattle.mesh.proofs.Tests.{some_there}
use Rattle.engine.proofs.Linking.{sides_counted, linked_none}
use Rattle.engine.proofs.index.link_triangles.Goals as goal

pub loop-n-init : goal.loop-n-init
loop-n-init g c =
    let ts = (g.S.ReadingSurface.mesh c.args.s.now).triangles in
    let n = c.triangle_count-n.result in
    let zeros : (u : ℕ) → u < length c.fill.new.self → get_or c.fill.new.self u 0 ≡ 0 = λ u h. search rules in
    let e = sides_counted ts in
    let d = c.triangle_count-n.ensures in
    let all : length (sides ts) ≤ 3 * n = omega arith in
    linked_none (sides ts) (3 * n) c.fill.new.self c.args.ends.now c.args.nexts.now all zeros

pub loop-n-preserved : goal.loop-n-preserved
loop-n-preserved g c =
    let ts = (g.S.ReadingSurface.mesh c.args.s.now).triangles in
    let n = c.loop-n.n - 1 in
    let d = c.triangle_count-n.ensures in
    let h : n < length ts = let a = c.loop-n.auto.n in let t = c.loop-n-test.true in omega arith in
    absurd (some_there ts n h (sym c.in_default.ensures))
