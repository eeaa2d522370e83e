use Rattle.std.proofs.Common.{◌∙◌, arith}
use Rattle.mesh.specs.Meshes.{vertex_total}
use Rattle.engine.proofs.EdgeKeys.{ups_counted, front_sorted}
use Rattle.engine.proofs.edges.list_edges.Goals as goal

pub list_upward-count-requires-clause-room : goal.list_upward-count-requires-clause-room
list_upward-count-requires-clause-room g c =
    let m = g.S.ReadingSurface.mesh c.args.s.now in
    let e = ups_counted (vertex_total m) m.triangles c.requires.closed in
    let r = c.requires.room in omega arith

pub returns : goal.returns
returns g c =
    let m = g.S.ReadingSurface.mesh c.args.s.now in
    let V = vertex_total m in
    let e = ups_counted V m.triangles c.requires.closed in
    let l = c.list_upward-count.ensures in
    let r = c.requires.room in
    let s = c.sort_unstable.ensures in
    let a = c.list_upward-count.auto.keys in
    let h = front_sorted V m.triangles c.requires.closed c.list_upward-count.result c.list_upward-count.new.keys c.sort_unstable.new.self l.count l.listed (omega arith) s.permutation s.sorted in
    record { count = l.count ∙ e; listed = h.listed; climbing = h.climbing; upward = h.upward }
