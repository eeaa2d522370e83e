use Rattle.std.proofs.Common.{arith}
use Rattle.engine.proofs.Planted.{none_marked, some_marked, marks_counted, all_climbing}
use Rattle.engine.proofs.planting.mark_edges.Goals as goal

pub returns-then-count-eq0-clause-fault : goal.returns-then-count-eq0-clause-fault
returns-then-count-eq0-clause-fault g c =
    none_marked _ c.set_marks-count.result
    (marks_counted (g.S.ReadingSurface.mesh c.args.s.now).triangles c.args.from.now.bytes.now c.args.from.now.edges c.set_marks-count.result c.requires.edges c.set_marks-count.ensures.count)
    c.if-count-eq0.true

pub returns-then-count-eq0-clause-climbing : goal.returns-then-count-eq0-clause-climbing
returns-then-count-eq0-clause-climbing g c =
    let n = c.list_edges.ensures.count in
    let l = c.list_edges.auto.keys in
    all_climbing c.list_edges.result c.list_edges.new.keys (omega arith) c.list_edges.ensures.climbing

pub returns-clause-fault : goal.returns-clause-fault
returns-clause-fault g c =
    some_marked _ c.set_marks-count.result
    (marks_counted (g.S.ReadingSurface.mesh c.args.s.now).triangles c.args.from.now.bytes.now c.args.from.now.edges c.set_marks-count.result c.requires.edges c.set_marks-count.ensures.count)
    c.if-count-eq0.false

pub returns-clause-count : goal.returns-clause-count
returns-clause-count g c = marks_counted (g.S.ReadingSurface.mesh c.args.s.now).triangles c.args.from.now.bytes.now c.args.from.now.edges c.set_marks-count.result c.requires.edges c.set_marks-count.ensures.count

pub returns-clause-climbing : goal.returns-clause-climbing
returns-clause-climbing g c =
    let n = c.list_edges.ensures.count in
    let l = c.list_edges.auto.keys in
    all_climbing c.list_edges.result c.list_edges.new.keys (omega arith) c.list_edges.ensures.climbing
