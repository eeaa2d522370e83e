use Rattle.engine.proofs.Marked.{one_way}
use Rattle.engine.proofs.marking.Marking.is_marked.Goals as goal

pub returns : goal.returns
returns c =
    let m = c.args.self.now in
    let way = one_way c.args.v c.args.x m.keys.now m.marks.now m.upward in
    let low = c.min.ensures in
    let high = c.max.ensures in
    let mark = c.has_mark.ensures in cc
