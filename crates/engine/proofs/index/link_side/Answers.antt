use Rattle.engine.proofs.Linking.{linked_more, linked_past}
use Rattle.engine.proofs.index.link_side.Goals as goal

pub returns-then-u-firsts : goal.returns-then-u-firsts
returns-then-u-firsts c = λ ss there l.
    linked_more ss c.args.i c.args.u c.args.v there c.args.firsts.now c.args.ends.now c.args.nexts.now l c.requires.ends_room c.if-u-firsts.true c.requires.nexts_room

pub returns-else-u-firsts : goal.returns-else-u-firsts
returns-else-u-firsts c = λ ss there l.
    linked_past ss c.args.i c.args.u c.args.v there c.args.firsts.now c.args.ends.now c.args.nexts.now l c.requires.ends_room c.if-u-firsts.false
