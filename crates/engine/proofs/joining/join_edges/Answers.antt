use Rattle.engine.proofs.Parents.{own_falling, left_all, left_more, left_closing, none_closing, all_links}
use Rattle.engine.proofs.joining.join_edges.Goals as goal

pub loop-e-init : goal.loop-e-init
loop-e-init c = let ps = c.args.parents.now in (own_falling ps c.requires.apart, left_all ps c.args.keys.now c.args.marks.now c.requires.apart)

pub loop-e-preserved : goal.loop-e-preserved
loop-e-preserved c = (
  c.join.ensures.falling,
  left_more c.loop-e.parents c.join.new.parents c.args.keys.now c.args.marks.now c.loop-e.e c.loop-e-test.true c.requires.paired c.loop-e.invariant.1 c.join.result c.join.ensures.joins c.if-not-join.false,
)

pub returns-then-not-join-clause-closing : goal.returns-then-not-join-clause-closing
returns-then-not-join-clause-closing c = left_closing c.loop-e.parents c.join.new.parents c.args.keys.now c.args.marks.now c.loop-e.e c.loop-e-test.true c.requires.paired c.loop-e.invariant.1 c.join.result c.join.ensures.joins c.if-not-join.true

pub returns-clause-closing : goal.returns-clause-closing
returns-clause-closing c = none_closing c.loop-e.parents c.args.keys.now c.args.marks.now c.loop-e.e c.loop-e-test.false c.loop-e.invariant.1

pub returns-clause-links : goal.returns-clause-links
returns-clause-links c = λ _. all_links c.loop-e.parents c.args.keys.now c.args.marks.now c.loop-e.e c.loop-e-test.false c.loop-e.invariant.1
