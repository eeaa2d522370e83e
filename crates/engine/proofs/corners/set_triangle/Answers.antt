use Rattle.engine.proofs.Slots.{words_three}
use Rattle.engine.proofs.corners.set_triangle.Goals as goal

pub returns : goal.returns
returns c = words_three c.args.corners.now c.args.t c.args.triangle.a c.args.triangle.b c.args.triangle.c
