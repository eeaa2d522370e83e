use Rattle.engine.proofs.Parts.{opens_push}
use Rattle.engine.proofs.polygons.push_part.Goals as goal

pub returns-clause-parts : goal.returns-clause-parts
returns-clause-parts c = opens_push c.args.others c.args.stack.now c.args.right c.args.left c.requires
