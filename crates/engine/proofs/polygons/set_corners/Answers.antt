use Rattle.engine.proofs.Parts.{corners_set}
use Rattle.engine.proofs.polygons.set_corners.Goals as goal

pub returns : goal.returns
returns c = corners_set c.args.words.now c.args.i c.args.a c.args.b c.args.c c.requires
