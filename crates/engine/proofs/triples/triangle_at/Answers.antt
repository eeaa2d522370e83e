use Rattle.engine.proofs.Words.{word_at}
use Rattle.engine.proofs.triples.triangle_at.Goals as goal

pub returns : goal.returns
returns c = word_at c.args.words.now c.args.t c.requires
