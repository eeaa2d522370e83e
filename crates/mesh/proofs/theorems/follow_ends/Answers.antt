use Rattle.mesh.proofs.Following.{follow_ends}
use Rattle.mesh.proofs.theorems.follow_ends.Goals as goal

pub returns : goal.returns
returns c = follow_ends
