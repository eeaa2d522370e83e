use Rattle.forest.proofs.Following.{triangles_follow}
use Rattle.forest.proofs.theorems.triangles_follow.Goals as goal

pub returns : goal.returns
returns c = triangles_follow
