use Rattle.mesh.proofs.Counting.{edges_counted}
use Rattle.mesh.proofs.theorems.edges_counted.Goals as goal

pub returns : goal.returns
returns c = edges_counted
