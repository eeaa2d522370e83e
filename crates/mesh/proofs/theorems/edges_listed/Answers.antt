use Rattle.mesh.proofs.Rise.{edges_listed}
use Rattle.mesh.proofs.theorems.edges_listed.Goals as goal

pub returns : goal.returns
returns c = edges_listed
