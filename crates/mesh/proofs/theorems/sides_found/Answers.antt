use Rattle.mesh.proofs.Finding.{sides_found}
use Rattle.mesh.proofs.theorems.sides_found.Goals as goal

pub returns : goal.returns
returns c = sides_found
