use Rattle.forest.proofs.Means.{labels_meant}
use Rattle.forest.proofs.theorems.labels_meant.Goals as goal

pub returns : goal.returns
returns c = labels_meant
