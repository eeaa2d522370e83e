-- What a split call tells.
use Rattle.std.specs.Prelude.{Ok, Err, Result}
use Rattle.fault.specs.declared.fault.Fault.{Fault}
use Rattle.runs.specs.Outcome.{SplitTold}
use Rattle.engine.specs.declared.told.Told.{Told}

abbrev pub told_by : Result Told Fault → Result SplitTold Fault
told_by (Ok t) = Ok (record { vertices = t.vertices; edges = t.edges; triangles = t.triangles; forest_edges = t.forest_edges; trees = t.trees })
told_by (Err f) = Err f
