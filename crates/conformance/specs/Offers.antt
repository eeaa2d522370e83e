-- What comes out of a record that a case offers.
use Rattle.std.specs.Prelude.{if◌then◌else◌, Ok, Err, Result}
use Rattle.fault.specs.declared.fault.Fault.{Fault}
use Rattle.mesh.specs.Meshes.{Mesh}
use Rattle.mesh.specs.Growth.{may_replace_corner, replace_corner}
use Rattle.runs.specs.Outcome.{SplitTold}
use Rattle.conformance.specs.Answers.{refusal}
use Rattle.conformance.specs.declared.order.Order.{Order}
use Rattle.conformance.specs.declared.answer.Answer.{Answer}
use Rattle.conformance.specs.declared.answer.Answer.TheVariants.{Split, Refused}

-- the mesh with the corner that an order replaces, if it is one
abbrev pub ordered : {P : Type 0} → Mesh P → Order → Mesh P
ordered m o = if may_replace_corner m o.triangle o.corner o.vertex then replace_corner m o.triangle o.corner o.vertex else m

-- the answer of a split call by its definition
abbrev pub answer_by : Result SplitTold Fault → Answer
answer_by (Ok t) = Split (record { vertices = t.vertices; edges = t.edges; triangles = t.triangles; forest_edges = t.forest_edges; trees = t.trees })
answer_by (Err f) = Refused (refusal f)
