-- When a mesh's counts are those that a job tells.
use Rattle.std.specs.Prelude.{Bool, false, ◌&&◌, Ok, Err, Result, ◌==◌}
use Rattle.fault.specs.declared.fault.Fault.{Fault}
use Rattle.survey.specs.declared.counts.Counts.{Counts}
use Rattle.job.specs.declared.closed.Report.{Report}

-- the survey found no fault, and as many vertices, edges and triangles as the report tells
abbrev pub balanced : Result Counts Fault → Report → Bool
balanced (Ok c) t = c.vertices == t.vertices && (c.edges == t.edges && c.triangles == t.triangles)
balanced (Err f) t = false
