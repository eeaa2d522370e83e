-- The numbers of a running job, and what its calls answer.
use Rattle.std.specs.Prelude.{Ok, Err, Result}
use Rattle.fault.specs.declared.fault.Fault.{Fault}
use Rattle.runs.specs.Jobs.{Numbers}
use Rattle.runs.specs.Calls.{report}
use Rattle.job.specs.declared.running.Running.{Running}
use Rattle.job.specs.declared.opened.Refused.{Refused}
use Rattle.job.specs.declared.closed.Report.{Report}

abbrev pub job_of : Running → Numbers
job_of r = record { base_vertices = r.base_vertices; base_triangles = r.base_triangles; records = r.records; forest_edges = r.forest_edges; trees = r.trees }

-- the numbers of the job that a base call gives, or the fault
abbrev pub base_told : Result Running Refused → Result Numbers Fault
base_told (Ok r) = Ok (job_of r)
base_told (Err r) = Err r.fault

-- the report of a job with these numbers
abbrev pub report_of : Numbers → Report
report_of n =
    let t = report n in
    record { vertices = t.vertices; edges = t.edges; triangles = t.triangles; records = t.records; forest_edges = t.forest_edges; trees = t.trees }
