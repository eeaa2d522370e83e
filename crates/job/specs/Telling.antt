-- What a job's calls tell, by the job's numbers.
use Rattle.std.specs.Prelude.{Ok, Err, Result}
use Rattle.fault.specs.declared.fault.Fault.{Fault}
use Rattle.mesh.specs.declared.limits.Totals.{Totals}
use Rattle.runs.specs.Jobs.{Numbers, fresh_numbers}

-- the numbers of a job whose base has these totals, or the fault
abbrev pub numbers_told : Result Totals Fault → Result Numbers Fault
numbers_told (Ok t) = Ok (fresh_numbers t.vertices t.triangles)
numbers_told (Err f) = Err f
