use Rattle.std.proofs.Common.{sym}
use Rattle.sheet.specs.Writing.{sheet_written}
use Rattle.job.proofs.running.Running.write_sheet.Goals as goal

pub returns-clause-run : goal.returns-clause-run
unfolding sheet_written
returns-clause-run g c = sym c.write_sheet.ensures.answer
