use Rattle.record.proofs.Packing.{shifted}
use Rattle.record.proofs.numbers.number_in.Goals as goal

pub returns : goal.returns
returns g c = let e = shifted g.row.BITS g.row.PER c.requires in cc
