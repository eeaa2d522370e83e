use Rattle.std.proofs.Common.{arith}
use Rattle.record.proofs.Readiness.{Few, few}
use Rattle.record.proofs.parts.Parts.check.Goals as goal

pub overflow_cast-result : goal.overflow_cast-result
overflow_cast-result g c =
    let f : Few c.args.self.now.marks.now c.args.self.now.codes.now c.args.self.now.displacements.now = few g.P.Place.kind g.met.P.Place.lawful.displacement_narrow _ _ _ c.fit.result c.fit.ensures c.if-not-fit.false in
    omega arith
