use Rattle.std.proofs.Common.{◌≡◌, length}
use Rattle.runs.specs.Parts.{displacements_read}
use Rattle.forest.specs.Places.{first_refused}
use Rattle.forest.specs.Tables.{key_sides}
use Rattle.engine.proofs.Displacing.{refused_from}
use Rattle.engine.proofs.places.first_refused.Given as goal

abbrev pub invariant-loop-i : goal.invariant-loop-i
invariant-loop-i g l =
    let k = g.P.Place.kind in
    let vs = (g.S.ReadingSurface.mesh l.s).vertices in
    refused_from k g.met.P.Place.lawful vs l.positions l.numbers l.displacements l.i ≡ first_refused k vs (key_sides l.positions) l.numbers (displacements_read k (length l.positions) l.displacements)
