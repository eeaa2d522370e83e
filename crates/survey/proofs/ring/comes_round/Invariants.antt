use Rattle.std.proofs.Common.{◌≡◌, ◌-◌}
use Rattle.survey.specs.Ringwalk.{comes_round}
use Rattle.survey.proofs.ring.comes_round.Given as goal

abbrev pub invariant-loop : goal.invariant-loop
invariant-loop g l =
    let ts = (g.S.ReadingSurface.mesh l.s).triangles in
    comes_round ts l.v l.a (l.n - l.counter) l.x ≡ comes_round ts l.v l.a l.n l.b
