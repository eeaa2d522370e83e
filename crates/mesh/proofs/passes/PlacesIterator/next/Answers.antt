use Rattle.std.proofs.Common.{ap, length, arith, rules}
use Rattle.mesh.proofs.Passing.{places_more, places_none}
use Rattle.mesh.proofs.passes.PlacesIterator.next.Goals as goal

pub returns-in_err-place-clause-steps : goal.returns-in_err-place-clause-steps
returns-in_err-place-clause-steps g c = search (rules, places_none)

pub overflow_add-self : goal.overflow_add-self
overflow_add-self g c =
    let s = c.args.self.now in
    let few = g.S.ReadingSurface.limited s.surface.now in
    let h = (places_more (g.S.ReadingSurface.mesh s.surface.now) s.next _ c.in_ok-place.ensures).0 in search rules

pub returns-clause-steps : goal.returns-clause-steps
returns-clause-steps g c = let s = c.args.self.now in (places_more (g.S.ReadingSurface.mesh s.surface.now) s.next _ c.in_ok-place.ensures).1

pub returns-clause-goes : goal.returns-clause-goes
returns-clause-goes g c =
    let s = c.args.self.now in
    let h = (places_more (g.S.ReadingSurface.mesh s.surface.now) s.next _ c.in_ok-place.ensures).1 in
    record { on = λ z. (tt, tt, omega (arith, ap length h)); keeps = tt; rests = λ z. tt }
