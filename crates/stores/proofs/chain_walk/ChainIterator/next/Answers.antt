use Rattle.std.proofs.Common.{◌≡◌, ◌*◌, ◌<◌, suc, length, ap, arith}
use Rattle.std.proofs.lemmas.List.Elements.{All-tail}
use Rattle.stores.specs.Chains.{walk, next_at}
use Rattle.stores.proofs.Chains.{walk_turn}
use Rattle.stores.proofs.chain_walk.ChainIterator.next.Goals as goal

pub invariant_of-self : goal.invariant_of-self
invariant_of-self c =
    let s = c.args.self.now in
    let n = 3 * length s.triangles.now in
    let f = next_at s.triangles.now in
    let i = c.in_ok-i.i in
    let d : s.link ≡ suc i = omega (arith, c.in_ok-i.ensures) in
    let t = walk_turn n f s.link i s.ends d in
    record { ends = t.1; within = All-tail (λ j. j < n) i (walk n f _) (rw t.0 at s.within) }

pub returns-clause-steps : goal.returns-clause-steps
returns-clause-steps c =
    let s = c.args.self.now in
    let d : s.link ≡ suc c.in_ok-i.i = omega (arith, c.in_ok-i.ensures) in
    (walk_turn _ _ s.link c.in_ok-i.i s.ends d).0

pub returns-clause-goes : goal.returns-clause-goes
returns-clause-goes c =
    let s = c.args.self.now in
    let d : s.link ≡ suc c.in_ok-i.i = omega (arith, c.in_ok-i.ensures) in
    let t = (walk_turn (3 * length s.triangles.now) (next_at s.triangles.now) s.link c.in_ok-i.i s.ends d).0 in
    record { on = λ z. (tt, tt, omega (arith, ap length t)); keeps = tt; rests = λ z. tt }
