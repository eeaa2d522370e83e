use Rattle.std.proofs.Common.{◌≡◌, ◌-◌}
use Rattle.mesh.specs.Follow.{back_steps}
use Rattle.mesh.specs.Meshes.{parents}
use Rattle.job.proofs.following.back_from.Given as goal

abbrev pub invariant-loop : goal.invariant-loop
invariant-loop g l =
    let ps = parents (g.S.ReadingSurface.mesh l.store) in
    back_steps (l.v - l.counter) ps l.at ≡ back_steps l.v ps l.v
