use Rattle.std.proofs.Common.{length, ap, ◌∙◌, arith}
use Rattle.mesh.specs.Growth.{with_corner, changed}
use Rattle.stores.specs.Records.{front}
use Rattle.stores.specs.Chains.{corners_in}
use Rattle.stores.proofs.Growing.{same_mesh}
use Rattle.stores.proofs.Grown.{corner_moves, corner_moved}
use Rattle.stores.proofs.Moved.{relinked_long, refirsted_tall}
use Rattle.stores.proofs.chain_growing.ChainStoreGrowingStore.replace_corner.Goals as goal

pub before-before-requires : goal.before-before-requires
before-before-requires g c =
    let s = c.args.self.now in
    let w = corner_moves g.P.Place.kind s c.args.t c.args.corner c.from.result c.args.v _ c.if-not-may_replace_corner.false c.may_replace_corner.ensures c.from.ensures in
    omega (arith, w.one, w.corner)

pub unlink-requires-clause-within : goal.unlink-requires-clause-within
unlink-requires-clause-within g c =
    let s = c.args.self.now in
    let w = corner_moves g.P.Place.kind s c.args.t c.args.corner c.from.result c.args.v _ c.if-not-may_replace_corner.false c.may_replace_corner.ensures c.from.ensures in
    omega (arith, w.one, w.corner, s.triangles_fit)

pub unlink-requires-clause-there : goal.unlink-requires-clause-there
unlink-requires-clause-there g c =
    let s = c.args.self.now in
    let w = corner_moves g.P.Place.kind s c.args.t c.args.corner c.from.result c.args.v _ c.if-not-may_replace_corner.false c.may_replace_corner.ensures c.from.ensures in
    omega (arith, w.low, s.vertices_fit)

pub link-requires-clause-within : goal.link-requires-clause-within
link-requires-clause-within g c =
    let s = c.args.self.now in
    let w = corner_moves g.P.Place.kind s c.args.t c.args.corner c.from.result c.args.v _ c.if-not-may_replace_corner.false c.may_replace_corner.ensures c.from.ensures in
    omega (arith, w.one, w.corner, s.triangles_fit, ap length c.unlink.ensures.corners, relinked_long)

pub link-requires-clause-small : goal.link-requires-clause-small
link-requires-clause-small g c =
    let s = c.args.self.now in
    let w = corner_moves g.P.Place.kind s c.args.t c.args.corner c.from.result c.args.v _ c.if-not-may_replace_corner.false c.may_replace_corner.ensures c.from.ensures in
    omega (arith, w.one, w.corner, s.triangles_fit)

pub link-requires-clause-there : goal.link-requires-clause-there
link-requires-clause-there g c =
    let s = c.args.self.now in
    let w = corner_moves g.P.Place.kind s c.args.t c.args.corner c.from.result c.args.v _ c.if-not-may_replace_corner.false c.may_replace_corner.ensures c.from.ensures in
    omega (arith, w.vertex, s.vertices_fit, ap length c.unlink.ensures.firsts, refirsted_tall)

pub invariant_of-self : goal.invariant_of-self
invariant_of-self g c =
    let s = c.args.self.now in
    let w = corner_moves g.P.Place.kind s c.args.t c.args.corner c.from.result c.args.v _ c.if-not-may_replace_corner.false c.may_replace_corner.ensures c.from.ensures in
    let a = corner_moved g.P.Place.kind s c.args.t c.from.result c.args.v c.before-before.result w c.before-before.ensures
    c.unlink.ensures.corners c.unlink.ensures.firsts c.link.ensures.corners c.link.ensures.firsts in
    record { triangles_fit = omega (arith, s.triangles_fit, a.long); vertices_fit = omega (arith, s.vertices_fit, a.tall); placed = a.kept.placed; ends = a.kept.ends; holds = a.kept.holds }

pub returns-clause-after : goal.returns-clause-after
returns-clause-after g c =
    let s = c.args.self.now in
    let w = corner_moves g.P.Place.kind s c.args.t c.args.corner c.from.result c.args.v _ c.if-not-may_replace_corner.false c.may_replace_corner.ensures c.from.ensures in
    let a = corner_moved g.P.Place.kind s c.args.t c.from.result c.args.v c.before-before.result w c.before-before.ensures
    c.unlink.ensures.corners c.unlink.ensures.firsts c.link.ensures.corners c.link.ensures.firsts in
    same_mesh (a.triangles ∙ ap (λ k. changed (with_corner k c.args.v) c.args.t (front corners_in s.triangle_count s.tables.triangles.now)) c.from.ensures) a.vertices
