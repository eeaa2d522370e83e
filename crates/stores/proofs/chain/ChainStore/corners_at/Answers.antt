use Rattle.std.proofs.Common.{◌*◌, ◌≤◌, length, arith, rules}
use Rattle.stores.specs.Chains.{next_at, first_at}
use Rattle.stores.proofs.Chains.{walk_longer}
use Rattle.stores.proofs.Rests.{holds_below}
use Rattle.stores.proofs.chain.ChainStore.corners_at.Goals as goal

pub invariant_of-result : goal.invariant_of-result
invariant_of-result g c =
    let s = c.args.self.now in
    let rs = s.tables.triangles.now in
    let h = first_at s.tables.vertices.now c.args.v in
    let n : s.triangle_count ≤ length rs = search rules in
    let w = walk_longer (3 * s.triangle_count) (3 * length rs) (next_at rs) h (s.ends c.args.v c.requires) (omega arith) in
    record {
      ends = w.1;
      within = λ k d l. rw w.0 (omega (arith, holds_below (3 * s.triangle_count) rs h c.args.v (s.holds c.args.v c.requires) k d (rw w.0 at l)));
    }

pub returns : goal.returns
returns g c =
    let s = c.args.self.now in
    let n : s.triangle_count ≤ length s.tables.triangles.now = search rules in
    (walk_longer (3 * s.triangle_count) (3 * length s.tables.triangles.now) (next_at s.tables.triangles.now) (first_at s.tables.vertices.now c.args.v) (s.ends c.args.v c.requires) (omega arith)).0
