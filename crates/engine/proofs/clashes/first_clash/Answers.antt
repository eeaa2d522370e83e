use Rattle.std.proofs.Common.{◌≡◌, ◌+◌, ℕ, true, false, Some, sym, ap, refl, ◌∙◌, arith}
use Rattle.mesh.specs.Triangles.{tri_of}
use Rattle.mesh.specs.Sides.{sides}
use Rattle.mesh.specs.Meshes.{triangle_total, vertex_total}
use Rattle.forest.specs.Tables.{word_tris}
use Rattle.forest.specs.Theorems.{first_with}
use Rattle.engine.proofs.Clashing.{sewable_leading, sewable_twice, with_here, with_end}
use Rattle.engine.proofs.clashes.first_clash.Goals as goal

pub loop-t-init : goal.loop-t-init
loop-t-init g c =
    let n = triangle_total (g.S.ReadingSurface.mesh c.args.s.now) in
    let e : n + 0 ≡ n = omega arith in
    ap (λ (i : ℕ). first_with i (sides (word_tris c.args.corners.now)) (word_tris c.args.added.now)) e

pub has_side_of-requires : goal.has_side_of-requires
has_side_of-requires g c =
    let m = g.S.ReadingSurface.mesh c.args.s.now in
    sewable_leading (vertex_total m) m.triangles (word_tris c.args.corners.now) c.args.parents.now (word_tris c.args.added.now) c.requires.sewable m c.args.corners.now refl refl refl c.requires.whole

pub returns-then-has_side_of : goal.returns-then-has_side_of
returns-then-has_side_of g c =
    let m = g.S.ReadingSurface.mesh c.args.s.now in
    let n = triangle_total m in
    let h = with_here n (sides (word_tris c.args.corners.now)) (word_tris c.args.added.now) c.loop-t.t (tri_of c.triangle_at.result) true c.triangle_at.ensures (sym c.has_side_of.ensures ∙ c.if-has_side_of.true) in
    ap (λ (i : ℕ). Some (i + c.loop-t.t)) c.triangle_count-old.ensures
    ∙ (sym h ∙ (c.loop-t.invariant ∙ sewable_twice (vertex_total m) m.triangles (word_tris c.args.corners.now) c.args.parents.now (word_tris c.args.added.now) c.requires.sewable))

pub loop-t-preserved : goal.loop-t-preserved
loop-t-preserved g c =
    let n = triangle_total (g.S.ReadingSurface.mesh c.args.s.now) in
    let h = with_here n (sides (word_tris c.args.corners.now)) (word_tris c.args.added.now) c.loop-t.t (tri_of c.triangle_at.result) false c.triangle_at.ensures (sym c.has_side_of.ensures ∙ c.if-has_side_of.false) in
    sym h ∙ c.loop-t.invariant

pub returns : goal.returns
returns g c =
    let m = g.S.ReadingSurface.mesh c.args.s.now in
    let n = triangle_total m in
    let h = with_end n (sides (word_tris c.args.corners.now)) c.args.added.now c.loop-t.t c.loop-t-test.false in
    sym h ∙ (c.loop-t.invariant ∙ sewable_twice (vertex_total m) m.triangles (word_tris c.args.corners.now) c.args.parents.now (word_tris c.args.added.now) c.requires.sewable)
