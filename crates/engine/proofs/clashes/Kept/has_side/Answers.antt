use Rattle.std.proofs.Common.{is_some, sym, ap, ◌∙◌, arith}
use Rattle.mesh.specs.Sides.{side_of}
use Rattle.mesh.specs.Triangles.{tri_of}
use Rattle.mesh.specs.Meshes.{vertex_total}
use Rattle.forest.specs.Tables.{word_tris}
use Rattle.engine.proofs.Clashing.{side_none, side_some, side_within}
use Rattle.engine.proofs.clashes.Kept.has_side.Goals as goal

pub returns-in_default : goal.returns-in_default
returns-in_default g c =
    let m = g.S.ReadingSurface.mesh c.args.self.now.surface.now in
    let self = c.args.self.now in
    sym (side_none (vertex_total m) m.triangles (word_tris self.corners.now) self.parents.now c.requires.led c.requires.once c.args.p c.args.q
    (sym (c.in_default.ensures ∙ (λ j. side_of m.triangles (c.came_from-from.ensures j) (c.came_from-to.ensures j)))))

pub triangle_at-requires : goal.triangle_at-requires
triangle_at-requires g c =
    let m = g.S.ReadingSurface.mesh c.args.self.now.surface.now in
    let h = side_within m.triangles c.came_from-from.result c.came_from-to.result c.in-Some.t (sym c.in-Some.ensures) in
    let w = c.requires.whole in
    omega arith

pub returns : goal.returns
returns g c =
    let m = g.S.ReadingSurface.mesh c.args.self.now.surface.now in
    let self = c.args.self.now in
    c.is_some.ensures
    ∙ (ap is_some c.side_corner.ensures
    ∙ side_some (vertex_total m) m.triangles (word_tris self.corners.now) self.parents.now c.requires.led c.requires.once c.args.p c.args.q c.in-Some.t (tri_of c.triangle_at.result)
    (sym (c.in-Some.ensures ∙ (λ j. side_of m.triangles (c.came_from-from.ensures j) (c.came_from-to.ensures j)))) c.triangle_at.ensures)
