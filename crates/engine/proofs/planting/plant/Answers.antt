use Rattle.std.proofs.Common.{sym, ◌∙◌, subst, rules, arith}
use Rattle.mesh.specs.Meshes.{vertex_total}
use Rattle.forest.specs.Loops.{around}
use Rattle.runs.specs.Parts.{record_marks}
use Rattle.engine.specs.Joining.{EndsBelow}
use Rattle.engine.proofs.Planted.{few_keys, ends_below, few_marks, few_roots, by_trees, roots_told, low_roots, mirrors_told}
use Rattle.engine.proofs.planting.plant.Goals as goal

pub list_forest-requires-clause-few : goal.list_forest-requires-clause-few
list_forest-requires-clause-few g c =
    let m = g.S.ReadingSurface.mesh c.args.s.now in
    let few = g.S.ReadingSurface.limited c.args.s.now in
    let l = few_keys (vertex_total m) m.triangles c.requires.closed c.mark_edges.new.keys c.mark_edges.ensures.listed few.few_triangles in
    omega arith

pub list_forest-requires-clause-below : goal.list_forest-requires-clause-below
list_forest-requires-clause-below g c =
    let m = g.S.ReadingSurface.mesh c.args.s.now in
    subst (λ n. EndsBelow n c.mark_edges.new.keys) (sym c.vertex_count-vertices.ensures) (ends_below (vertex_total m) m.triangles c.requires.closed c.mark_edges.new.keys c.mark_edges.ensures.listed)

pub check_codes-requires-clause-few : goal.check_codes-requires-clause-few
check_codes-requires-clause-few g c =
    let m = g.S.ReadingSurface.mesh c.args.s.now in
    let l = few_roots (vertex_total m) m.triangles c.requires.closed (record_marks c.args.from.now.bytes.now c.args.from.now.edges) c.mark_edges.new.keys c.mark_edges.new.marks c.mark_edges.ensures.listed c.mark_edges.ensures.flags
    c.vertex_count-vertices.result c.vertex_count-vertices.ensures c.in_ok-listed.listed.roots.now c.in_ok-listed.ensures.roots in
    let n = c.in_ok-edges.ensures.count in
    omega arith

pub check_codes-requires-clause-small : goal.check_codes-requires-clause-small
check_codes-requires-clause-small g c =
    let m = g.S.ReadingSurface.mesh c.args.s.now in
    let few = g.S.ReadingSurface.limited c.args.s.now in
    let l = few_marks (vertex_total m) m.triangles c.requires.closed (record_marks c.args.from.now.bytes.now c.args.from.now.edges) c.mark_edges.new.keys c.mark_edges.new.marks c.mark_edges.ensures.listed c.mark_edges.ensures.flags
    c.vertex_count-vertices.result c.vertex_count-vertices.ensures few.few_triangles in
    let n = c.in_ok-edges.ensures.count in
    omega arith

pub returns-clause-planted : goal.returns-clause-planted
returns-clause-planted g c =
    let m = g.S.ReadingSurface.mesh c.args.s.now in
    let V = vertex_total m in
    let ts = m.triangles in
    let bs = record_marks c.args.from.now.bytes.now c.args.from.now.edges in
    let few = g.S.ReadingSurface.limited c.args.s.now in
    let ks = c.mark_edges.new.keys in
    let ns = c.mark_edges.new.marks in
    let listed = c.mark_edges.ensures.listed in
    let flags = c.mark_edges.ensures.flags in
    let W = c.vertex_count-vertices.result in
    let is = c.vertex_count-vertices.ensures in
    let rs = c.in_ok-listed.listed.roots.now in
    let rooted = c.in_ok-listed.ensures.roots in
    record {
      keys_told = listed;
      climbing = c.mark_edges.ensures.climbing;
      upward = c.mark_edges.ensures.upward;
      marks_told = flags;
      paired = search rules;
      arounds_told = c.in_ok-listed.ensures.arounds ∙ by_trees V ts c.requires.closed bs ks ns listed flags W is around;
      roots_told = roots_told V ts c.requires.closed bs ks ns listed flags W is rs rooted;
      low_roots = low_roots V ts c.requires.closed bs ks ns listed flags W is rs rooted few.few_vertices;
      mirrors_told = mirrors_told V ts c.requires.closed bs ks ns listed flags W is rs rooted _ c.set_mirrors.ensures.flags;
    }
