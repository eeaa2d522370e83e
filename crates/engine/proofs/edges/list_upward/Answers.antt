use Rattle.std.proofs.Common.{◌≡◌, subst}
use Rattle.mesh.specs.Triangles.{tri_of}
use Rattle.mesh.specs.Meshes.{vertex_total}
use Rattle.mesh.specs.Passes.{triangles_left}
use Rattle.engine.proofs.EdgeKeys.{Listing, none_listed, next_small, next_room, one_listed, all_listed}
use Rattle.engine.proofs.edges.list_upward.Goals as goal

pub loop-t-init : goal.loop-t-init
loop-t-init g c =
    let m = g.S.ReadingSurface.mesh c.args.s.now in
    let few = g.S.ReadingSurface.limited c.args.s.now in
    let all : m.triangles ≡ triangles_left g.S.ReadingSurface.mesh c.into_iter-t-iterator.result = cc in
    subst (λ ts. Listing m.triangles ts 0 c.args.keys.now) all (none_listed (vertex_total m) m.triangles c.args.keys.now c.requires.closed few.few_vertices c.requires.room)

pub put_sides-count-requires : goal.put_sides-count-requires
put_sides-count-requires g c =
    let ts = (g.S.ReadingSurface.mesh c.args.s.now).triangles in
    let left = triangles_left g.S.ReadingSurface.mesh c.next.new.self in
    let t = tri_of c.in-Some.t in
    let i = subst (λ ts'. Listing ts ts' c.loop-t.count c.loop-t.keys) c.in-Some.ensures.steps c.loop-t.invariant in
    record { below = next_small ts t left c.loop-t.count c.loop-t.keys i; room = next_room ts t left c.loop-t.count c.loop-t.keys i }

pub loop-t-preserved : goal.loop-t-preserved
loop-t-preserved g c =
    let ts = (g.S.ReadingSurface.mesh c.args.s.now).triangles in
    let left = triangles_left g.S.ReadingSurface.mesh c.next.new.self in
    let t = tri_of c.in-Some.t in
    let i = subst (λ ts'. Listing ts ts' c.loop-t.count c.loop-t.keys) c.in-Some.ensures.steps c.loop-t.invariant in
    one_listed ts t left c.loop-t.count c.loop-t.keys c.put_sides-count.result c.put_sides-count.new.keys i c.put_sides-count.auto.keys c.put_sides-count.ensures.count c.put_sides-count.ensures.listed

pub returns : goal.returns
returns g c =
    let ts = (g.S.ReadingSurface.mesh c.args.s.now).triangles in
    let i = subst (λ ts'. Listing ts ts' c.loop-t.count c.loop-t.keys) c.in-None.ensures.steps.0 c.loop-t.invariant in
    record { count = (all_listed ts c.loop-t.count c.loop-t.keys i).0; listed = (all_listed ts c.loop-t.count c.loop-t.keys i).1 }
