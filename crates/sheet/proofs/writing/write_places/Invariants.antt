use Rattle.std.proofs.Common.{◌≡◌, ◌≤◌, take, drop}
use Rattle.mesh.specs.Meshes.{vertex_total, places}
use Rattle.mesh.specs.Passes.{places_left}
use Rattle.sheet.specs.Writing.{rows, vertex_bytes, put_at}
use Rattle.sheet.specs.ReadBack.{Held}
use Rattle.sheet.proofs.writing.write_places.Given as goal

abbrev pub invariant-loop-v : goal.invariant-loop-v
invariant-loop-v g l =
    let m = g.S.ReadingSurface.mesh l.surface in
    let v = l.v-iterator.count in
    (places_left g.S.ReadingSurface.mesh l.v-iterator.iter ≡ drop v (places m))
    × (v ≤ vertex_total m)
    × (l.out ≡ put_at 14 (rows (vertex_bytes g.S.Kind.Place.kind) (take v m.vertices)) l.initial.out)
    × Held g.S.Kind.Place.kind (take v m.vertices)
