use Rattle.std.proofs.Common.{◌≡◌, ℕ, ◌+◌, ◌*◌, ◌≤◌, List, length, None, ap, ◌∙◌, arith, rules}
use Rattle.fault.proofs.Orders.{checked_ok, checked_err}
use Rattle.mesh.specs.Limits.{counts_fault}
use Rattle.mesh.specs.Meshes.{vertex_total, triangle_total}
use Rattle.sheet.specs.Writing.{written_size, short_fault, put_at}
use Rattle.sheet.proofs.Written.{size_is, short_none, answered, written, refused, unchanged}
use Rattle.sheet.proofs.Back.{reads_back, closed_counts}
use Rattle.sheet.proofs.writing.write_sheet.Goals as goal

pub returns-in_err-check_buffer : goal.returns-in_err-check_buffer
returns-in_err-check_buffer g c =
    let k = g.S.Kind.Place.kind in
    let law = g.met.S.Kind.Place.lawful in
    let m = g.S.ReadingSurface.mesh c.args.surface.now in
    let out = c.args.out.now in
    let size = c.sheet_size-size.result in
    let fault = c.in_err-check_buffer.field-0.0 in
    let short = checked_err (short_fault size (length out)) fault (c.in_err-check_buffer.ensures) in
    let e = size_is k m size _ _ c.sheet_size-size.ensures.value c.totals-totals.ensures.vertices c.totals-totals.ensures.triangles in
    let no = refused k law m out size fault e short in
    record { answer = search rules; written = unchanged k law m out size fault e short; back = search rules }

pub returns : goal.returns
returns g c =
    let k = g.S.Kind.Place.kind in
    let m = g.S.ReadingSurface.mesh c.args.surface.now in
    let law = g.met.S.Kind.Place.lawful in
    let out = c.args.out.now in
    let size = c.sheet_size-size.result in
    let V = c.totals-totals.result.vertices in
    let T = c.totals-totals.result.triangles in
    let vs = c.totals-totals.ensures.vertices in
    let ts = c.totals-totals.ensures.triangles in
    let ws = c.WIDTH.ensures ∙ g.met.S.Kind.Place.constant.width_told in
    let e = size_is k m size V T c.sheet_size-size.ensures.value vs ts in
    let h = short_none size (length out) (checked_ok (short_fault size (length out)) (c.in_ok-check_buffer.ensures)) in
    let room : written_size k m ≤ length out = omega arith in
    let limits = g.S.ReadingSurface.limited c.args.surface.now in
    let back = λ (e : counts_fault (vertex_total m) (triangle_total m) ≡ None). reads_back k law m (record { counts = e; held = c.write_places.ensures.held; numbered = c.write_triangles.ensures.numbered }) in
    let head = c.put.ensures ∙ ap (λ (bs : List ℕ). put_at 0 bs out) c.head_bytes.ensures in
    record {
      answer = answered k law m out room size e;
      written = written k law m out room c.behind_length.result c.KIND.result V T (14 + V * c.WIDTH.result) c.put.new.out c.write_places.new.out c.write_triangles.new.out
          (c.behind_length.ensures ∙ e) (c.KIND.ensures ∙ g.met.S.Kind.Place.constant.byte_told) vs ts (λ i. 14 + vs i * ws i) head c.write_places.ensures.after c.write_triangles.ensures.after;
      back = (back, λ d. back (closed_counts m limits d));
    }
