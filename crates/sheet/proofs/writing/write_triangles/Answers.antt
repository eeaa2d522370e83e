use Rattle.std.proofs.Common.{◌≡◌, ℕ, ◌+◌, ◌*◌, List, length, sym, ap, ◌∙◌, arith, rules}
use Rattle.mesh.specs.Triangles.{tri_of}
use Rattle.mesh.specs.Passes.{triangles_left}
use Rattle.std.proofs.lemmas.Option.{slice_get_within}
use Rattle.mesh.proofs.Passing.{left_turn, left_end}
use Rattle.sheet.specs.Writing.{triangle_bytes, put_at}
use Rattle.sheet.specs.ReadBack.{ShortCorners}
use Rattle.sheet.proofs.Joins.{put_none}
use Rattle.sheet.proofs.Rows.{each_more, each_all, rows_all, row_put}
use Rattle.sheet.proofs.Written.{triangle_long}
use Rattle.sheet.proofs.writing.write_triangles.Goals as goal

pub loop-t-init : goal.loop-t-init
loop-t-init g c =
    let s = c.into_iter-t-iterator.result in
    let z : s.count ≡ 0 = search rules in
    let left : triangles_left g.S.ReadingSurface.mesh s.iter ≡ (g.S.ReadingSurface.mesh c.args.surface.now).triangles = search rules in
    rw z (left, omega arith, sym (put_none c.args.at c.args.out.now), λ x m. elim m [ ])

pub loop-t-preserved : goal.loop-t-preserved
loop-t-preserved g c =
    let ts = (g.S.ReadingSurface.mesh c.args.surface.now).triangles in
    let t = c.loop-t.t-iterator.count in
    let i = c.loop-t.invariant in
    let now = c.in-Some.ensures.steps in
    let at = c.args.at in
    let x = tri_of c.in-Some.triangle in
    let turn = left_turn ts t x _ (sym i.0 ∙ now.0) in
    let there = sym turn.0 in
    let h = slice_get_within ts t x there in
    rw now.2 (
      turn.1,
      omega arith,
      row_put triangle_bytes 12 triangle_long at (at + c.in-Some.t * 12) t ts x c.args.out.now c.loop-t.out c.put.new.out h there c.requires (ap (λ (n : ℕ). at + n * 12) now.1) i.2 (c.put.ensures ∙ ap (λ (bs : List ℕ). put_at (at + c.in-Some.t * 12) bs c.loop-t.out) c.triangle_bytes.ensures.value),
      each_more ShortCorners ts t x h there i.3 c.triangle_bytes.ensures.short,
    )

pub returns : goal.returns
returns g c =
    let ts = (g.S.ReadingSurface.mesh c.args.surface.now).triangles in
    let t = c.loop-t.t-iterator.count in
    let i = c.loop-t.invariant in
    let end = left_end ts t (sym i.0 ∙ c.in-None.ensures.steps.0.0) in
    let e : t ≡ length ts = omega arith in
    record {
      after = rows_all triangle_bytes c.args.at t ts c.args.out.now c.loop-t.out e i.2;
      numbered = each_all ShortCorners ts t e i.3;
    }
