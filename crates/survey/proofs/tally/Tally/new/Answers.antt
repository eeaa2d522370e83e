use Rattle.std.proofs.Common.{◌≡◌, ◌+◌, length, drop, ◌∙◌, inl, inr, sym, ap, arith, rules}
use Rattle.mesh.specs.Triangles.{tri_of}
use Rattle.mesh.specs.Meshes.{vertex_total}
use Rattle.mesh.specs.Passes.{triangles_left}
use Rattle.mesh.proofs.Passing.{left_turn, left_end}
use Rattle.std.proofs.lemmas.Option.{slice_get_within}
use Rattle.survey.specs.Tables.{counts}
use Rattle.survey.proofs.Fitting.{below_all}
use Rattle.survey.proofs.Noting.{counted_none, counted_at, counted_small, counted_more, seen_none, seen_at, seen_more}
use Rattle.survey.proofs.tally.Tally.new.Goals as goal

pub loop-i-init : goal.loop-i-init
loop-i-init g c =
    let ts = (g.S.ReadingSurface.mesh c.args.surface.now).triangles in
    let s = c.into_iter-i-iterator.result in
    let z : s.a.start ≡ 0 = search rules in
    let left : triangles_left g.S.ReadingSurface.mesh s.b ≡ ts = search rules in (
      left ∙ ap (λ n. drop n ts) (sym z),
      omega arith,
      counted_at ts 0 _ _ (sym z) (counted_none _ _ c.requires.counts_zero),
      seen_at ts 0 _ _ (sym z) (seen_none _ _ c.requires.lasts_zero),
    )

pub note-requires : goal.note-requires
note-requires g c =
    let s = c.args.surface.now in
    let m = g.S.ReadingSurface.mesh s in
    let few = g.S.ReadingSurface.limited s in
    let i = c.loop-i.invariant in
    let turn = left_turn m.triangles c.loop-i.i-iterator.a.start (tri_of c.in-Some.t) _ (sym i.0 ∙ c.in-Some.ensures.steps.1) in
    record {
      below = below_all (vertex_total m) m.triangles c.loop-i.i-iterator.a.start (tri_of c.in-Some.t) c.requires.corners_good (sym turn.0) few.few_vertices;
      small = counted_small m.triangles c.loop-i.i-iterator.a.start (counts c.loop-i.table) i.2 (omega arith);
    }

pub loop-i-preserved : goal.loop-i-preserved
loop-i-preserved g c =
    let ts = (g.S.ReadingSurface.mesh c.args.surface.now).triangles in
    let k = c.in-Some.i in
    let i = c.loop-i.invariant in
    let now = c.in-Some.ensures.steps in
    let turn = left_turn ts k (tri_of c.in-Some.t) _ (ap (λ n. drop n ts) now.0.0 ∙ (sym i.0 ∙ now.1)) in
    let there = sym turn.0 in
    let low = slice_get_within ts k (tri_of c.in-Some.t) there in (
      turn.1 ∙ ap (λ n. drop n ts) (sym now.0.1),
      omega arith,
      counted_at ts (k + 1) _ _ (sym now.0.1) (counted_more ts k (tri_of c.in-Some.t) _ _ (counted_at ts _ k _ (sym now.0.0) i.2) there c.note.ensures.counted),
      seen_at ts (k + 1) _ _ (sym now.0.1) (seen_more ts k (tri_of c.in-Some.t) _ _ (seen_at ts _ k _ (sym now.0.0) i.3) there c.note.ensures.noted),
    )

pub invariant_of-result : goal.invariant_of-result
invariant_of-result g c =
    let ts = (g.S.ReadingSurface.mesh c.args.surface.now).triangles in
    let few = g.S.ReadingSurface.limited c.args.surface.now in
    let i = c.loop-i.invariant in
    let k = c.loop-i.i-iterator.a.start in
    let all : k ≡ length ts = elim c.in-None.ensures.steps [
      | inl w ↦ omega arith
      | inr w ↦ let h = left_end ts k (sym i.0 ∙ w.1.0) in omega arith
    ] in
    record { counted = counted_at ts k _ _ all i.2; seen = seen_at ts k _ _ all i.3 }
