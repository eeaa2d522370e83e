use Rattle.std.proofs.Common.{◌≤◌, length, take, drop, ◌∙◌, inl, inr, sym, ap, arith}
use Rattle.mesh.specs.Triangles.{tri_of}
use Rattle.mesh.proofs.Passing.{left_turn, left_end}
use Rattle.forest.specs.Tables.{word_tris}
use Rattle.engine.proofs.Slots.{words_length}
use Rattle.engine.proofs.Renumbering.{copied_more, copied_all}
use Rattle.std.proofs.lemmas.Option.{slice_get_within}
use Rattle.engine.proofs.corners.copy_corners.Goals as goal

pub loop-t-preserved : goal.loop-t-preserved
loop-t-preserved g c =
    let ts = (g.S.ReadingSurface.mesh c.args.s.now).triangles in
    let k = c.in-Some.t in
    let i = c.loop-t.invariant in
    let now = c.in-Some.ensures.steps in
    let start = now.0.0 in
    let turn = left_turn ts k (tri_of c.in-Some.triangle) _ (ap (λ n. drop n ts) now.0.0 ∙ (sym i.left ∙ now.1)) in
    let within = slice_get_within ts k (tri_of c.in-Some.triangle) (sym turn.0) in
    record {
      left = turn.1 ∙ ap (λ n. drop n ts) (sym now.0.1);
      within = omega arith;
      done = copied_more ts c.loop-t.corners c.set_triangle.new.corners k c.next.new.self.a.start (tri_of c.in-Some.triangle) (ap (λ n. take n (word_tris c.loop-t.corners)) start ∙ (i.done ∙ ap (λ n. take n ts) (sym start))) (words_length (length ts) c.loop-t.corners (omega arith)) (sym turn.0) c.set_triangle.ensures now.0.1;
    }

pub returns : goal.returns
returns g c =
    let ts = (g.S.ReadingSurface.mesh c.args.s.now).triangles in
    let i = c.loop-t.invariant in
    let k = c.loop-t.t-iterator.a.start in
    let all : length ts ≤ k = elim c.in-None.ensures.steps [
      | inl w ↦ omega arith
      | inr w ↦ left_end ts k (sym i.left ∙ w.1.0)
    ] in
    copied_all ts c.loop-t.corners k i.done (words_length (length ts) c.loop-t.corners (omega arith)) all
