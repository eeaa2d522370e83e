use Rattle.std.proofs.Common.{◌≡◌, Some, ◌∙◌, arith, rules}
use Rattle.forest.specs.Tables.{flags_of, word_tris}
use Rattle.runs.specs.Calls.{fault_in}
use Rattle.engine.proofs.Seams.{clash_left}
use Rattle.engine.proofs.Words.{words_counted}
use Rattle.engine.proofs.sewing.sew.Goals as goal

pub check_clash-requires-clause-few : goal.check_clash-requires-clause-few
check_clash-requires-clause-few g c =
    let few = c.requires.few in
    let count = words_counted c.fill.new.added in
    let long = c.fill.auto.added in
    omega arith

pub returns-in_err-check_clash-clause-fault : goal.returns-in_err-check_clash-clause-fault
returns-in_err-check_clash-clause-fault g c =
    let m = g.S.ReadingSurface.mesh c.args.s.now in
    let e : fault_in c.from_residual-in_err-check_clash.result ≡ Some c.in_err-check_clash.field-0.0 = search rules in
    e
    ∙ clash_left _ m.triangles _ _ c.requires.closed (word_tris c.recorner.new.corners) (word_tris c.fill.new.added) _ (flags_of c.args.forest.now.marks.now) _ c.requires.planted.marks_told c.requires.sound c.in_ok-fill.ensures.fault c.recorner.ensures c.in_ok-fill.ensures.filled c.in_err-check_clash.ensures

pub returns-clause-fault : goal.returns-clause-fault
returns-clause-fault g c =
    let m = g.S.ReadingSurface.mesh c.args.s.now in
    clash_left _ m.triangles _ _ c.requires.closed (word_tris c.recorner.new.corners) (word_tris c.fill.new.added) _ (flags_of c.args.forest.now.marks.now) _ c.requires.planted.marks_told c.requires.sound c.in_ok-fill.ensures.fault c.recorner.ensures c.in_ok-fill.ensures.filled c.in_ok-check_clash.ensures
