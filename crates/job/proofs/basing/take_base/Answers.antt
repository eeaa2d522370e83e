use Rattle.std.proofs.Common.{sym, ◌∙◌, rules}
use Rattle.job.proofs.Bases.{accepted, accepted_answer, accepted_copy, accepted_even, refused_survey, refused_answer, refused_mesh}
use Rattle.job.proofs.basing.take_base.Goals as goal

pub returns : goal.returns
returns g c =
    let k = g.P.Place.kind in
    let s = c.args.store.now in
    let bs = c.args.bytes.now in
    let vr = g.S.GrowingStore.vertex_room s in
    let tr = g.S.GrowingStore.triangle_room s in
    let m = g.S.ReadingSurface.mesh s in
    let e = sym c.is_empty.ensures ∙ c.if-not-is_empty.false in
    let xs = c.in_ok-sheet.sheet.bytes.now in
    let i = c.in_ok-sheet.ensures in
    let n = c.in_ok-survey_indexed.field-0 in
    let a = accepted k vr tr m bs xs n i c.in_ok-survey_indexed.ensures in
    record {
      answer = accepted_answer k vr tr m bs xs n _ _ e a c.totals.ensures.vertices c.totals.ensures.triangles;
      mesh = accepted_copy k vr tr m bs xs n _ e a c.copy_surface.ensures.mesh;
      room = c.copy_surface.ensures.room;
      even = accepted_even k vr tr m bs xs n _ a c.totals.ensures.triangles;
    }

pub returns-in_err-survey_indexed-clause-answer : goal.returns-in_err-survey_indexed-clause-answer
returns-in_err-survey_indexed-clause-answer g c =
    let k = g.P.Place.kind in
    let s = c.args.store.now in
    let bs = c.args.bytes.now in
    let vr = g.S.GrowingStore.vertex_room s in
    let tr = g.S.GrowingStore.triangle_room s in
    let m = g.S.ReadingSurface.mesh s in
    let e = sym c.is_empty.ensures ∙ c.if-not-is_empty.false in
    let xs = c.in_ok-sheet.sheet.bytes.now in
    let i = c.in_ok-sheet.ensures in
    let f = c.in_err-survey_indexed.field-0.0 in
    let r = refused_survey k vr tr m bs xs f e i c.in_err-survey_indexed.ensures in
    let a = refused_answer k vr tr m bs f r in search rules

pub returns-in_err-survey_indexed-clause-mesh : goal.returns-in_err-survey_indexed-clause-mesh
returns-in_err-survey_indexed-clause-mesh g c =
    let k = g.P.Place.kind in
    let s = c.args.store.now in
    let bs = c.args.bytes.now in
    let vr = g.S.GrowingStore.vertex_room s in
    let tr = g.S.GrowingStore.triangle_room s in
    let m = g.S.ReadingSurface.mesh s in
    let e = sym c.is_empty.ensures ∙ c.if-not-is_empty.false in
    let xs = c.in_ok-sheet.sheet.bytes.now in
    let i = c.in_ok-sheet.ensures in
    let f = c.in_err-survey_indexed.field-0.0 in
    let r = refused_survey k vr tr m bs xs f e i c.in_err-survey_indexed.ensures in
    refused_mesh k vr tr m bs f r
