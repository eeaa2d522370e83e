use Rattle.std.proofs.Common.{arith, length-take}
use Rattle.conformance.proofs.Sheets.{size_small, front_is, nothing_is}
use Rattle.conformance.proofs.verdict.sheet_in.Goals as goal

pub slice_bounds-result-end : goal.slice_bounds-result-end
slice_bounds-result-end g c =
    let small = size_small g.S.Kind.Place.kind g.met.S.Kind.Place.lawful (g.S.ReadingSurface.mesh c.args.store.now) c.args.buffer.now c.in-Ok.size c.in-Ok.ensures.answer in
    let same = c.write_sheet.auto.out in
    let taken = length-take c.in-Ok.size c.write_sheet.new.out in omega arith

pub returns-in-Ok : goal.returns-in-Ok
returns-in-Ok g c = front_is g.S.Kind.Place.kind g.met.S.Kind.Place.lawful (g.S.ReadingSurface.mesh c.args.store.now) c.args.buffer.now c.in-Ok.size c.write_sheet.new.out c.in-Ok.ensures.answer c.in-Ok.ensures.written

pub returns-in-Err : goal.returns-in-Err
returns-in-Err g c = nothing_is g.S.Kind.Place.kind g.met.S.Kind.Place.lawful (g.S.ReadingSurface.mesh c.args.store.now) c.args.buffer.now c.in-Err.field-0 c.in-Err.ensures.answer
