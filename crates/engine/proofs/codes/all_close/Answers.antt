use Rattle.std.proofs.Common.{◌+◌, ◌-◌, ◌<◌, length, get_or, drop, sym, ap, ◌∙◌, arith}
use Rattle.forest.specs.Polygons.{closes}
use Rattle.runs.specs.Parts.{code_of}
use Rattle.engine.proofs.Closing.{meant, closes_more, after_le}
use Rattle.engine.proofs.codes.all_close.Goals as goal

pub loop-code-preserved : goal.loop-code-preserved
loop-code-preserved c =
    let cs = c.args.codes.now in
    let i = c.loop-code.code-index in
    let p = c.loop-code.parts in
    let e = c.open_after-parts.ensures in
    let le = after_le (code_of (get_or cs i 0)) (p - 1) in
    let few = c.loop-code.invariant.few in
    let some : 0 < p = omega arith in
    record {
      few = omega arith;
      rest = ap (λ k. closes k (length cs - (i + 1)) (meant (drop (i + 1) cs))) e ∙ sym (closes_more cs i p c.loop-code-test.true some) ∙ c.loop-code.invariant.rest;
    }
