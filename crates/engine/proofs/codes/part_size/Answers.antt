use Rattle.std.proofs.Common.{◌≡◌, ◌≤◌, drop, ap, arith}
use Rattle.forest.specs.Polygons.{span}
use Rattle.engine.proofs.Spans.{span_both}
use Rattle.engine.proofs.codes.part_size.Goals as goal

pub returns-in_default : goal.returns-in_default
returns-in_default c cs e f =
    let three : 3 ≤ c.args.code = omega arith in
    let b = span_both c.args.code cs three in
    let g : span 1 (drop c.args.left cs) ≡ span 1 (drop (span 1 cs) cs) = ap (λ n. span 1 (drop n cs)) e in
    omega arith
