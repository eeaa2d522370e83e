use Rattle.std.proofs.Common.{◌≡◌, ◌+◌, ◌-◌, length, arith}
use Rattle.std.proofs.lemmas.List.{drop-drop}
use Rattle.sheet.specs.Writing.{put_at}
use Rattle.sheet.proofs.puts.put.Goals as goal

pub returns : goal.returns
unfolding put_at
returns c =
    let at = c.args.at in
    let n = length c.args.bytes.now in
    let d = drop-drop (at + n - at) at c.args.out.now in
    let e : at + (at + n - at) ≡ at + n = omega arith in simp (c.copy_from_slice.ensures.after, d, e)
