use Rattle.std.proofs.Common.{◌+◌, length, ◌∙◌, arith}
use Rattle.record.proofs.Writing.{put_parts}
use Rattle.record.proofs.parts.Parts.put.Goals as goal

pub returns-clause-buffer : goal.returns-clause-buffer
returns-clause-buffer g c =
    let ms = c.args.self.now.marks.now in
    let cs = c.args.self.now.codes.now in
    let ds = c.args.self.now.displacements.now in
    let a = 10 + c.bytes_for-codes_from.result in
    let b = a + c.bytes_for.result in
    put_parts g.P.Place.kind ms cs ds c.args.out.now c.copy_from_slice.new.self c.pack.new.out c.pack-2.new.out c.copy_from_slice-2.new.self a b (b + length ds) (c.copy_from_slice.ensures.after ∙ c.head.ensures) c.pack.ensures c.pack-2.ensures c.copy_from_slice-2.ensures.after (omega arith) (omega arith) (omega arith)
