use Rattle.std.proofs.Common.{get_or, ◌∙◌, ap, arith, ◌+◌}
use Rattle.forest.specs.Loops.{hop, loop}
use Rattle.forest.specs.Tables.{key_side, flag_of}
use Rattle.engine.specs.Marking.{marked}
use Rattle.engine.proofs.Walking.{room_more, loops_more, part_long}
use Rattle.engine.proofs.loops.walk_loops.Goals as goal

pub loop-k-preserved : goal.loop-k-preserved
loop-k-preserved g c =
    let l = c.loop-k in
    let ts = (g.S.ReadingSurface.mesh c.args.s.now).triangles in
    let ms = marked c.args.marking.now.keys.now c.args.marking.now.marks.now in
    let n = get_or c.args.arounds.now l.k 0 in
    let long = part_long l.positions c.args.arounds.now l.at l.k (omega arith) (omega arith) in
    record {
      room = room_more c.args.arounds.now l.k l.at _ l.invariant.room (omega arith);
      done = loops_more ts ms l.positions c.walk_loop.new.out c.args.roots.now c.args.arounds.now c.args.mirrors.now l.at l.k (l.at + n) _ l.invariant.done
          (omega arith) (omega arith) (omega arith) (omega arith) (omega arith) (c.walk_loop.auto.out ∙ long)
          (c.walk_loop.ensures ∙ ap (λ m. loop (hop ts ms (flag_of (get_or c.args.mirrors.now l.k 0))) m (key_side (get_or c.args.roots.now l.k 0))) long);
    }
