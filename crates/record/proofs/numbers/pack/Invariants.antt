use Rattle.std.proofs.Common.{◌≡◌, length}
use Rattle.std.specs.Iterator.Adapters.{enumerate_source, enumerate_count}
use Rattle.std.specs.Slice.Iter.{chunks_rest, chunks_size}
use Rattle.record.specs.Packing.{bytes_for, packed}
use Rattle.record.proofs.Packing.{Packs}
use Rattle.record.proofs.numbers.pack.Given as goal

abbrev pub invariant-loop-k : goal.invariant-loop-k
invariant-loop-k g l =
    let w = g.row.BITS in
    let n = g.row.PER in
    let pieces = enumerate_source l.k-iterator in
    (chunks_size pieces ≡ n)
    × Packs w n (enumerate_count l.k-iterator) (chunks_rest pieces) l.out (packed w n (bytes_for n (length l.numbers)) l.numbers)
