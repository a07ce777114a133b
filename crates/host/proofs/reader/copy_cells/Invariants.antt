use Prim.Native.Nat.{◌+◌}
use mathlib.Core.Path.{◌≡◌}
use lib.ListN.{take}
use Rattle.std.specs.Iterator.Adapters.{enumerate_source, enumerate_count}
use Rattle.std.specs.Slice.Iter.{chunks_exact_rest, chunks_exact_size}
use Rattle.host.proofs.Copying.{Copying}
use Rattle.host.proofs.reader.copy_cells.Given as goal

abbrev pub invariant-loop-k : goal.invariant-loop-k
invariant-loop-k l =
    let pairs = enumerate_source l.k-iterator in
    (chunks_exact_size pairs ≡ 2) × Copying (take (l.n + l.n) l.reply) l.initial.room l.room (chunks_exact_rest pairs) (enumerate_count l.k-iterator)
