use mathlib.Core.Path.{◌≡◌}
use Rattle.std.specs.Slice.Iter.{chunks_exact_rest, chunks_exact_size}
use Rattle.crc.specs.Crc.{crc_from}
use Rattle.bank.specs.Reply.{data_of, checksum_of}
use Rattle.bank.proofs.checksum.Given as goal

abbrev pub invariant-loop-pair : goal.invariant-loop-pair
invariant-loop-pair l =
    (chunks_exact_size l.pair-iterator ≡ 2) × (checksum_of l.body ≡ crc_from l.crc (data_of (chunks_exact_rest l.pair-iterator)))
