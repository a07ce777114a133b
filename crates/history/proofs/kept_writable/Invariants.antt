use mathlib.Core.Path.{◌≡◌}
use lib.ListN.{length}
use Rattle.std.specs.Slice.Iter.{chunks_exact_rest, chunks_exact_size}
use Rattle.history.proofs.Places.{Passed}
use Rattle.history.proofs.kept_writable.Given as goal

abbrev pub invariant-loop-change : goal.invariant-loop-change
invariant-loop-change l =
    (chunks_exact_size l.change-iterator ≡ 3) × Passed l.reach l.changes l.sizes (length l.yielded) (chunks_exact_rest l.change-iterator)
