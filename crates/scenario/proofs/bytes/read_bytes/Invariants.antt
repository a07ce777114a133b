use mathlib.Core.List.{◌++◌}
use mathlib.Core.Path.{◌≡◌}
use lib.ListN.{length, drop}
use Rattle.scenario.specs.Words.{words_of, uncommented}
use Rattle.scenario.specs.Statements.{first_bytes}
use Rattle.scenario.proofs.bytes.read_bytes.Given as goal

abbrev pub invariant-loop-k : goal.invariant-loop-k
invariant-loop-k l =
    (l.bytes ≡ first_bytes (drop 1 (words_of (uncommented l.line))) l.k ++ drop l.k l.initial.bytes) × (length l.bytes ≡ length l.initial.bytes)
