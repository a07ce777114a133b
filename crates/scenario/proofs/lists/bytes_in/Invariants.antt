use mathlib.Core.Bool.{Bool}
use Prim.Native.Nat.{ℕ}
use mathlib.Core.Path.{◌≡◌}
use lib.ListN.{drop}
use Rattle.scenario.specs.Words.{words_of, word_at}
use Rattle.scenario.specs.Statements.{is_byte_word}
use Rattle.scenario.proofs.Counting as laws
use Rattle.scenario.proofs.lists.bytes_in.Given as goal

abbrev pub invariant-loop-n : goal.invariant-loop-n
invariant-loop-n g l =
    (pairs : Bool) → ((k : ℕ) (r : Bool) → goal.F-post g l.is_byte k r → r ≡ is_byte_word pairs (word_at (words_of l.line) k)) → laws.Going pairs (drop l.from (words_of l.line)) l.n
