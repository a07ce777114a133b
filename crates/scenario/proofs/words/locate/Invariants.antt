use Prim.Native.Nat.{◌-◌, ◌≤◌}
use mathlib.Core.Path.{◌≡◌}
use lib.ListN.{length}
use Rattle.scenario.specs.Words.{start_from}
use Rattle.scenario.proofs.words.locate.Given as goal

abbrev pub invariant-loop : goal.invariant-loop
invariant-loop l =
    (l.at ≤ length l.text) × (l.counter ≤ l.k) × (start_from l.stop l.text l.k 0 ≡ start_from l.stop l.text (l.k - l.counter) l.at)

abbrev pub decreases-loop : goal.decreases-loop
decreases-loop l = l.k - l.counter
