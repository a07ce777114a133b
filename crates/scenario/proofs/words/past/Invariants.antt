use mathlib.Core.Path.{◌≡◌}
use Rattle.scenario.specs.Words.{past_all}
use Rattle.scenario.proofs.words.past.Given as goal

abbrev pub invariant-loop-i : goal.invariant-loop-i
invariant-loop-i l = past_all l.stop l.text l.from ≡ past_all l.stop l.text l.i
