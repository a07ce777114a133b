use mathlib.Core.Path.{◌≡◌}
use Rattle.scenario.specs.Words.{until_one}
use Rattle.scenario.proofs.words.until.Given as goal

abbrev pub invariant-loop-i : goal.invariant-loop-i
invariant-loop-i l = until_one l.stop l.text l.from ≡ until_one l.stop l.text l.i
