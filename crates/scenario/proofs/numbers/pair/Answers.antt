use mathlib.Core.Path.{◌∙◌}
use Rattle.scenario.proofs.Numerals as laws
use Rattle.scenario.proofs.numbers.pair.Goals as goal

pub returns-then-word-ne2 : goal.returns-then-word-ne2
returns-then-word-ne2 c = laws.pair_length _ c.if-word-ne2.true

pub returns : goal.returns
returns c = c.numeral.ensures ∙ laws.pair_numeral _ c.if-word-ne2.false
