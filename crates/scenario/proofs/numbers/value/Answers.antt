use mathlib.Core.Path.{◌∙◌, ap, sym}
use Rattle.scenario.specs.Numbers.{word_number, numbered}
use Rattle.scenario.proofs.Numerals as laws
use Rattle.scenario.proofs.numbers.value.Goals as goal

pub returns-in-Some : goal.returns-in-Some
returns-in-Some c = laws.value_is _ _ _ (ap numbered (sym c.in-Some.is) ∙ c.number_of.ensures ∙ ap word_number c.word.ensures) c.if-number-limit.true

pub returns-in_default : goal.returns-in_default
returns-in_default c = laws.value_over _ _ _ (ap numbered (sym c.in-Some.is) ∙ c.number_of.ensures ∙ ap word_number c.word.ensures) c.if-number-limit.false

pub returns-in_default-2 : goal.returns-in_default-2
returns-in_default-2 c = laws.value_none _ _ (ap numbered (sym c.in_default.is) ∙ c.number_of.ensures ∙ ap word_number c.word.ensures)
