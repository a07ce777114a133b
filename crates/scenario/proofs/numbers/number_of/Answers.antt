use mathlib.Core.Path.{◌∙◌, ap, sym}
use Rattle.scenario.specs.Numbers.{numeral_of}
use Rattle.scenario.proofs.Numerals as laws
use Rattle.scenario.proofs.numbers.number_of.Goals as goal

pub returns-in-Some : goal.returns-in-Some
returns-in-Some c =
    let front = c.in-Some.ensures.cases in
    c.numeral.ensures ∙ ap (numeral_of 16) front.1 ∙ sym (laws.by_hex _ (sym (laws.hex_front _) ∙ front.0))

pub returns-in-None : goal.returns-in-None
returns-in-None c = c.numeral-in-None.ensures ∙ sym (laws.by_ten _ (sym (laws.hex_front _) ∙ c.in-None.ensures.cases))
