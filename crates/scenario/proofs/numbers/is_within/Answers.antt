use mathlib.Core.Path.{◌∙◌, ap}
use Rattle.std.proofs.Common.{rules, tests}
use Rattle.scenario.specs.Numbers.{word_number}
use Rattle.scenario.proofs.Numerals as laws
use Rattle.scenario.proofs.numbers.is_within.Goals as goal

pub returns : goal.returns
returns c =
    laws.is_within _ _ c.number_of.result _ (c.number_of.ensures ∙ ap word_number c.word.ensures)
    (laws.match_then c.number_of.result c.is_some_and.ensures (λ p. p) (λ n q. search (rules, tests)))
