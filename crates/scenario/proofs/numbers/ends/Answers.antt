use mathlib.Core.Path.{◌∙◌, ap}
use lib.Dec.{eqb}
use lib.ListN.{length}
use Rattle.scenario.proofs.Numerals as laws
use Rattle.scenario.proofs.numbers.ends.Goals as goal

pub returns : goal.returns
returns c = c.is_empty.ensures ∙ ap (λ w. eqb (length w) 0) c.word.ensures ∙ laws.no_part _ _ _
