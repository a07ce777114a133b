use mathlib.Core.Path.{◌∙◌}
use Rattle.scenario.proofs.Splitting as laws
use Rattle.scenario.proofs.words.same.Goals as goal

pub returns : goal.returns
returns c = c.eq.ensures ∙ laws.compared _ _
