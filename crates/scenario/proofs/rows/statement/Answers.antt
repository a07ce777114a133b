use mathlib.Core.Path.{◌∙◌, ap}
use Rattle.scenario.specs.Words.{words_of}
use Rattle.scenario.specs.Statements.{words_say, statement_of}
use Rattle.scenario.proofs.rows.statement.Goals as goal

pub returns : goal.returns
unfolding statement_of
returns c = c.said.ensures ∙ ap (λ l. words_say (words_of l)) c.uncommented.ensures
