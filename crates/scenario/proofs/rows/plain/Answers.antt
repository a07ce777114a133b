use mathlib.Core.Bool.{false}
use mathlib.Core.Path.{sym, ◌∙◌}
use Rattle.scenario.specs.Words.{pieces, parts_of}
use Rattle.scenario.specs.Statements.{plain_rows, plain_of}
use Rattle.scenario.proofs.Fitting as laws
use Rattle.scenario.proofs.rows.plain.Goals as goal

pub returns-in_default : goal.returns-in_default
unfolding plain_of pieces parts_of
returns-in_default c = c.set_of.ensures ∙ laws.missed _ _ _ _ (sym c.in_default.is ∙ c.place.ensures)

pub plain_row-requires : goal.plain_row-requires
unfolding pieces parts_of
plain_row-requires c = (laws.row_is (plain_rows 0 false 0 0 0 0 0 0) _ _ (sym c.in-Some.is ∙ c.place.ensures)).1

pub returns : goal.returns
unfolding plain_of pieces parts_of
returns c = c.plain_row.ensures ∙ laws.found _ _ _ _ _ _ (sym c.in-Some.is ∙ c.place.ensures)
