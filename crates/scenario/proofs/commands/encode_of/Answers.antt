use mathlib.Core.Bool.{false}
use mathlib.Core.Path.{sym, ◌∙◌}
use Rattle.scenario.specs.Words.{pieces, parts_of}
use Rattle.scenario.specs.Statements.{command_rows, encode_of}
use Rattle.scenario.proofs.Fitting as laws
use Rattle.scenario.proofs.commands.encode_of.Goals as goal

pub returns-in_default : goal.returns-in_default
unfolding encode_of pieces parts_of
returns-in_default c = c.list_of.ensures ∙ laws.missed _ _ _ _ (sym c.in_default.is ∙ c.place.ensures)

pub command_at-requires : goal.command_at-requires
unfolding pieces parts_of
command_at-requires c = (laws.row_is (command_rows 0 0 0 0 false) _ _ (sym c.in-Some.is ∙ c.place.ensures)).1

pub returns : goal.returns
unfolding encode_of pieces parts_of
returns c = rw c.command_at.ensures (laws.found _ _ _ _ _ _ (sym c.in-Some.is ∙ c.place.ensures))
