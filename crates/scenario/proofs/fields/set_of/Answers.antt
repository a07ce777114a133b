use mathlib.Core.Path.{sym, ◌∙◌}
use Rattle.scenario.specs.Words.{pieces, parts_of}
use Rattle.scenario.specs.Statements.{field_rows, set_of}
use Rattle.scenario.proofs.Fitting as laws
use Rattle.scenario.proofs.fields.set_of.Goals as goal

pub returns-in_default : goal.returns-in_default
unfolding set_of pieces parts_of
returns-in_default c = c.encode_of.ensures ∙ laws.missed _ _ _ _ (sym c.in_default.is ∙ c.place.ensures)

pub field_at-requires : goal.field_at-requires
unfolding pieces parts_of
field_at-requires c = (laws.row_is field_rows _ _ (sym c.in-Some.is ∙ c.place.ensures)).1

pub returns : goal.returns
unfolding set_of pieces parts_of
returns c =
    rw (c.field_at.ensures, ← c.value.ensures)
    (laws.found _ _ _ _ _ _ (sym c.in-Some.is ∙ c.place.ensures))
