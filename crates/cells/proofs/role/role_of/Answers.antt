use mathlib.Core.Path.{sym, ◌∙◌}
use Rattle.cells.specs.Roles.{role_of}
use Rattle.cells.proofs.role.role_of.Goals as goal

pub offset_of-requires : goal.offset_of-requires
offset_of-requires c =
    record { number_nonzero = c.requires; cv_value = sym c.owned.ensures ∙ c.if-owned.true }

pub returns-then-owned : goal.returns-then-owned
unfolding role_of
returns-then-owned c = simp (sym c.owned.ensures ∙ c.if-owned.true, c.offset_of.ensures)

pub returns-then-is_common : goal.returns-then-is_common
unfolding role_of
returns-then-is_common c = simp (sym c.owned.ensures ∙ c.if-owned.false, sym c.is_common.ensures ∙ c.if-is_common.true) c.common_role.ensures

pub returns : goal.returns
unfolding role_of
returns c = simp (sym c.owned.ensures ∙ c.if-owned.false, sym c.is_common.ensures ∙ c.if-is_common.false)
