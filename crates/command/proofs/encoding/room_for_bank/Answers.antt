use Rattle.command.specs.Saying.{room_for_bank}
use mathlib.Core.Path.{sym, ◌∙◌}
use Rattle.command.proofs.encoding.room_for_bank.Goals as goal

pub returns-then-between : goal.returns-then-between
unfolding room_for_bank
returns-then-between c = simp (sym c.from.ensures, sym c.between.ensures ∙ c.if-between.true) c.below.ensures

pub returns-else-between : goal.returns-else-between
unfolding room_for_bank
returns-else-between c = simp (c.if-between.false, rw c.from.ensures at (sym c.between.ensures ∙ c.if-between.false))
