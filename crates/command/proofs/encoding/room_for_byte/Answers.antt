use Rattle.command.specs.Saying.{room_for_byte}
use mathlib.Core.Path.{sym, ◌∙◌}
use Rattle.command.proofs.encoding.room_for_byte.Goals as goal

pub returns-then-between : goal.returns-then-between
unfolding room_for_byte
returns-then-between c = simp (sym c.between.ensures ∙ c.if-between.true) c.below.ensures

pub returns-else-between : goal.returns-else-between
unfolding room_for_byte
returns-else-between c = simp (sym c.between.ensures ∙ c.if-between.false, c.if-between.false)
