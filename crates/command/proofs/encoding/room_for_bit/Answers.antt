use borrow.Author.Tests.{lt-ltb, le-ltb}
use Rattle.command.specs.Saying.{room_for_bit}
use mathlib.Core.Path.{sym, ◌∙◌}
use Rattle.command.proofs.encoding.room_for_bit.Goals as goal

pub returns-then-place-lt8 : goal.returns-then-place-lt8
unfolding room_for_bit
returns-then-place-lt8 c = simp (sym c.between.ensures ∙ c.if-between.true, lt-ltb _ _ c.if-place-lt8.true)

pub returns-else-place-lt8 : goal.returns-else-place-lt8
unfolding room_for_bit
returns-else-place-lt8 c = simp (sym c.between.ensures ∙ c.if-between.true, le-ltb _ _ c.if-place-lt8.false)

pub returns-else-between : goal.returns-else-between
unfolding room_for_bit
returns-else-between c = simp (sym c.between.ensures ∙ c.if-between.false, c.if-between.false)
