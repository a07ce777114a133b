use mathlib.Core.Path.{◌∙◌}
use Rattle.module.specs.Listen.{after_listening}
use Rattle.module.proofs.listen.after_listening.Goals as goal

pub returns-then-paused : goal.returns-then-paused
unfolding after_listening
returns-then-paused c =
    simp c.if-paused.true (c.with_receiver.ensures ∙ rw c.without_half.ensures)

pub returns : goal.returns
unfolding after_listening
returns c =
    simp c.if-paused.false c.with_receiver-2.ensures
