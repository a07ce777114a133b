use mathlib.Core.Path.{refl, sym, ◌∙◌}
use Rattle.line.specs.Line.{paused_of}
use Rattle.line.proofs.receiver.Receiver.after_gap.Goals as goal

pub returns-then-is_pause : goal.returns-then-is_pause
unfolding paused_of
returns-then-is_pause c = rw (sym c.is_pause.ensures ∙ c.if-is_pause.true, c.new.ensures) refl

pub returns : goal.returns
unfolding paused_of
returns c = rw (sym c.is_pause.ensures ∙ c.if-is_pause.false, c.start_for.ensures) refl
