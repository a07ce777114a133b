use mathlib.Core.Path.{◌∙◌, ap}
use Rattle.line.specs.declared.receiver.Receiver.{Receiver}
use Rattle.line.specs.Line.{bit_of, step_of}
use Rattle.line.proofs.Laws.{paused_possible}
use Rattle.line.proofs.receiver.Receiver.step.Goals as goal

pub with_bit-requires-clause-self_value : goal.with_bit-requires-clause-self_value
with_bit-requires-clause-self_value c =
    rw c.after_gap.ensures (paused_possible _ _ c.requires.self_value c.requires.last_le_time)

pub returns-clause-heard : goal.returns-clause-heard
unfolding step_of
returns-clause-heard c = c.with_bit.ensures.heard ∙ ap (λ (r : Receiver). bit_of r c.args.level) c.after_gap.ensures
