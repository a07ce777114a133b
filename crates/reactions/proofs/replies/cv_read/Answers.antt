use mathlib.Core.Path.{refl, ◌∙◌}
use Rattle.reactions.proofs.Telling.{read_bytes, read_told}
use Rattle.reactions.proofs.replies.cv_read.Goals as goal

pub returns-clause-value : goal.returns-clause-value
returns-clause-value c =
    rw (c.without_half.ensures, c.short_reply.ensures.value, ← c.read_cv-answer.ensures) (read_told _ c.read_cv-answer.result)

pub returns-clause-room_after : goal.returns-clause-room_after
returns-clause-room_after c =
    c.short_reply.ensures.room_after ∙ rw (← c.read_cv-answer.ensures) (rw (← read_bytes c.read_cv-answer.result) refl)
