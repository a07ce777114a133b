use mathlib.Core.Path.{refl, ◌∙◌}
use Rattle.reactions.proofs.Telling.{call_bytes, call_told, call_left}
use Rattle.reactions.proofs.replies.called.Goals as goal

pub returns-clause-value : goal.returns-clause-value
returns-clause-value c =
    let e = rw c.module_number.ensures at c.call-call.ensures in
    let after = c.call-call.result in
    rw (c.with_bidi.ensures, c.without_half.ensures, c.short_reply.ensures.value, ← e) (rw (← call_left after.reply after.bidi) (call_told _ after.reply after.bidi))

pub returns-clause-room_after : goal.returns-clause-room_after
returns-clause-room_after c =
    let e = rw c.module_number.ensures at c.call-call.ensures in
    let after = c.call-call.result in
    c.short_reply.ensures.room_after ∙ rw (← e) (rw (← call_bytes after.reply after.bidi) refl)
