use mathlib.Core.Path.{sym, ◌∙◌}
use borrow.Author.Tests.{le-leb, lt-leb}
use Rattle.bidi.specs.Bidi.{posted_to}
use Rattle.bidi.proofs.record.Bidi.post.Goals as goal

pub returns-then-not-legal_message : goal.returns-then-not-legal_message
unfolding posted_to
returns-then-not-legal_message c = simp (sym c.legal_message.ensures ∙ c.if-not-legal_message.true)

pub returns-then-queued-ge-MESSAGES : goal.returns-then-queued-ge-MESSAGES
unfolding posted_to
returns-then-queued-ge-MESSAGES c =
    simp (sym c.legal_message.ensures ∙ c.if-not-legal_message.false, le-leb _ _ c.if-queued-ge-MESSAGES.true)

pub returns : goal.returns
unfolding posted_to
returns c =
    simp (sym c.legal_message.ensures ∙ c.if-not-legal_message.false, lt-leb _ _ c.if-queued-ge-MESSAGES.false, c.with_queue.ensures, c.joined.ensures)
