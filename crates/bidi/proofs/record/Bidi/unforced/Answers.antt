use borrow.Author.Tests.{lt-ltb, le-ltb}
use Rattle.bidi.specs.Bidi.{unforced}
use Rattle.bidi.proofs.record.Bidi.unforced.Goals as goal

pub returns-then-queued-gt0 : goal.returns-then-queued-gt0
unfolding unforced
returns-then-queued-gt0 c =
    simp (lt-ltb _ _ c.if-queued-gt0.true, c.answering.ensures, c.with_queue-left.ensures, c.first.ensures, c.without_first.ensures)

pub returns-then-self : goal.returns-then-self
unfolding unforced
returns-then-self c = simp (le-ltb _ _ c.if-queued-gt0.false, c.if-self.true) c.silent.ensures

pub returns : goal.returns
unfolding unforced
returns c = simp (le-ltb _ _ c.if-queued-gt0.false, c.if-self.false) c.answering-2.ensures
