use borrow.Author.Tests.{le-leb, lt-leb}
use Rattle.bidi.specs.Messages.{position_legal}
use Rattle.bidi.proofs.legal.position_legal.Goals as goal

pub returns-then-high-le-POSITION_LAST : goal.returns-then-high-le-POSITION_LAST
unfolding position_legal
returns-then-high-le-POSITION_LAST c = simp (le-leb _ _ c.if-high-le-POSITION_LAST.true)

pub returns-else-high-le-POSITION_LAST : goal.returns-else-high-le-POSITION_LAST
unfolding position_legal
returns-else-high-le-POSITION_LAST c = simp (lt-leb _ _ c.if-high-le-POSITION_LAST.false)
