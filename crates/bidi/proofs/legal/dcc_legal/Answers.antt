use borrow.Author.Tests.{le-leb, lt-leb}
use Rattle.bidi.specs.Messages.{dcc_legal}
use Rattle.bidi.proofs.legal.dcc_legal.Goals as goal

pub returns-then-value-le-DCC_LAST : goal.returns-then-value-le-DCC_LAST
unfolding dcc_legal
returns-then-value-le-DCC_LAST c = simp (le-leb _ _ c.if-value-le-DCC_LAST.true)

pub returns-else-value-le-DCC_LAST : goal.returns-else-value-le-DCC_LAST
unfolding dcc_legal
returns-else-value-le-DCC_LAST c = simp (lt-leb _ _ c.if-value-le-DCC_LAST.false)
