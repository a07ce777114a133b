use borrow.Author.Tests.{lt-leb}
use Rattle.bits.proofs.Tests.{picks}
use Rattle.cells.specs.Settings.{settings_possible}
use Rattle.cells.proofs.settings.Settings.possible.Goals as goal

pub returns-then-self-le-NUMBER_LAST : goal.returns-then-self-le-NUMBER_LAST
unfolding settings_possible
returns-then-self-le-NUMBER_LAST c = search picks

pub returns-else-self-le-NUMBER_LAST : goal.returns-else-self-le-NUMBER_LAST
unfolding settings_possible
returns-else-self-le-NUMBER_LAST c = simp (lt-leb _ _ c.if-self-le-NUMBER_LAST.false)
