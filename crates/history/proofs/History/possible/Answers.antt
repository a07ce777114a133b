use Rattle.bits.proofs.Tests.{picks}
use Rattle.history.specs.History.{history_possible}
use Rattle.history.proofs.History.possible.Goals as goal

pub returns-then-self-le-CHANGES_KEPT : goal.returns-then-self-le-CHANGES_KEPT
unfolding history_possible
returns-then-self-le-CHANGES_KEPT c = rw c.from.ensures (search picks)

pub returns-else-self-le-CHANGES_KEPT : goal.returns-else-self-le-CHANGES_KEPT
unfolding history_possible
returns-else-self-le-CHANGES_KEPT c = search picks
