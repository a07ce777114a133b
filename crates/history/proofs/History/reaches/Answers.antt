use borrow.Author.Tests.{le-leb}
use Rattle.bits.proofs.Tests.{picks}
use Rattle.history.specs.History.{reaches}
use Rattle.history.proofs.Places.{far_test}
use Rattle.history.proofs.History.reaches.Goals as goal

pub returns-then-version-self : goal.returns-then-version-self
unfolding reaches
returns-then-version-self c =
    let a = c.args in
    simp (c.from.ensures, le-leb a.version a.self.version c.if-version-self.true) (far_test a.self.version a.version a.self.reach c.if-version-self.true)

pub returns-else-version-self : goal.returns-else-version-self
unfolding reaches
returns-else-version-self c = search picks
