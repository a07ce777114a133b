use borrow.Author.Tests.{eq-eqb, ne_eqb}
use Rattle.states.specs.States.{with_states}
use Rattle.states.proofs.set_states.Goals as goal

pub returns-then-number-eq0 : goal.returns-then-number-eq0
unfolding with_states
returns-then-number-eq0 c = rw (eq-eqb _ _ c.if-number-eq0.true) c.set_all.ensures

pub returns-else-number-eq0 : goal.returns-else-number-eq0
unfolding with_states
returns-else-number-eq0 c = rw (ne_eqb _ _ c.if-number-eq0.false) c.set_one.ensures
