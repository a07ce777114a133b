use borrow.Author.Tests.{eq-eqb, ne_eqb}
use Rattle.states.specs.States.{stateson_short}
use Rattle.states.proofs.stateson.stateson_after_short.Goals as goal

pub returns-then-number-eq0 : goal.returns-then-number-eq0
unfolding stateson_short
returns-then-number-eq0 c = simp (eq-eqb _ _ c.if-number-eq0.true) (rw (c.moved.ensures, c.all_or_none.ensures, c.on_in-before.ensures))

pub returns : goal.returns
unfolding stateson_short
returns c = simp (ne_eqb _ _ c.if-number-eq0.false) (rw c.from.ensures at c.stateson_after_one.ensures)
