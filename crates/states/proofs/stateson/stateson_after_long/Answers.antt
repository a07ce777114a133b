use borrow.Author.Tests.{eq-eqb, ne_eqb}
use Rattle.states.specs.States.{stateson_long}
use Rattle.states.proofs.stateson.stateson_after_long.Goals as goal

pub returns-then-number-eq0 : goal.returns-then-number-eq0
unfolding stateson_long
returns-then-number-eq0 c = simp (eq-eqb _ _ c.if-number-eq0.true) c.all_or_none.ensures

pub returns : goal.returns
unfolding stateson_long
returns c = simp (ne_eqb _ _ c.if-number-eq0.false) c.stateson_after_one.ensures
