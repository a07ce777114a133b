use Rattle.scenario.specs.Statements.{words_say}
use Rattle.scenario.proofs.rows.said.Goals as goal

pub returns-then-ends : goal.returns-then-ends
unfolding words_say
returns-then-ends c = rw (← c.ends.ensures) (simp c.if-ends.true)

pub returns : goal.returns
unfolding words_say
returns c = rw (← c.ends.ensures) (simp c.if-ends.false c.plain.ensures)
