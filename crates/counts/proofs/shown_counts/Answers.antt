-- `counts::shown_counts` meets its contract.
use mathlib.Core.Path.{sym, ◌∙◌, ap}
use Rattle.counts.specs.declared.Counts.{Counts}
use Rattle.counts.specs.Counts.{On, ShownPromise, shown_of}
use Rattle.counts.proofs.shown_counts.Goals as goal

pub returns-then-not-possible : goal.returns-then-not-possible
unfolding ShownPromise shown_of
returns-then-not-possible c = simp (sym c.possible.ensures ∙ c.if-not-possible.true)

pub answer-requires : goal.answer-requires
answer-requires c = sym c.possible.ensures ∙ c.if-not-possible.false

pub returns : goal.returns
unfolding ShownPromise shown_of
returns c = simp (sym c.possible.ensures ∙ c.if-not-possible.false) (ap (λ (counts : Counts). On counts.states counts.functions) c.answer.ensures)
