-- `counts::checked_counts` meets its contract.
use mathlib.Core.Path.{sym, ◌∙◌, ap}
use borrow.Author.Tests.{eq-eqb, ne_eqb, eqb-true}
use Rattle.board.specs.Board.{first_broken}
use Rattle.counts.specs.declared.Counts.{Counts}
use Rattle.counts.specs.Counts.{On, CheckedPromise, checked_as, check_refusal}
use Rattle.counts.proofs.checked_counts.Goals as goal

pub returns-then-not-possible : goal.returns-then-not-possible
unfolding CheckedPromise checked_as check_refusal first_broken
returns-then-not-possible c = simp (sym c.possible.ensures ∙ c.if-not-possible.true)

pub returns-then-not-length_holds : goal.returns-then-not-length_holds
unfolding CheckedPromise checked_as check_refusal first_broken
returns-then-not-length_holds c =
    simp (sym c.possible.ensures ∙ c.if-not-possible.false, sym c.length_holds.ensures ∙ c.if-not-length_holds.true)

pub states_on-stateson-requires : goal.states_on-stateson-requires
states_on-stateson-requires c = eqb-true _ _ (sym c.length_holds.ensures ∙ c.if-not-length_holds.false)

pub returns-then-kept-stateson : goal.returns-then-kept-stateson
unfolding CheckedPromise checked_as check_refusal first_broken
returns-then-kept-stateson c =
    simp (sym c.possible.ensures ∙ c.if-not-possible.false, sym c.length_holds.ensures ∙ c.if-not-length_holds.false, sym c.states_on-stateson.ensures, ne_eqb _ _ c.if-kept-stateson.true)

pub answer-requires : goal.answer-requires
answer-requires c =
    sym c.possible.ensures ∙ c.if-not-possible.false

pub returns : goal.returns
unfolding CheckedPromise checked_as check_refusal first_broken
returns c =
    simp (sym c.possible.ensures ∙ c.if-not-possible.false, sym c.length_holds.ensures ∙ c.if-not-length_holds.false, sym c.states_on-stateson.ensures, eq-eqb _ _ c.if-kept-stateson.false) (ap (λ (counts : Counts). On counts.states counts.functions) c.answer.ensures)
