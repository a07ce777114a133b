use Rattle.std.proofs.Common.{of_calls}
use mathlib.Core.Bool.{false}
use mathlib.Core.Path.{sym, ◌∙◌}
use borrow.Author.Tests.{le-leb, lt-leb}
use Rattle.scenario.specs.Statements.{read_statement}
use Rattle.scenario.proofs.Counting as laws
use Rattle.scenario.proofs.lists.read_of.Goals as goal

pub returns-in-Some : goal.returns-in-Some
unfolding read_statement
returns-in-Some c =
    let m = laws.many _ _ _ (sym c.in-Some.is ∙ c.bytes_in.ensures false (λ k r p. search of_calls)) in
    rw (← m.0) (simp (le-leb _ _ m.1))

pub returns-in-None : goal.returns-in-None
unfolding read_statement
returns-in-None c =
    let m = laws.not_many _ _ (sym c.in-None.is ∙ c.bytes_in.ensures false (λ k r p. search of_calls)) in
    simp (lt-leb _ _ m.1)
