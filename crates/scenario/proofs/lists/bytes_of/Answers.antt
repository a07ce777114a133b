use Rattle.std.proofs.Common.{of_calls}
use mathlib.Core.Bool.{true}
use mathlib.Core.Path.{sym, ◌∙◌}
use borrow.Author.Tests.{le-leb, lt-leb}
use Rattle.scenario.specs.Statements.{bytes_statement}
use Rattle.scenario.proofs.Counting as laws
use Rattle.scenario.proofs.lists.bytes_of.Goals as goal

pub returns-then-not-is_within : goal.returns-then-not-is_within
unfolding bytes_statement
returns-then-not-is_within c = simp (sym c.is_within.ensures ∙ c.if-not-is_within.true)

pub returns-in-Some : goal.returns-in-Some
unfolding bytes_statement
returns-in-Some c =
    let m = laws.many _ _ _ (sym c.in-Some.is ∙ c.bytes_in.ensures true (λ k r p. search of_calls)) in
    rw (← m.0, ← c.is_within.ensures, ← c.value.ensures) (simp (c.if-not-is_within.false, le-leb _ _ c.if-n-ge1.true, le-leb _ _ m.1))

pub returns-in_default : goal.returns-in_default
unfolding bytes_statement
returns-in_default c =
    let m = laws.many _ _ _ (sym c.in-Some.is ∙ c.bytes_in.ensures true (λ k r p. search of_calls)) in
    rw (← m.0, ← c.is_within.ensures) (simp (c.if-not-is_within.false, lt-leb _ _ c.if-n-ge1.false))

pub returns-in_default-2 : goal.returns-in_default-2
unfolding bytes_statement
returns-in_default-2 c =
    let m = laws.not_many _ _ (sym c.in_default.is ∙ c.bytes_in.ensures true (λ k r p. search of_calls)) in
    rw (← c.is_within.ensures) (simp (c.if-not-is_within.false, le-leb _ _ m.0, lt-leb _ _ m.1))
