use mathlib.Core.Path.{sym, ◌∙◌}
use borrow.Author.Tests.{eqb-true}
use Rattle.module.specs.Application.{RestartPromise, restart_of}
use Rattle.module.proofs.application.restart.Goals as goal

pub returns-then-not-possible : goal.returns-then-not-possible
unfolding RestartPromise restart_of
returns-then-not-possible c =
    simp (sym c.possible.ensures ∙ c.if-not-possible.true)

pub returns-then-not-length_holds : goal.returns-then-not-length_holds
unfolding RestartPromise restart_of
returns-then-not-length_holds c =
    simp (sym c.possible.ensures ∙ c.if-not-possible.false, sym c.length_holds.ensures ∙ c.if-not-length_holds.true)

pub clear-requires : goal.clear-requires
clear-requires c =
    eqb-true _ _ (sym c.length_holds.ensures ∙ c.if-not-length_holds.false)

pub returns : goal.returns
unfolding RestartPromise restart_of
returns c =
    simp (sym c.possible.ensures ∙ c.if-not-possible.false, sym c.length_holds.ensures ∙ c.if-not-length_holds.false) (rw (c.restarted.ensures, c.clear.ensures))
