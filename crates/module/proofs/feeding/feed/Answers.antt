use mathlib.Core.Path.{refl, sym}
use borrow.Author.Tests.{eq-eqb, ne_eqb}
use Rattle.std.proofs.lemmas.Result.{err_from_is_err_and}
use Rattle.refusals.proofs.Laws.{never_0}
use Rattle.module.specs.Feed.{FeedPromise, feed_by}
use Rattle.module.proofs.feeding.feed.Goals as goal

pub returns-in_err-refusal : goal.returns-in_err-refusal
unfolding FeedPromise feed_by
returns-in_err-refusal c =
    let e = c.in_err-refusal.ensures in
    let p = err_from_is_err_and c.from_residual.result c.from_residual.ensures.1 in
    rw (p.1, p.2) (simp (rw e at (ne_eqb _ 0 (never_0 c.in_err-refusal.field-0.0))) (rw e refl))

pub returns-then-times-levels : goal.returns-then-times-levels
unfolding FeedPromise feed_by
returns-then-times-levels c =
    simp (sym c.in_ok-refusal.ensures, ne_eqb _ _ c.if-times-levels.true) refl

pub returns : goal.returns
unfolding FeedPromise feed_by
returns c =
    simp (sym c.in_ok-refusal.ensures, eq-eqb _ _ c.if-times-levels.false) c.run.ensures
