use mathlib.Core.Path.{sym, ◌∙◌}
use Rattle.std.proofs.lemmas.Result.{err_from_is_err_and}
use Rattle.refusals.proofs.Laws.{never_0}
use Rattle.lines.proofs.Refusals.{write_refused, write_held, write_short, write_done}
use Rattle.lines.proofs.write.Goals as goal

pub returns-in_err-refusal : goal.returns-in_err-refusal
returns-in_err-refusal c =
    let p = err_from_is_err_and c.from_residual.result c.from_residual.ensures.1 in
    rw (p.1, p.2) (write_refused _ _ _ _ _ _ c.in_err-refusal.ensures (never_0 c.in_err-refusal.field-0.0))

pub returns-then-kept-ne0 : goal.returns-then-kept-ne0
returns-then-kept-ne0 c =
    write_held _ _ _ _ _ (sym c.in_ok-refusal.ensures) c.if-kept-ne0.true

pub returns-then-not-long_enough : goal.returns-then-not-long_enough
returns-then-not-long_enough c =
    write_short _ _ _ _ _ (sym c.in_ok-refusal.ensures) c.if-kept-ne0.false (sym c.long_enough.ensures ∙ c.if-not-long_enough.true)

pub returns : goal.returns
returns c =
    write_done _ _ _ _ _ (sym c.in_ok-refusal.ensures) c.if-kept-ne0.false (sym c.long_enough.ensures ∙ c.if-not-long_enough.false) _ c.run.ensures
