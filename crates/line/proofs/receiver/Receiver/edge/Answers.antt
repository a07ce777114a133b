use mathlib.Core.Path.{sym, ◌∙◌}
use native.Mathlib.Omega.{arith}
use Rattle.std.proofs.lemmas.Result.{err_from_is_err_and}
use Rattle.line.specs.Line.{answer_of}
use Rattle.line.proofs.Edges.{impossible_refused, good_level, good_time}
use Rattle.line.proofs.Told.{refused_so}
use Rattle.line.proofs.receiver.Receiver.edge.Goals as goal

pub returns-then-not-possible-clause-answer : goal.returns-then-not-possible-clause-answer
returns-then-not-possible-clause-answer c =
    let a = c.args in
    sym (impossible_refused a.self a.time a.level (sym c.possible.ensures ∙ c.if-not-possible.true))

pub returns-in_err-edge_refusal-clause-answer : goal.returns-in_err-edge_refusal-clause-answer
returns-in_err-edge_refusal-clause-answer c =
    let p = err_from_is_err_and c.from_residual.result c.from_residual.ensures.1 in
    rw (p.1, p.2) (refused_so c.args.self c.args.time c.args.level c.in_err-edge_refusal.field-0.0 (sym c.possible.ensures ∙ c.if-not-possible.false) c.in_err-edge_refusal.ensures)

pub step-requires-clause-level_bound : goal.step-requires-clause-level_bound
step-requires-clause-level_bound c =
    let a = c.args in
    let low = good_level a.self a.time a.level (sym c.in_ok-edge_refusal.ensures) in
    omega (arith, low)

pub step-requires-clause-last_le_time : goal.step-requires-clause-last_le_time
step-requires-clause-last_le_time c =
    let a = c.args in
    good_time a.self a.time a.level (sym c.in_ok-edge_refusal.ensures)

pub returns-clause-answer : goal.returns-clause-answer
unfolding answer_of
returns-clause-answer c =
    rw c.step.ensures.heard
    (simp (sym c.possible.ensures ∙ c.if-not-possible.false, sym c.in_ok-edge_refusal.ensures))
