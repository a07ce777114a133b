use mathlib.Core.Path.{◌≡◌, sym, refl}
use native.Mathlib.Omega.{arith}
use lib.ListN.{length}
use Rattle.refusals.specs.Numbers.{paper_number}
use Rattle.refusals.proofs.Laws.{never_0}
use Rattle.line.proofs.Edges.{good_level, good_time}
use Rattle.module.proofs.Listening.{ends, bad_edge_lem, completed, on}
use Rattle.module.proofs.listen.listen.Goals as goal

pub returns-in-Err-clause-heard : goal.returns-in-Err-clause-heard
returns-in-Err-clause-heard c =
    bad_edge_lem c.loop-i.invariant c.loop-i-test.true (paper_number c.in-Err.refusal) c.in-Err.ensures (never_0 c.in-Err.refusal)

-- past the test the edge is good
pub is_pause-paused-requires-clause-last_le_time : goal.is_pause-paused-requires-clause-last_le_time
is_pause-paused-requires-clause-last_le_time c = good_time _ _ _ (sym c.in_default.ensures)

pub step-heard-requires-clause-level_bound : goal.step-heard-requires-clause-level_bound
step-heard-requires-clause-level_bound c = omega (arith, good_level _ _ _ (sym c.in_default.ensures))

pub step-heard-requires-clause-last_le_time : goal.step-heard-requires-clause-last_le_time
step-heard-requires-clause-last_le_time c = good_time _ _ _ (sym c.in_default.ensures)

pub returns-in-Some-clause-heard : goal.returns-in-Some-clause-heard
returns-in-Some-clause-heard c =
    let heard = rw c.in-Some.is at c.step-heard.ensures.heard in
    let there = rw c.in-Some.is at c.step-heard.ensures.whole in
    completed c.loop-i.invariant c.loop-i-test.true (sym c.in_default.ensures) (record { receiver = c.step-heard.result.receiver; packet = c.in-Some.packet }) heard _ (rw c.is_pause-paused.ensures) there

pub loop-i-preserved : goal.loop-i-preserved
loop-i-preserved c =
    let heard = rw c.in_default-packet.is at c.step-heard.ensures.heard in
    on c.loop-i.invariant c.loop-i-test.true (sym c.in_default.ensures) _ heard _ (rw c.is_pause-paused.ensures) refl

pub returns-clause-heard : goal.returns-clause-heard
returns-clause-heard c =
    let all : length c.args.times.now ≡ c.loop-i.i = omega (arith, c.loop-i.invariant.within) in rw all (ends c.loop-i.invariant c.loop-i-test.false)
