use mathlib.Core.Path.{refl}
use native.Mathlib.Omega.{arith}
use Rattle.refusals.proofs.Laws.{never_0}
use Rattle.module.proofs.Checked.{hears}
use Rattle.module.proofs.Running.{bad, ends, passes_on, stops, states_keep_length, store_keeps_length, room_keeps_length, on, less}
use Rattle.module.proofs.feeding.run.Goals as goal

pub loop-completed-init : goal.loop-completed-init
loop-completed-init c =
    record { within = omega arith; even = c.requires.times_len; passes = c.requires.room_value; states_same = refl; store_same = refl; room_same = refl; same = refl }

pub listen-heard-requires : goal.listen-heard-requires
listen-heard-requires c =
    let g = c.loop-completed.invariant in
    record { before_value = hears _ _ _ g.passes; times_len = g.even; from_in_bounds = g.within }

pub returns-in-Err : goal.returns-in-Err
returns-in-Err c =
    let heard = rw c.in-Err.is at c.listen-heard.ensures.heard in
    rw c.answered.ensures (bad c.loop-completed.invariant _ heard _ c.after_listening-kept.ensures (never_0 c.in-Err.refusal))

pub returns-in_default : goal.returns-in_default
returns-in_default c =
    let heard = rw c.in_default.is at (rw c.in-Ok.is at c.listen-heard.ensures.heard) in
    rw c.answered-in_default.ensures (ends c.loop-completed.invariant _ heard _ c.after_listening-kept.ensures refl refl)

pub packet-reaction-requires : goal.packet-reaction-requires
packet-reaction-requires c =
    let heard = rw c.in-Some.is at (rw c.in-Ok.is at c.listen-heard.ensures.heard) in
    passes_on c.loop-completed.invariant _ heard _ c.after_listening-kept.ensures refl

pub shape_of-states-in-Some-reply : goal.shape_of-states-in-Some-reply
shape_of-states-in-Some-reply c =
    let heard = rw c.in-Some.is at (rw c.in-Ok.is at c.listen-heard.ensures.heard) in
    let whole = rw c.in-Some.is at (rw c.in-Ok.is at c.listen-heard.ensures.whole) in
    states_keep_length c.loop-completed.invariant _ heard _ c.after_listening-kept.ensures refl whole _ c.packet-reaction.ensures

pub shape_of-store-in-Some-reply : goal.shape_of-store-in-Some-reply
shape_of-store-in-Some-reply c =
    let heard = rw c.in-Some.is at (rw c.in-Ok.is at c.listen-heard.ensures.heard) in
    let whole = rw c.in-Some.is at (rw c.in-Ok.is at c.listen-heard.ensures.whole) in
    store_keeps_length c.loop-completed.invariant _ heard _ c.after_listening-kept.ensures refl whole _ c.packet-reaction.ensures

pub shape_of-room-in-Some-reply : goal.shape_of-room-in-Some-reply
shape_of-room-in-Some-reply c =
    let heard = rw c.in-Some.is at (rw c.in-Ok.is at c.listen-heard.ensures.heard) in
    let whole = rw c.in-Some.is at (rw c.in-Ok.is at c.listen-heard.ensures.whole) in
    room_keeps_length c.loop-completed.invariant _ heard _ c.after_listening-kept.ensures refl whole _ c.packet-reaction.ensures

pub returns-in-Some-reply : goal.returns-in-Some-reply
returns-in-Some-reply c =
    let heard = rw c.in-Some.is at (rw c.in-Ok.is at c.listen-heard.ensures.heard) in
    let whole = rw c.in-Some.is at (rw c.in-Ok.is at c.listen-heard.ensures.whole) in
    rw c.answered-in-Some-reply.ensures (stops c.loop-completed.invariant _ heard _ c.after_listening-kept.ensures refl whole _ (rw c.in-Some-reply.is at c.packet-reaction.ensures) refl)

pub loop-completed-smaller : goal.loop-completed-smaller
loop-completed-smaller c =
    let heard = rw c.in-Some.is at (rw c.in-Ok.is at c.listen-heard.ensures.heard) in
    let whole = rw c.in-Some.is at (rw c.in-Ok.is at c.listen-heard.ensures.whole) in
    less c.loop-completed.invariant _ heard _ c.after_listening-kept.ensures refl whole _ c.packet-reaction.ensures

pub loop-completed-preserved : goal.loop-completed-preserved
loop-completed-preserved c =
    let heard = rw c.in-Some.is at (rw c.in-Ok.is at c.listen-heard.ensures.heard) in
    let whole = rw c.in-Some.is at (rw c.in-Ok.is at c.listen-heard.ensures.whole) in
    on c.loop-completed.invariant _ heard _ c.after_listening-kept.ensures refl whole _ (rw c.in_default-reply.is at c.packet-reaction.ensures) refl
