-- `host::reader::judge` meets its contract. The invariant is `Going`: what is left gives what the whole gives.
use mathlib.Core.Path.{◌≡◌, ◌∙◌}
use native.Mathlib.Omega.{arith}
use Rattle.host.proofs.Walk.{answered, begun, full, on, few, ended, stuck}
use Rattle.host.proofs.reader.judge.Goals as goal

pub loop-n-init : goal.loop-n-init
loop-n-init c = begun c.args.reply.now

pub returns-in_default-group : goal.returns-in_default-group
returns-in_default-group c =
    let x = c.args in
    answered x.reply.now (stuck c.loop-n.invariant (omega arith) c.group_at-group.result c.group_at-group.ensures c.in_default.not-Cells c.in_default-group.not-End)

pub overflow_add-n : goal.overflow_add-n
overflow_add-n c =
    omega (arith, few c.loop-n.invariant (omega arith) c.group_at-group.result c.group_at-group.ensures _ c.in-End.is)

pub returns-in_default : goal.returns-in_default
returns-in_default c =
    let x = c.args in
    answered x.reply.now (c.closed.ensures ∙ ended c.loop-n.invariant (omega arith) c.group_at-group.result c.group_at-group.ensures _ c.in-End.is)

pub loop-n-preserved : goal.loop-n-preserved
loop-n-preserved c =
    on c.loop-n.invariant (omega arith) c.group_at-group.result c.group_at-group.ensures c.in-Cells.is

pub returns : goal.returns
returns c =
    let all : c.loop-n.n ≡ 40 = omega (arith, c.loop-n.invariant.room) in
    answered c.args.reply.now (c.closed-2.ensures ∙ rw all at (full c.loop-n.invariant (omega arith)))
