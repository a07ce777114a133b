use mathlib.Core.Path.{refl, ◌∙◌}
use native.Mathlib.Omega.{arith}
use Rattle.lines.proofs.Writing.{begun, ends, quiet, line_fits, reply_short, on}
use Rattle.lines.proofs.run.Goals as goal
use Rattle.lines.proofs.run.Goals.{in-None, in-Some-reply}

pub loop-byte-init : goal.loop-byte-init
loop-byte-init c = begun _ _ _ _ _ _ _ c.requires.room_value c.requires.out_value

pub loop-byte-preserved-in_default : goal.loop-byte-preserved-in_default
loop-byte-preserved-in_default c =
    let heard = rw c.in_default.is at c.with_byte-heard.ensures.heard in
    quiet c.loop-byte.invariant c.loop-byte-test.true _ heard refl

pub put_dash-text-requires : goal.put_dash-text-requires
put_dash-text-requires c =
    let heard = rw c.in-Some.is at c.with_byte-heard.ensures.heard in
    let there = rw c.in-Some.is at c.with_byte-heard.ensures.whole in
    omega (arith, line_fits c.loop-byte.invariant c.loop-byte-test.true _ heard there)

pub put_acknowledged-text-requires-clause-at_in_bounds : goal.put_acknowledged-text-requires-clause-at_in_bounds
put_acknowledged-text-requires-clause-at_in_bounds c =
    let heard = rw c.in-Some.is at c.with_byte-heard.ensures.heard in
    let there = rw c.in-Some.is at c.with_byte-heard.ensures.whole in
    line_fits c.loop-byte.invariant c.loop-byte-test.true _ heard there

pub put_acknowledged-text-requires-clause-reply_len_bound : goal.put_acknowledged-text-requires-clause-reply_len_bound
put_acknowledged-text-requires-clause-reply_len_bound c =
    let heard = rw c.in-Some.is at c.with_byte-heard.ensures.heard in
    let there = rw c.in-Some.is at c.with_byte-heard.ensures.whole in
    reply_short c.loop-byte.invariant c.loop-byte-test.true _ heard there (omega (arith, c.type_inv.input c.loop-byte.byte-index)) _ (rw c.in-Some-reply.is at c.packet-reaction.ensures)

pub loop-byte-preserved : goal.loop-byte-preserved
loop-byte-preserved c =
    let heard = rw c.in-Some.is at c.with_byte-heard.ensures.heard in
    let there = rw c.in-Some.is at c.with_byte-heard.ensures.whole in
    elim c.match-reaction.branch [
      | in-None w ↦
          on c.loop-byte.invariant c.loop-byte-test.true _ heard there (omega (arith, c.type_inv.input c.loop-byte.byte-index)) _ (rw w.in-None.is at c.packet-reaction.ensures) _ _
          (w.text-is ∙ w.put_dash-text.ensures.value) (w.out-is ∙ w.put_dash-text.ensures.out_after)
      | in-Some-reply w ↦
          on c.loop-byte.invariant c.loop-byte-test.true _ heard there (omega (arith, c.type_inv.input c.loop-byte.byte-index)) _ (rw w.in-Some-reply.is at c.packet-reaction.ensures) _ _
          (w.text-is ∙ w.put_acknowledged-text.ensures.value) (w.out-is ∙ w.put_acknowledged-text.ensures.out_after)
    ]

pub returns : goal.returns
returns c =
    rw c.with_receiver.ensures (ends c.loop-byte.invariant c.loop-byte-test.false)
