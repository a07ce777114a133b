-- `bank::checksum` meets its contract. The invariant: the data bytes that are left, from the running value, give what all give.
use mathlib.Core.Path.{◌≡◌, refl, ◌∙◌}
use Rattle.std.specs.Slice.Iter.{chunks_exact_rest}
use Rattle.bank.specs.Reply.{checksum_of}
use Rattle.bank.proofs.Summed.{turn, ended}
use Rattle.bank.proofs.checksum.Goals as goal

pub loop-pair-init : goal.loop-pair-init
unfolding checksum_of
loop-pair-init c =
    let items = c.chunks_exact-pair-items.ensures in
    let gives = c.into_iter-pair-iterator.ensures.into_iter_gives in
    let all : chunks_exact_rest c.into_iter-pair-iterator.result ≡ c.args.body.now = rw gives items.rest in
    (rw gives items.size, rw all refl)

pub loop-pair-preserved : goal.loop-pair-preserved
loop-pair-preserved c =
    let going = c.loop-pair.invariant in
    let step = rw c.in-Some.is at c.next.ensures.steps in
    (step.0 ∙ going.0, rw c.byte_by_table-crc.ensures (turn _ _ c.in-Some.pair.now _ _ going.1 step.1.0 (step.1.1 ∙ going.0)))

pub returns : goal.returns
returns c =
    let going = c.loop-pair.invariant in
    let step = rw c.in-None.is at c.next.ensures.steps in
    ended _ _ _ going.1 (rw going.0 at step.1.0)
