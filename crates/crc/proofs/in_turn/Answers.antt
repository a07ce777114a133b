-- `crc::in_turn` meets its contract. The invariant: the running value is that of the bytes gone over.
use mathlib.Core.Path.{refl, ◌∙◌, ap}
use lib.Seq.{take_all}
use Rattle.crc.specs.Crc.{crc_from}
use Rattle.crc.proofs.Laws.{turn}
use Rattle.crc.proofs.in_turn.Goals as goal

pub loop-value-init : goal.loop-value-init
unfolding crc_from
loop-value-init c = refl

pub loop-value-preserved : goal.loop-value-preserved
loop-value-preserved c =
    let l = c.loop-value in
    c.byte_by_table-running.ensures ∙ turn _ c.args.bytes.now l.value-index l.running l.invariant c.loop-value-test.true

pub returns : goal.returns
returns c =
    let l = c.loop-value in
    l.invariant ∙ ap (crc_from _) (take_all l.value-index c.args.bytes.now c.loop-value-test.false)
