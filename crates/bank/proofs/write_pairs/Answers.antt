-- `bank::write_pairs` meets its contract. The invariant is `Going`.
use mathlib.Core.Path.{◌∙◌}
use Rattle.bank.proofs.Written.{turned, wrote, stands}
use Rattle.bank.proofs.write_pairs.Goals as goal

pub loop-pair-preserved : goal.loop-pair-preserved
loop-pair-preserved c =
    let going = c.loop-pair.invariant in
    let step = rw c.in-Some.is at c.next.ensures.steps in (
      step.0 ∙ going.0,
      rw c.put.ensures (turned c.requires.cells_len_bound c.requires.in_bounds going.1 c.in-Some.pair.now _ step.1.0 (step.1.1 ∙ going.0)),
    )

pub returns : goal.returns
returns c =
    let going = c.loop-pair.invariant in
    let step = rw c.in-None.is at c.next.ensures.steps in
    let few = rw going.0 at step.1.0 in
    record {
      value = wrote c.requires.cells_len_bound c.requires.in_bounds going.1 few;
      room_after = stands c.requires.cells_len_bound c.requires.in_bounds going.1 few;
    }
