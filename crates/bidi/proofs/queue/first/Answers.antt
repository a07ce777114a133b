use native.Mathlib.Omega.{arith}
use Rattle.bits.proofs.Lists.{elements_are}
use Rattle.slots.specs.Slots as Slots
use Rattle.bidi.proofs.queue.first.Goals as goal

pub returns : goal.returns
unfolding Slots.oldest
returns c = elements_are 4 0 c.args.queue (omega arith)
