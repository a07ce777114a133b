use Rattle.line.specs.Line.{bits_possible}
use Rattle.bits.proofs.Tests.{picks}
use Rattle.line.proofs.receiver.bits_possible.Goals as goal

pub returns-then-count-le7 : goal.returns-then-count-le7
unfolding bits_possible
returns-then-count-le7 c = rw c.weight.ensures (search picks)

pub returns-else-count-le7 : goal.returns-else-count-le7
unfolding bits_possible
returns-else-count-le7 c = search picks
