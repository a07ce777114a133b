use Rattle.command.specs.Saying.{between}
use Rattle.bits.proofs.Tests.{picks}
use Rattle.command.proofs.encoding.between.Goals as goal

pub returns-then-low-number : goal.returns-then-low-number
unfolding between
returns-then-low-number c = search picks

pub returns-else-low-number : goal.returns-else-low-number
unfolding between
returns-else-low-number c = search picks
