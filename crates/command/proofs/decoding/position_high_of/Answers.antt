use Rattle.command.specs.Meaning.{position_high_of}
use Rattle.bits.proofs.Tests.{picks}
use Rattle.command.proofs.decoding.position_high_of.Goals as goal

pub returns-then-second-le15 : goal.returns-then-second-le15
unfolding position_high_of
returns-then-second-le15 c = search picks

pub returns-else-second-le15 : goal.returns-else-second-le15
unfolding position_high_of
returns-else-second-le15 c = search picks
