use Rattle.command.specs.Meaning.{load_of}
use Rattle.bits.proofs.Tests.{picks}
use Rattle.command.proofs.decoding.load_of.Goals as goal

pub returns-then-second-lt128 : goal.returns-then-second-lt128
unfolding load_of
returns-then-second-lt128 c = search picks

pub returns-else-second-lt128 : goal.returns-else-second-lt128
unfolding load_of
returns-else-second-lt128 c = search picks
