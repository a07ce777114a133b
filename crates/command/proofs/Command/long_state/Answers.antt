use Rattle.command.specs.Pairs.{long_halves, long_pair}
use Rattle.bits.proofs.Tests.{picks}
use Rattle.command.proofs.Command.long_state.Goals as goal

pub returns-then-number-gt-LAST_STATE : goal.returns-then-number-gt-LAST_STATE
unfolding long_halves long_pair
returns-then-number-gt-LAST_STATE c = search picks

pub returns : goal.returns
unfolding long_halves long_pair
returns c = search picks
