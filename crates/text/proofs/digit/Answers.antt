use Rattle.text.specs.Text.{digit_of}
use Rattle.bits.proofs.Tests.{picks}
use Rattle.text.proofs.digit.Goals as goal

pub returns-then-value-lt10 : goal.returns-then-value-lt10
unfolding digit_of
returns-then-value-lt10 c = search picks

pub returns-else-value-lt10 : goal.returns-else-value-lt10
unfolding digit_of
returns-else-value-lt10 c = search picks
