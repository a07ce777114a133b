use Rattle.crc.specs.Crc.{crc_bit}
use Rattle.bits.proofs.Tests.{picks}
use Rattle.crc.proofs.bit.Goals as goal

pub returns-then-crc-eq1 : goal.returns-then-crc-eq1
unfolding crc_bit
returns-then-crc-eq1 c = search picks

pub returns-else-crc-eq1 : goal.returns-else-crc-eq1
unfolding crc_bit
returns-else-crc-eq1 c = search picks
