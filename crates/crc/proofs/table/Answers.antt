-- `crc::table` meets its contract: the test of all entries is computed here.
use mathlib.Core.Path.{refl}
use Rattle.crc.specs.Crc.{crc_bit, crc_byte}
use Rattle.bits.proofs.Tests.{equal_below}
use Rattle.crc.proofs.table.Goals as goal

pub returns : goal.returns
unfolding crc_byte crc_bit
returns c = equal_below 256 _ _ refl
