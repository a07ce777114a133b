use Rattle.command.specs.Saying.{bit_byte}
use Rattle.command.proofs.encoding.bit_packet.Goals as goal

pub returns : goal.returns
unfolding bit_byte
returns c = simp (← c.cv_byte.ensures) c.long.ensures
