use Rattle.command.specs.Saying.{room_for_call}
use Rattle.bits.proofs.Tests.{picks}
use Rattle.command.proofs.encoding.room_for_call.Goals as goal

pub returns-then-called-lt4 : goal.returns-then-called-lt4
unfolding room_for_call
returns-then-called-lt4 c = search picks

pub returns-else-called-lt4 : goal.returns-else-called-lt4
unfolding room_for_call
returns-else-called-lt4 c = search picks
