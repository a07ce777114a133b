use Rattle.command.specs.Saying.{bank_first}
use Rattle.bits.proofs.Tests.{picks}
use Rattle.command.proofs.encoding.bank_first.Goals as goal

pub returns-in-1 : goal.returns-in-1
unfolding bank_first
returns-in-1 c = simp c.in-1.is

pub returns-in-2 : goal.returns-in-2
unfolding bank_first
returns-in-2 c = simp c.in-2.is

pub returns-in_default : goal.returns-in_default
unfolding bank_first
returns-in_default c = search picks
