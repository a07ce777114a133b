-- `bank::last_of` meets its contract: each arm has what its bytes are, or where they differ.
use Rattle.bits.proofs.Tests.{picks}
use Rattle.bank.specs.Group.{checksum_group}
use Rattle.bank.proofs.last_of.Goals as goal

pub returns-in-143-default-eq143-eq0 : goal.returns-in-143-default-eq143-eq0
unfolding checksum_group
returns-in-143-default-eq143-eq0 c = search picks

pub returns-in_default : goal.returns-in_default
unfolding checksum_group
returns-in_default c = search picks

pub returns-in_default-2 : goal.returns-in_default-2
unfolding checksum_group
returns-in_default-2 c = search picks

pub returns-in_default-3 : goal.returns-in_default-3
unfolding checksum_group
returns-in_default-3 c = search picks
