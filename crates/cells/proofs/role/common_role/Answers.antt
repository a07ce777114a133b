use Rattle.bits.proofs.Tests.{picks}
use Rattle.cells.specs.Roles.{common_role}
use Rattle.cells.proofs.role.common_role.Goals as goal

pub returns-in-897 : goal.returns-in-897
unfolding common_role
returns-in-897 c = simp c.in-897.is

pub returns-in-1020 : goal.returns-in-1020
unfolding common_role
returns-in-1020 c = simp c.in-1020.is

pub returns-in-1021 : goal.returns-in-1021
unfolding common_role
returns-in-1021 c = simp c.in-1021.is

pub returns-in_default : goal.returns-in_default
unfolding common_role
returns-in_default c = search picks
