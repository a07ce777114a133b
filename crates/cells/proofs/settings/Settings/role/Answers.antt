use Rattle.cells.proofs.Numbers.{number_from}
use Rattle.cells.proofs.settings.Settings.role.Goals as goal

pub role_of-requires : goal.role_of-requires
role_of-requires c = rw c.module_number.ensures (number_from _)

pub returns : goal.returns
returns c = cc
