use Rattle.cells.specs.Roles.{may_write}
use Rattle.cells.proofs.role.may_write.Goals as goal

pub returns : goal.returns
unfolding may_write
returns c = cc
