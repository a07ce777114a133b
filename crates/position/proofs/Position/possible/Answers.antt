use Rattle.position.specs.Position.{position_possible}
use Rattle.position.proofs.Position.possible.Goals as goal

pub returns-in-None : goal.returns-in-None
unfolding position_possible
returns-in-None c = rw c.in-None.is

pub returns-in-Some : goal.returns-in-Some
unfolding position_possible
returns-in-Some c = rw c.in-Some.is
