use Rattle.states.specs.States.{states_on}
use Rattle.states.proofs.stateson.states_on.Goals as goal

pub returns : goal.returns
unfolding states_on
returns c = c.on_in.ensures
