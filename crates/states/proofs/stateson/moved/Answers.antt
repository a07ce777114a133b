use Rattle.states.specs.States.{moved_by}
use Rattle.states.proofs.stateson.moved.Goals as goal

pub returns : goal.returns
unfolding moved_by
returns c = rw (c.from.ensures, c.from-2.ensures, c.from-3.ensures)
