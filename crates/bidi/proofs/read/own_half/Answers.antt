use Rattle.bidi.specs.Read.{own_half}
use Rattle.bidi.proofs.read.own_half.Goals as goal

pub returns-in-Some : goal.returns-in-Some
unfolding own_half
returns-in-Some c = rw c.in-Some.is c.cell_half.ensures

pub returns-in-None : goal.returns-in-None
unfolding own_half
returns-in-None c = rw c.in-None.is
