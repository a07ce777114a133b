use Rattle.bidi.specs.Read.{cell_half}
use Rattle.bidi.proofs.read.cell_half.Goals as goal

pub returns-in-Some : goal.returns-in-Some
unfolding cell_half
returns-in-Some c = rw c.in-Some.is

pub returns-in-None : goal.returns-in-None
unfolding cell_half
returns-in-None c = rw c.in-None.is
