use native.Mathlib.Omega.{arith}
use Rattle.onward.specs.Onward.{start_of}
use Rattle.onward.proofs.start.Goals as goal

pub returns : goal.returns
unfolding start_of
returns c = grind (arith)
