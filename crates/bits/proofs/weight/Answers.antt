use native.Mathlib.Omega.{arith}
use Rattle.bits.proofs.Parts.{one_up}
use Rattle.bits.proofs.weight.Goals as goal

pub returns : goal.returns
returns c = one_up 8 _ (omega arith)
