use native.Mathlib.Omega.{arith}
use Rattle.bits.proofs.Parts.{one_up}
use Rattle.drive.proofs.weight.Goals as goal

pub returns : goal.returns
returns c = one_up 32 _ (omega arith)
