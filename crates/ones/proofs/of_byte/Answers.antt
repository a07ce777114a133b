-- `ones::of_byte` meets its contract.
use native.Mathlib.Omega.{arith}
use Rattle.ones.proofs.Laws.{ones_are_bits}
use Rattle.ones.proofs.of_byte.Goals as goal

pub returns : goal.returns
returns c = ones_are_bits 8 c.args.byte (omega arith)
