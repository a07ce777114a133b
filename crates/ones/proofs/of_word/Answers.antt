-- `ones::of_word` meets its contract.
use native.Mathlib.Omega.{arith}
use Rattle.ones.proofs.Laws.{ones_are_bits}
use Rattle.ones.proofs.of_word.Goals as goal

pub returns : goal.returns
returns c = ones_are_bits 32 c.args.word (omega arith)
