use Prim.Native.Nat.{◌<◌}
use Rattle.command.specs.Meaning.{functions_of}
use Rattle.bits.proofs.Parts.{part_lt}
use native.Mathlib.Omega.{arith}
use Rattle.command.proofs.decoding.functions_of.Goals as goal

pub overflow_mul-result : goal.overflow_mul-result
overflow_mul-result c = let k : c.part_of.result < 16 = rw c.part_of.ensures (part_lt _ _ 4) in record { fits = omega arith }

pub overflow_add-result : goal.overflow_add-result
overflow_add-result c = let h : c.bit_at.result < 2 = rw c.bit_at.ensures (part_lt _ _ 1) in let k : c.part_of.result < 16 = rw c.part_of.ensures (part_lt _ _ 4) in record { fits = omega arith }

pub returns : goal.returns
unfolding functions_of
returns c = simp (c.bit_at.ensures, c.part_of.ensures)
