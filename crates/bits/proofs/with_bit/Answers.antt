-- `bits::with_bit` meets its contract: the bit taken away and put in anew stays in its byte by `swap_fits`.
use Prim.Native.Nat.{◌+◌, ◌-◌, ◌*◌, ◌≤◌, ◌<◌}
use native.Mathlib.Omega.{arith}
use Rattle.bits.specs.Bits.{with_part}
use Rattle.bits.proofs.Parts.{swap_fits}
use Rattle.bits.proofs.with_bit.Goals as goal

held : (c : goal.After-bit_at)
    → (c.bit_at.result * c.weight-one.result ≤ c.args.byte)
    × (c.args.byte - c.bit_at.result * c.weight-one.result + c.args.value * c.weight-one.result < 256)
held c =
    swap_fits 8 _ c.args.place 1 _ _ _ (omega arith) (omega arith) c.requires.value_bound c.weight-one.ensures c.bit_at.ensures

pub overflow_mul-result : goal.overflow_mul-result
overflow_mul-result c = record { fits = omega (arith, held c) }

pub overflow_sub-result : goal.overflow_sub-result
overflow_sub-result c = (held c).0

pub overflow_mul-result-2 : goal.overflow_mul-result-2
overflow_mul-result-2 c = record { fits = omega (arith, held c) }

pub overflow_add-result : goal.overflow_add-result
overflow_add-result c = record { fits = omega (arith, held c) }

pub returns : goal.returns
unfolding with_part
returns c = rw (c.weight-one.ensures, c.bit_at.ensures)
