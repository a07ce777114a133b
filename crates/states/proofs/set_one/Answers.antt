use native.Mathlib.Omega.{arith}
use Rattle.states.specs.States.{with_state}
use Rattle.states.proofs.Filled.{flag_bit, bit_lt}
use Rattle.states.proofs.set_one.Goals as goal

pub with_bit-requires : goal.with_bit-requires
with_bit-requires c =
    record { place_bound = omega arith; value_bound = rw (c.from.ensures, flag_bit c.args.on) (bit_lt c.args.on) }

pub returns : goal.returns
unfolding with_state
returns c = rw (c.with_bit.ensures, c.from-at.ensures, c.from.ensures, flag_bit c.args.on)
