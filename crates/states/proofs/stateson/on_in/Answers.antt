use Prim.Native.Nat.{◌*◌}
use native.Mathlib.Omega.{arith}
use Rattle.states.proofs.Counted.{first_apart}
use Rattle.states.proofs.stateson.on_in.Goals as goal

pub overflow_sub-result : goal.overflow_sub-result
overflow_sub-result c =
    let a = c.args in
    omega (arith, c.bit_at.ensures, c.ones_in.ensures, first_apart a.states.now (8 * a.count) (omega arith))

pub returns : goal.returns
returns c =
    let a = c.args in
    omega (arith, c.bit_at.ensures, c.ones_in.ensures, first_apart a.states.now (8 * a.count) (omega arith))
