use native.Mathlib.Omega.{arith}
use Prim.Native.Nat.{◌/◌, ◌%◌}
use mathlib.Core.Path.{◌≡◌}
use Rattle.command.specs.Pairs.{address_halves}
use Rattle.command.proofs.Command.address.Goals as goal

pub returns : goal.returns
unfolding address_halves
returns c =
    let top : c.args.address / 256 % 256 ≡ c.args.address / 256 = omega arith in
    rw c.to_le_bytes.ensures (rw top)
