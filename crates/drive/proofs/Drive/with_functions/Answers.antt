-- `Drive::with_functions` meets its contract: the group taken away and put in anew stays in its word by `swap_fits`.
use Prim.Native.Nat.{◌+◌, ◌-◌, ◌*◌, ◌^◌, ◌≤◌, ◌<◌}
use native.Mathlib.Omega.{arith}
use Rattle.bits.specs.Bits.{with_part}
use Rattle.bits.proofs.Parts.{swap_fits}
use Rattle.drive.proofs.Drive.with_functions.Goals as goal

pub overflow_mul-self : goal.overflow_mul-self
overflow_mul-self c =
    let held : (c.group_of-old.result * c.weight-one.result ≤ c.args.self.functions) × (c.args.self.functions - c.group_of-old.result * c.weight-one.result + c.args.on * c.weight-one.result < 2 ^ 32) =
    let a = c.args in
    swap_fits 32 _ a.first a.width _ _ _ (omega arith) (omega arith) c.requires.on_bound c.weight-one.ensures c.group_of-old.ensures in
    record { fits = omega (arith, held) }

pub overflow_sub-self : goal.overflow_sub-self
overflow_sub-self c =
    let held : (c.group_of-old.result * c.weight-one.result ≤ c.args.self.functions) × (c.args.self.functions - c.group_of-old.result * c.weight-one.result + c.args.on * c.weight-one.result < 2 ^ 32) =
    let a = c.args in
    swap_fits 32 _ a.first a.width _ _ _ (omega arith) (omega arith) c.requires.on_bound c.weight-one.ensures c.group_of-old.ensures in
    held.0

pub overflow_mul-self-2 : goal.overflow_mul-self-2
overflow_mul-self-2 c =
    let held : (c.group_of-old.result * c.weight-one.result ≤ c.args.self.functions) × (c.args.self.functions - c.group_of-old.result * c.weight-one.result + c.args.on * c.weight-one.result < 2 ^ 32) =
    let a = c.args in
    swap_fits 32 _ a.first a.width _ _ _ (omega arith) (omega arith) c.requires.on_bound c.weight-one.ensures c.group_of-old.ensures in
    record { fits = rw c.from.ensures (omega (arith, held)) }

pub overflow_add-self : goal.overflow_add-self
overflow_add-self c =
    let held : (c.group_of-old.result * c.weight-one.result ≤ c.args.self.functions) × (c.args.self.functions - c.group_of-old.result * c.weight-one.result + c.args.on * c.weight-one.result < 2 ^ 32) =
    let a = c.args in
    swap_fits 32 _ a.first a.width _ _ _ (omega arith) (omega arith) c.requires.on_bound c.weight-one.ensures c.group_of-old.ensures in
    record { fits = rw c.from.ensures held.1 }

pub returns : goal.returns
unfolding with_part
returns c = rw (c.from.ensures, c.weight-one.ensures, c.group_of-old.ensures)
