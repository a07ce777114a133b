use Prim.Native.Nat.{◌<◌}
use lib.Pow.{pow_pos}
use borrow.Author.Rules.{rules}
use Rattle.bits.specs.Bits.{part_of}
use Rattle.drive.proofs.group_of.Goals as goal

pub nonzero_div-result : goal.nonzero_div-result
nonzero_div-result c = let p : 0 < c.weight.result = rw c.weight.ensures (pow_pos _) in search rules

pub nonzero_rem-result : goal.nonzero_rem-result
nonzero_rem-result c = let p : 0 < c.weight-2.result = rw c.weight-2.ensures (pow_pos _) in search rules

pub returns : goal.returns
unfolding part_of
returns c = rw (c.weight.ensures, c.weight-2.ensures)
