use Prim.Native.Nat.{◌-◌}
use mathlib.Core.Bool.{◌&&◌}
use mathlib.Core.Path.{◌≡◌}
use lib.Dec.{eqb}
use lib.ListN.{length, drop}
use Rattle.slots.specs.Slots.{all_zero, unused_zero}
use Rattle.history.proofs.unused_zero.Given as goal

abbrev pub invariant-loop-byte : goal.invariant-loop-byte
invariant-loop-byte l = unused_zero 3 l.reach l.changes ≡ (eqb l.seen 0 && all_zero (drop l.byte-index l.unused))

abbrev pub decreases-loop-byte : goal.decreases-loop-byte
decreases-loop-byte l = length l.unused - l.byte-index
