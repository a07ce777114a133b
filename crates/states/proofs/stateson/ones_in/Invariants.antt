use Prim.Native.Nat.{◌*◌, ◌-◌, ◌≤◌}
use mathlib.Core.Path.{◌≡◌}
use Rattle.ones.specs.Ones.{ones_among}
use Rattle.states.specs.States.{state_at}
use Rattle.states.proofs.stateson.ones_in.Given as goal

abbrev pub invariant-loop-byte : goal.invariant-loop-byte
invariant-loop-byte l = (l.byte-index ≤ l.count) × (l.on ≡ ones_among (state_at l.states) 0 (8 * l.byte-index))

abbrev pub decreases-loop-byte : goal.decreases-loop-byte
decreases-loop-byte l = l.count - l.byte-index
