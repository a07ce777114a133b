-- the code tests the end of the range as "below the next"
use Prim.Native.Nat.{ℕ, suc, ◌<◌}
use mathlib.Core.Bool.{true}
use mathlib.Core.Path.{◌≡◌}
use native.Mathlib.Omega.{arith}
use lib.Dec.{leb}
use borrow.Author.Tests.{le-leb}
use Rattle.bits.proofs.Tests.{picks}
use Rattle.line.specs.Line.{packet_length}
use Rattle.line.proofs.packet.packet_length.Goals as goal

below_next : (a k : ℕ) → a < suc k → leb a k ≡ true
below_next a k h = le-leb a k (omega arith)

pub returns-in-112-to-127 : goal.returns-in-112-to-127
unfolding packet_length
returns-in-112-to-127 c = search (picks, below_next)

pub returns-in_default : goal.returns-in_default
unfolding packet_length
returns-in_default c = search picks

pub returns-in_default-2 : goal.returns-in_default-2
unfolding packet_length
returns-in_default-2 c = search picks
