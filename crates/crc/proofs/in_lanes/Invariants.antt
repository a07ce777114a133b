use Prim.Native.Nat.{◌-◌, ◌*◌, ◌≤◌, ◌<◌}
use mathlib.Core.Path.{◌≡◌}
use lib.ListN.{take, drop}
use Rattle.crc.specs.Crc.{crc_from}
use Rattle.crc.proofs.in_lanes.Given as goal

abbrev pub invariant-loop-i : goal.invariant-loop-i
invariant-loop-i l =
    (l.i ≤ l.lane)
    × (l.a ≡ crc_from l.crc (take l.i l.bytes))
    × (l.b ≡ crc_from 0 (take l.i (drop l.lane l.bytes)))
    × (l.c ≡ crc_from 0 (take l.i (drop (l.lane * 2) l.bytes)))
    × (l.d ≡ crc_from 0 (take l.i (drop (l.lane * 3) l.bytes)))
    × (l.a < 256)
    × (l.b < 256)
    × (l.c < 256)

abbrev pub decreases-loop-i : goal.decreases-loop-i
decreases-loop-i l = l.lane - l.i
