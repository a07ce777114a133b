use mathlib.Core.Path.{◌≡◌}
use lib.ListN.{take}
use Rattle.crc.specs.Crc.{crc_from}
use Rattle.crc.proofs.in_turn.Given as goal

abbrev pub invariant-loop-value : goal.invariant-loop-value
invariant-loop-value l = l.running ≡ crc_from l.crc (take l.value-index l.bytes)
