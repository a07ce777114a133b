-- C-12: "the last position heard (bits A10 to A0 and the extended mark)", of the two bytes that say it.
use Rattle.std.specs.Prelude.{ℕ, ◌+◌, ◌*◌, Bool, true, leb, eqb, Option, Some, None}
use Rattle.bits.specs.Bits.{part_of, bit_at}
use Rattle.position.specs.declared.Position.{Position}

-- a position by its address, and whether that is extended
abbrev pub position_at : ℕ → Bool → Position
position_at address extended = record { address = address; extended = extended }

-- source 001: "Bit2..0 = A10 .. 8" and "+8" for an extended address in the high byte, "A7 .. 0" in the low one
unfoldable pub position_of : ℕ → ℕ → Position
position_of high low = position_at (256 * part_of high 0 3 + low) (eqb (bit_at high 3) 1)

-- C-12, "Refusal 12 .. cover the new fields": A10 to A0 are eleven bits, so no address is over 2,047; none heard is possible
unfoldable pub position_possible : Option Position → Bool
position_possible None = true
position_possible (Some p) = leb p.address 2047
