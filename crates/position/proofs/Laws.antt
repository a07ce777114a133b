-- Whatever is possible is said by two bytes, the high one at most 15; and what two bytes say is possible.
use Prim.Native.Nat.{ℕ, ◌+◌, ◌*◌, ◌/◌, ◌%◌, ◌^◌, ◌≤◌, ◌<◌}
use mathlib.Core.Bool.{Bool, true, false, cond}
use mathlib.Core.Path.{◌≡◌}
use native.Mathlib.Omega.{arith}
use lib.Dec.{leb, eqb}
use borrow.Author.Tests.{le-leb, leb-true, leb-false, eq-eqb, ne_eqb}
use Rattle.bits.specs.Bits.{part_of, bit_at}
use Rattle.bits.proofs.Parts.{part_lt}
use Rattle.bits.proofs.Tests.{by}
use Rattle.std.proofs.Common.{Some}
use Rattle.position.specs.Position.{position_at, position_of, position_possible}

-- three address bits and the mark, put into a byte, are read again
high_read : (upper : ℕ) (extended : Bool) → upper < 8
    → (part_of (cond extended 8 0 + upper) 0 3 ≡ upper) × (eqb (bit_at (cond extended 8 0 + upper) 3) 1 ≡ extended)
unfolding part_of
high_read upper true few = (omega arith, eq-eqb (bit_at (8 + upper) 3) 1 (omega arith))
high_read upper false few = (omega arith, ne_eqb (bit_at (0 + upper) 3) 1 (λ (e : bit_at (0 + upper) 3 ≡ 1). omega arith))

-- what a byte up to 15 says, without its bits: "+8" is the extended mark
pub position_said : (high low : ℕ) → high ≤ 15 → position_of high low ≡ position_at (256 * (high % 8) + low) (leb 8 high)
unfolding position_of part_of
position_said high low few =
    let bits : high / 2 ^ 0 % 2 ^ 3 ≡ high % 8 = omega arith in
    by (leb 8 high)
    (λ e. let eighth : high / 2 ^ 3 ≡ 1 = omega (arith, leb-true 8 high e) in simp (bits, eighth, e))
    (λ e. let eighth : high / 2 ^ 3 ≡ 0 = omega (arith, leb-false 8 high e) in simp (bits, eighth, e))

-- row 12 lets no position pass that cannot be heard
pub every_position : (address : ℕ) (extended : Bool) → position_possible (Some (position_at address extended)) ≡ true
    → position_of (cond extended 8 0 + address / 256) (address % 256) ≡ position_at address extended
unfolding position_of position_possible
every_position address extended possible =
    let read = high_read (address / 256) extended (omega (arith, leb-true address _ possible)) in
    let whole : 256 * (address / 256) + address % 256 ≡ address = omega arith in
    simp (read.0, read.1, whole)

-- and refuses none that can be
pub heard_possible : (high low : ℕ) → low < 256 → position_possible (Some (position_of high low)) ≡ true
unfolding position_of position_possible
heard_possible high low small = le-leb (256 * part_of high 0 3 + low) 2047 (omega (arith, part_lt high 0 3))
