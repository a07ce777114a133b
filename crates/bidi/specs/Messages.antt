-- Which messages an application may post, and which statuses there are: document 01, "BiDi (001)".
use Rattle.std.specs.Prelude.{ℕ, ◌+◌, ◌*◌, ◌%◌, List, Bool, true, false, cond, not, ◌&&◌, ◌||◌, ltb, leb, eqb, get_or}
use Rattle.bits.specs.Bits.{bit_at}

-- "80 with 0, 4, 15"
unfoldable pub signal_legal : ℕ → Bool
signal_legal d = eqb d 0 || eqb d 4 || eqb d 15

-- "81 with kind (data mod 32) one of 0..7, 15, 16, 17, 19, 24, 25, data below 96 and not 32"
unfoldable pub kind_legal : ℕ → Bool
kind_legal k = leb k 7 || eqb k 15 || eqb k 16 || eqb k 17 || eqb k 19 || eqb k 24 || eqb k 25

unfoldable pub function_legal : ℕ → Bool
function_legal d = kind_legal (d % 32) && ltb d 96 && not (eqb d 32)

-- "82 with kind 0..28, data below 96"
unfoldable pub dcc_legal : ℕ → Bool
dcc_legal d = leb (d % 32) 28 && ltb d 96

-- a half that stands for itself: these, "83, 84, 8C, 8D with any data; 85 with 0..7", and "Nothing else"
unfoldable pub half_legal : ℕ → ℕ → Bool
half_legal h d =
    cond (eqb h 0x80) (signal_legal d)
    (cond (eqb h 0x81) (function_legal d)
    (cond (eqb h 0x82) (dcc_legal d)
    (cond (eqb h 0x83 || eqb h 0x84 || eqb h 0x8C || eqb h 0x8D) true
    (cond (eqb h 0x85) (leb d 7) false))))

-- "88 with 0..15 as first half exactly when 89 is the second": the data of 88, and the header after it
unfoldable pub position_legal : ℕ → ℕ → Bool
position_legal d h = leb d 15 && eqb h 0x89

-- two (header, data) halves: a position, or two that stand for themselves
unfoldable pub message_legal : List ℕ → Bool
message_legal m =
    cond (eqb (get_or m 0 0) 0x88) (position_legal (get_or m 1 0) (get_or m 2 0))
    (half_legal (get_or m 0 0) (get_or m 1 0) && half_legal (get_or m 2 0) (get_or m 3 0))

-- "Status 0 uses bits 0, 1, 4; status 1 bits 0, 1": a status is the sum of these bits, and there is no other status
unfoldable pub status_legal : ℕ → ℕ → Bool
status_legal number s =
    cond (eqb number 0) (eqb s (bit_at s 0 + 2 * bit_at s 1 + 16 * bit_at s 4))
    (cond (eqb number 1) (eqb s (bit_at s 0 + 2 * bit_at s 1)) false)
