-- "c is the CRC with x^8+x^5+x^4+1, start 0, over data bytes .. low bit first, constant 0x8C."
use Rattle.std.specs.Prelude.{ℕ, ◌/◌, ◌%◌, cond, List, [], ◌∷◌, eqb}
use Rattle.std.specs.Int.Bits.{bit_xor}

-- a bit: the lowest goes out; where it is 1, the constant comes in
unfoldable pub crc_bit : ℕ → ℕ
crc_bit c = cond (eqb (c % 2) 1) (bit_xor (c / 2) 0x8C) (c / 2)

-- a byte: it comes in, then its eight bits go out
unfoldable pub crc_byte : ℕ → ℕ → ℕ
crc_byte c b = crc_bit (crc_bit (crc_bit (crc_bit (crc_bit (crc_bit (crc_bit (crc_bit (bit_xor c b))))))))

-- a list of bytes, from a running value, and from 0
unfoldable pub crc_from : ℕ → List ℕ → ℕ
crc_from c [] = c
crc_from c (b ∷ bs) = crc_from (crc_byte c b) bs

abbrev pub crc_of : List ℕ → ℕ
crc_of bs = crc_from 0 bs
