-- Parts of a number: its binary digits from bit `at` on, `width` of them; bit 0 is the lowest.
use Rattle.std.specs.Prelude.{ℕ, ◌+◌, ◌-◌, ◌*◌, ◌/◌, ◌%◌, ◌^◌, ◌<◌, List, get_or}

-- the part, as a number
unfoldable pub part_of : ℕ → ℕ → ℕ → ℕ
part_of n at width = n / 2 ^ at % 2 ^ width

-- the number with v in that part: what was there is taken away, and v put in its place
unfoldable pub with_part : ℕ → ℕ → ℕ → ℕ → ℕ
with_part n at width v = n - part_of n at width * 2 ^ at + v * 2 ^ at

-- a bit is a part of width 1
abbrev pub bit_at : ℕ → ℕ → ℕ
bit_at n place = part_of n place 1

abbrev pub with_bit : ℕ → ℕ → ℕ → ℕ
with_bit n place v = with_part n place 1 v

-- a list of bytes (past its end `get_or` gives 0)
abbrev pub Bytes : List ℕ → Type 0
Bytes bs = (i : ℕ) → get_or bs i 0 < 256
