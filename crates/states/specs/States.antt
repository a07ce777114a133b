-- The states 1 to 32767, short and long in one set (H), in 4,096 lent bytes; and C-05, how many of them are on.
use Rattle.std.specs.Prelude.{ℕ, ◌+◌, ◌-◌, ◌/◌, ◌%◌, Bool, cond, List, ◌∷◌, ◌++◌, eqb, length, get_or, drop, set, replicate}
use Rattle.bits.specs.Bits.{bit_at, with_bit}
use Rattle.ones.specs.Ones.{ones_among}

-- refusal 4: states not 4,096 bytes
abbrev pub length_holds : List ℕ → Bool
length_holds states = eqb (length states) 4096

-- number n is bit n mod 8 of byte n div 8
abbrev pub state_at : List ℕ → ℕ → ℕ
state_at states n = bit_at (get_or states (n / 8) 0) (n % 8)

-- on is 1, off is 0
abbrev pub on_bit : Bool → ℕ
on_bit on = cond on 1 0

-- one state: its bit, and no other
unfoldable pub with_state : List ℕ → ℕ → Bool → List ℕ
with_state states n on = set states (n / 8) (with_bit (get_or states (n / 8) 0) (n % 8) (on_bit on))

-- what a command for all puts into `count` bytes: on leaves byte 0 at 254, the others at 255; off gives 0
unfoldable pub all_of : ℕ → Bool → List ℕ
all_of count on = cond on (254 ∷ replicate (count - 1) 255) (replicate count 0)

-- the first `count` bytes so, and the rest as it was
unfoldable pub with_all : List ℕ → ℕ → Bool → List ℕ
with_all states count on = all_of count on ++ drop count states

-- a state number, or 0 for all states of the first `count` bytes
unfoldable pub with_states : ℕ → List ℕ → ℕ → Bool → List ℕ
with_states count states n on = cond (eqb n 0) (with_all states count on) (with_state states n on)

-- 0x6D: number 0 means all of 1..127: bytes 0 to 15
abbrev pub with_short : List ℕ → ℕ → Bool → List ℕ
with_short = with_states 16

-- 0x6E, 0x6F: number 0 means 1..32767: all bytes
abbrev pub with_long : List ℕ → ℕ → Bool → List ℕ
with_long = with_states 4096

-- a restart zeroes the states
unfoldable pub cleared : List ℕ
cleared = replicate 4096 0

-- C-05, HOW MANY STATES ARE ON: "the number of long states 1 to 32767 that are on", by the states themselves
unfoldable pub states_on : List ℕ → ℕ
states_on states = ones_among (state_at states) 1 32767

-- "moves it by its difference modulo 65,536": the number kept, where `before` were on and `after` are
unfoldable pub moved_by : ℕ → ℕ → ℕ → ℕ
moved_by stateson before after = (stateson + after + 65536 - before) % 65536

-- one state
abbrev pub stateson_one : ℕ → List ℕ → ℕ → Bool → ℕ
stateson_one stateson states n on = moved_by stateson (state_at states n) (on_bit on)

-- of so many states all are on, or none
abbrev pub all_or_none : ℕ → Bool → ℕ
all_or_none count on = cond on count 0

-- the number kept after 0x6D: the short broadcast moves it by the difference from the states 1 to 127 that were on to 127, or to 0
unfoldable pub stateson_short : ℕ → List ℕ → ℕ → Bool → ℕ
stateson_short stateson states n on =
    cond (eqb n 0) (moved_by stateson (ones_among (state_at states) 1 127) (all_or_none 127 on)) (stateson_one stateson states n on)

-- and after 0x6F: "a long broadcast or a restart sets the count"
unfoldable pub stateson_long : ℕ → List ℕ → ℕ → Bool → ℕ
stateson_long stateson states n on = cond (eqb n 0) (all_or_none 32767 on) (stateson_one stateson states n on)
