-- The numbers of a line.
use Rattle.std.specs.Prelude.{Option, Some, None, ℕ, ◌+◌, ◌-◌, ◌*◌, ◌^◌, Bool, true, false, cond, ◌&&◌, List, [], ◌∷◌, eqb, ltb, leb, length, get_or, drop}
use Rattle.scenario.specs.Words.{Word}

abbrev pub between : ℕ → ℕ → ℕ → Bool
between low b high = leb low b && leb b high

-- what a digit counts: `0` to `9`, `A` to `F`, `a` to `f`; 16 is no digit
unfoldable pub digit_value : ℕ → ℕ
digit_value b = cond (between 48 b 57) (b - 48) (cond (between 65 b 70) (b - 55) (cond (between 97 b 102) (b - 87) 16))

-- a digit, as it is handed on: what it counts, or none
unfoldable pub digit_found : ℕ → Option ℕ
digit_found b = cond (ltb (digit_value b) 16) (Some (digit_value b)) None

-- digits only, of a base
unfoldable pub all_digits : ℕ → Word → Bool
all_digits base [] = true
all_digits base (b ∷ w) = ltb (digit_value b) base && all_digits base w

-- what digits count behind a number, the highest first
unfoldable pub digits_value : ℕ → ℕ → Word → ℕ
digits_value base n [] = n
digits_value base n (b ∷ w) = digits_value base (n * base + digit_value b) w

-- a number as it was read; one that is no number counts 0
pub record Number : Type 0 where
  pub good : Bool
  pub value : ℕ

abbrev pub no_number : Number
no_number = record { good = false; value = 0 }

-- as a number is handed on: there, or not
abbrev pub numbered : Option ℕ → Number
numbered None = no_number
numbered (Some n) = record { good = true; value = n }

-- 1 to 20 digits, and what they count is at most 18446744073709551615
unfoldable pub is_numeral : ℕ → Word → Bool
is_numeral base w = between 1 (length w) 20 && all_digits base w && ltb (digits_value base 0 w) (2 ^ 64)

unfoldable pub numeral_of : ℕ → Word → Number
numeral_of base w = cond (is_numeral base w) (record { good = true; value = digits_value base 0 w }) no_number

-- `0x`
unfoldable pub is_hex : Word → Bool
is_hex w = eqb (get_or w 0 0) 48 && eqb (get_or w 1 0) 120

-- "A number is decimal .., or `0x` and hexadecimal digits of either case"
unfoldable pub word_number : Word → Number
word_number w = cond (is_hex w) (numeral_of 16 (drop 2 w)) (numeral_of 10 w)

-- a number that is at most a limit
unfoldable pub within : ℕ → Word → Bool
within limit w = (word_number w).good && leb (word_number w).value limit

-- the number that a word says, if it is within a limit; else 0
unfoldable pub value_of : ℕ → Word → ℕ
value_of limit w = cond (within limit w) (word_number w).value 0

-- two hexadecimal digits of either case with no `0x`, as `bytes` takes them: `7F`, `0a`
unfoldable pub pair_of : Word → Number
pair_of w = cond (eqb (length w) 2) (numeral_of 16 w) no_number

-- no words
abbrev pub none : List Word → Bool
none [] = true
none (w ∷ ws) = false
