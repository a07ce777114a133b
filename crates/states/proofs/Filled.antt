-- A range of bytes that is filled with one byte, and the value of a state's bit.
use Prim.Native.Nat.{ℕ, zero, suc, ◌+◌, ◌-◌, ◌<◌}
use mathlib.Core.Bool.{Bool, true, false}
use mathlib.Core.List.{List, ◌∷◌, ◌++◌, append-nil}
use mathlib.Core.Path.{◌≡◌, refl, ap, ◌∙◌}
use native.Mathlib.Nat.{le_of_eq}
use native.Mathlib.Numerals.{add-one}
use native.Mathlib.Omega.{arith}
use lib.Dec.{lit<}
use mir.Val.{bool_byte}
use lib.ListN.{length, drop, get_or, set, replicate, length-replicate, drop_of_length-le}
use lib.Seq.{drop-cons, set_at}
use Rattle.states.specs.States.{on_bit}

-- what the language makes of a flag is the state's bit
pub flag_bit : (on : Bool) → bool_byte on ≡ on_bit on
flag_bit true = refl
flag_bit false = refl

-- a bit is below 2
pub bit_lt : (on : Bool) → on_bit on < 2
bit_lt true = lit< tt
bit_lt false = lit< tt

-- the same element before and after a row of itself
replicate_next : (n b : ℕ) (rest : List ℕ) → replicate n b ++ b ∷ rest ≡ replicate (suc n) b ++ rest
replicate_next zero b rest = refl
replicate_next (suc n) b rest = ap (λ (l : List ℕ). b ∷ l) (replicate_next n b rest)

-- a turn of the loop that fills: one place more
pub fill_turn : (l : List ℕ) (i b : ℕ) → i < length l → set (replicate i b ++ drop i l) i b ≡ replicate (i + 1) b ++ drop (i + 1) l
fill_turn l i b h =
    rw (add-one i, drop-cons l i 0)
    (set_at (replicate i b) (get_or l i 0) (drop (suc i) l) b i (length-replicate i b) ∙ replicate_next i b (drop (suc i) l))

-- a range that is the whole list
pub filled_whole : (l : List ℕ) (n b : ℕ) → length l ≡ n → replicate n b ++ drop n l ≡ replicate n b
filled_whole l n b e = rw (drop_of_length-le l (le_of_eq e)) (append-nil (replicate n b))

-- another first byte in a filled range
pub first_other : (n b f : ℕ) (rest : List ℕ) → 0 < n → set (replicate n b ++ rest) 0 f ≡ (f ∷ replicate (n - 1) b) ++ rest
first_other zero b f rest h = let z : ⊥ = omega arith in absurd z
first_other (suc n) b f rest h = let e : suc n - 1 ≡ n = omega arith in rw e
