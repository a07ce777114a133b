-- The checksum's loop over pairs of header and data: a turn, and the end.
use Prim.Native.Nat.{ℕ, ◌<◌}
use mathlib.Core.List.{List, [], ◌∷◌, ◌++◌}
use mathlib.Core.Path.{◌≡◌, refl, sym, ◌∙◌}
use native.Mathlib.Omega.{arith}
use lib.ListN.{length, get_or}
use Rattle.crc.specs.Crc.{crc_byte, crc_from}
use Rattle.bank.specs.Reply.{data_of}

-- a header alone has no data byte
pub no_data : (s : List ℕ) → length s < 2 → data_of s ≡ []
unfolding data_of
no_data [] h = refl
no_data (x ∷ []) h = refl
no_data (x ∷ y ∷ s) h = let z : ⊥ = omega arith in absurd z

-- a pair is summed by its data byte
pub turn : (whole c : ℕ) (pair rest left : List ℕ) → whole ≡ crc_from c (data_of rest) → rest ≡ pair ++ left → length pair ≡ 2
    → whole ≡ crc_from (crc_byte c (get_or pair 1 0)) (data_of left)
unfolding crc_from data_of
turn whole c (h ∷ x ∷ []) rest left going parts two = going ∙ rw parts
turn whole c [] rest left going parts two = let z : ⊥ = omega arith in absurd z
turn whole c (h ∷ []) rest left going parts two = let z : ⊥ = omega arith in absurd z
turn whole c (h ∷ x ∷ y ∷ pair) rest left going parts two = let z : ⊥ = omega arith in absurd z

pub ended : (whole c : ℕ) (rest : List ℕ) → whole ≡ crc_from c (data_of rest) → length rest < 2 → c ≡ whole
unfolding crc_from
ended whole c rest going few = sym (going ∙ rw (no_data rest few))
