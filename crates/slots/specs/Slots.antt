-- ENTRIES OF ONE WIDTH in one flat list, the oldest first. What is not in use is 0.
use Rattle.std.specs.Prelude.{ℕ, ◌+◌, ◌*◌, Bool, true, ◌&&◌, List, [], ◌∷◌, ◌++◌, eqb, take, drop, replicate}

unfoldable pub all_zero : List ℕ → Bool
all_zero [] = true
all_zero (b ∷ bs) = eqb b 0 && all_zero bs

-- what stands behind so many entries is 0
unfoldable pub unused_zero : ℕ → ℕ → List ℕ → Bool
unused_zero width used slots = all_zero (drop (width * used) slots)

-- an entry at the place behind so many
unfoldable pub joined_by : ℕ → List ℕ → ℕ → List ℕ → List ℕ
joined_by width slots used entry = take (width * used) slots ++ entry ++ drop (width * used + width) slots

-- the oldest entry; what is left without it, each of the others a place nearer, the freed bytes 0
unfoldable pub oldest : ℕ → List ℕ → List ℕ
oldest width slots = take width slots

unfoldable pub after_oldest : ℕ → List ℕ → List ℕ
after_oldest width slots = drop width slots ++ replicate width 0
