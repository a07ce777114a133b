-- The data bytes of a reply: the cells come first, and the checksum's group adds its own two.
use Prim.Native.Nat.{ℕ, zero, suc, ◌+◌, ◌/◌, ◌%◌, ◌≤◌, ◌<◌}
use mathlib.Core.List.{List, [], ◌∷◌, ◌++◌}
use mathlib.Core.Path.{◌≡◌, refl, ap}
use native.Mathlib.Numerals.{add-one}
use native.Mathlib.Omega.{arith}
use lib.ListN.{length, take, drop, get_or, set}
use Rattle.bank.specs.Reply.{pairs_of, end_of, body_of, data_of, closed_by}
use Rattle.bank.proofs.Shape.{below_or_full, body_ended, body_full, body_even}
use Rattle.bank.proofs.Lists.{copied}

-- two parts, of which the first is headers with their data
pub data_append : (xs ys : List ℕ) → length xs % 2 ≡ 0 → data_of (xs ++ ys) ≡ data_of xs ++ data_of ys
unfolding data_of
data_append [] ys even = refl
data_append (h ∷ []) ys even = let z : ⊥ = omega arith in absurd z
data_append (h ∷ x ∷ xs) ys even = ap (λ (l : List ℕ). x ∷ l) (data_append xs ys (omega arith))

pub data_closed : (c : ℕ) (cells : List ℕ) → length cells ≤ 40 → data_of (closed_by c cells) ≡ data_of (body_of cells) ++ (c ∷ 0 ∷ [])
unfolding closed_by data_of
data_closed c cells few = data_append (body_of cells) (0x8F ∷ c ∷ 0x8F ∷ 0x00 ∷ []) (body_even cells few)

-- the cells come first
first_ended : (cells ys : List ℕ) → take (length cells) (data_of (pairs_of cells ++ end_of cells) ++ ys) ≡ cells
unfolding data_of pairs_of end_of
first_ended [] ys = refl
first_ended (v ∷ []) ys = refl
first_ended (v ∷ w ∷ cells) ys = ap (λ (l : List ℕ). v ∷ w ∷ l) (first_ended cells ys)

first_full : (cells ys : List ℕ) → length cells % 2 ≡ 0 → take (length cells) (data_of (pairs_of cells) ++ ys) ≡ cells
unfolding data_of pairs_of
first_full [] ys even = refl
first_full (v ∷ []) ys even = let z : ⊥ = omega arith in absurd z
first_full (v ∷ w ∷ cells) ys even = ap (λ (l : List ℕ). v ∷ w ∷ l) (first_full cells ys (omega arith))

pub cells_first : (c : ℕ) (cells : List ℕ) → length cells ≤ 40 → take (length cells) (data_of (closed_by c cells)) ≡ cells
cells_first c cells few =
    rw (data_closed c cells few)
    (below_or_full (length cells) few (λ h. rw (body_ended cells h) (first_ended cells (c ∷ 0 ∷ [])))
    (λ h. rw (body_full cells (omega arith)) (first_full cells (c ∷ 0 ∷ []) (omega arith))))

-- one for each two bytes
pub data_length : (s : List ℕ) → length (data_of s) ≡ length s / 2
unfolding data_of
data_length [] = refl
data_length (h ∷ []) = refl
data_length (h ∷ x ∷ s) = omega (arith, data_length s)

-- each second byte, by its place
pub data_at : (s : List ℕ) (k : ℕ) → get_or (data_of s) k 0 ≡ get_or s (k + k + 1) 0
unfolding data_of
data_at [] k = refl
data_at (h ∷ []) k = rw (add-one (k + k))
data_at (h ∷ x ∷ s) zero = refl
data_at (h ∷ x ∷ s) (suc k) = let e : suc k + suc k + 1 ≡ suc (suc (k + k + 1)) = omega arith in rw e (data_at s k)

-- a loop that copies them to a room's front: one more
pub data_copied : (s room : List ℕ) (k : ℕ) → k + k + 1 < length s → k < length room
    → set (take k (data_of s) ++ drop k room) k (get_or s (k + k + 1) 0) ≡ take (k + 1) (data_of s) ++ drop (k + 1) room
data_copied s room k hs hr = rw (← data_at s k) (copied (data_of s) room k (omega (arith, data_length s)) hr)
