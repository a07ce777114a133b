-- The shape of a reply, by the number of its cells: which end it has, and how long it is.
use Prim.Native.Nat.{ℕ, suc, ◌+◌, ◌-◌, ◌*◌, ◌/◌, ◌%◌, ◌≤◌, ◌<◌}
use mathlib.Core.List.{List, [], ◌∷◌, ◌++◌, append-nil}
use mathlib.Core.Path.{◌≡◌, refl}
use native.Mathlib.Omega.{arith}
use borrow.Author.Tests.{lt-ltb, le-ltb, ltb-true, ltb-false}
use lib.Dec.{ltb}
use lib.ListN.{length, get_or, length-append}
use Rattle.bits.proofs.Tests.{by}
use Rattle.bank.specs.Reply.{pairs_of, end_of, body_of, closed_by}

-- the end group by whether a cell is left over
pub end_odd : (cells : List ℕ) → length cells % 2 ≡ 1 → end_of cells ≡ 0x8F ∷ get_or cells (length cells - 1) 0 ∷ 0x8E ∷ 0x01 ∷ []
unfolding end_of
end_odd [] odd = let z : ⊥ = omega arith in absurd z
end_odd (v ∷ []) odd = refl
end_odd (v ∷ w ∷ []) odd = let z : ⊥ = omega arith in absurd z
end_odd (v ∷ w ∷ x ∷ cells) odd =
    let e : suc (suc (suc (length cells))) - 1 ≡ suc (suc (suc (length cells) - 1)) = omega arith in
    rw e (end_odd (x ∷ cells) (omega arith))

pub end_even : (cells : List ℕ) → length cells % 2 ≡ 0 → end_of cells ≡ 0x8E ∷ 0x01 ∷ 0x8E ∷ 0x01 ∷ []
unfolding end_of
end_even [] even = refl
end_even (v ∷ []) even = let z : ⊥ = omega arith in absurd z
end_even (v ∷ w ∷ cells) even = end_even cells (omega arith)

-- "below 40 cells an end group"
pub body_ended : (cells : List ℕ) → length cells < 40 → body_of cells ≡ pairs_of cells ++ end_of cells
unfolding body_of
body_ended cells h = simp (lt-ltb (length cells) 40 h)

pub body_full : (cells : List ℕ) → 40 ≤ length cells → body_of cells ≡ pairs_of cells
unfolding body_of
body_full cells h = simp (le-ltb (length cells) 40 h) (append-nil (pairs_of cells))

-- lengths
pub pairs_length : (cells : List ℕ) → length (pairs_of cells) ≡ length cells / 2 * 4
unfolding pairs_of
pairs_length [] = refl
pairs_length (v ∷ []) = refl
pairs_length (v ∷ w ∷ cells) = omega (arith, pairs_length cells)

end_length : (cells : List ℕ) → length (end_of cells) ≡ 4
unfolding end_of
end_length [] = refl
end_length (v ∷ []) = refl
end_length (v ∷ w ∷ cells) = end_length cells

pub ended_length : (cells : List ℕ) → length cells < 40 → length (body_of cells) ≡ length cells / 2 * 4 + 4
ended_length cells h =
    rw (body_ended cells h, length-append (pairs_of cells) (end_of cells)) (omega (arith, pairs_length cells, end_length cells))

pub full_length : (cells : List ℕ) → length cells ≡ 40 → length (body_of cells) ≡ 80
full_length cells h = rw (body_full cells (omega arith)) (omega (arith, pairs_length cells))

-- by whether the bank is full
pub below_or_full : {P : Type 0} (n : ℕ) → n ≤ 40 → (n < 40 → P) → (n ≡ 40 → P) → P
below_or_full n h below full = by (ltb n 40) (λ e. below (ltb-true n 40 e)) (λ e. full (omega (arith, ltb-false n 40 e)))

-- the body leaves room for the last group, has whole pairs of header and data, and a pair for each cell
module _ (cells : List ℕ) (few : length cells ≤ 40) where
  pub body_fits : length (body_of cells) ≤ 80
  body_fits =
      below_or_full (length cells) few (λ h. omega (arith, ended_length cells h)) (λ h. omega (arith, full_length cells h))

  pub body_even : length (body_of cells) % 2 ≡ 0
  body_even =
      below_or_full (length cells) few (λ h. omega (arith, ended_length cells h)) (λ h. omega (arith, full_length cells h))

  pub headed : length cells + length cells ≤ length (body_of cells)
  headed =
      below_or_full (length cells) few (λ h. omega (arith, ended_length cells h)) (λ h. omega (arith, full_length cells h))

pub closed_length : (c : ℕ) (cells : List ℕ) → length (closed_by c cells) ≡ length (body_of cells) + 4
unfolding closed_by
closed_length c cells = length-append (body_of cells) (0x8F ∷ c ∷ 0x8F ∷ 0x00 ∷ [])
