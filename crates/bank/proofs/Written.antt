-- The pairs' loop: a turn, and the end.
use Prim.Native.Nat.{ℕ, ◌+◌, ◌*◌, ◌≤◌, ◌<◌}
use mathlib.Core.List.{List, [], ◌∷◌, ◌++◌, append_assoc, append-nil}
use mathlib.Core.Path.{◌≡◌, refl, sym, ◌∙◌, ap}
use native.Mathlib.Omega.{arith}
use lib.ListN.{length, take, drop, get_or, length-append}
use Rattle.bank.specs.Reply.{pairs_of, at_front}
use Rattle.bank.proofs.Lists.{has_both, front_length}

-- fewer than two cells make no pair
no_pairs : (cells : List ℕ) → length cells < 2 → pairs_of cells ≡ []
unfolding pairs_of
no_pairs [] h = refl
no_pairs (v ∷ []) h = refl
no_pairs (v ∷ w ∷ cells) h = let z : ⊥ = omega arith in absurd z

-- bytes are done: they stand in the room, and with the pairs of the cells that are left they are all
pub record Going (cells before room : List ℕ) (at : ℕ) (rest : List ℕ) : Type 0 where
  pub done : List ℕ
  pub long : length done ≡ at
  pub within : at + length rest * 2 ≤ length cells * 2
  pub stand : room ≡ at_front done before
  pub whole : pairs_of cells ≡ done ++ pairs_of rest

pub begun : (cells before rest : List ℕ) → rest ≡ cells → Going cells before before 0 rest
begun cells before rest all =
    record { done = []; long = refl; within = omega (arith, ap length all); stand = refl; whole = ap pairs_of (sym all) }

module _ {cells before room rest : List ℕ} {at : ℕ} (few : length cells ≤ 40) (much : 84 ≤ length before) (g : Going cells before room at rest) where
  pub same_room : length room ≡ length before
  same_room = ap length g.stand ∙ front_length g.done before (omega (arith, g.long, g.within))

  turned_pair : (v w : ℕ) (left : List ℕ) → rest ≡ v ∷ w ∷ left
      → Going cells before (take at room ++ (0x8F ∷ v ∷ 0x8F ∷ w ∷ []) ++ drop (at + 4) room) (at + 4) left
  unfolding pairs_of
  turned_pair v w left parts = record {
    done = g.done ++ pair;
    long = length-append g.done pair ∙ omega (arith, g.long);
    within = omega (arith, g.within, ap length parts);
    stand = has_both g.done pair before room at (sym g.long) g.stand;
    whole = g.whole ∙ rw (parts, append_assoc);
  }
    where
      pair : List ℕ
      pair = 0x8F ∷ v ∷ 0x8F ∷ w ∷ []

  pub turned : (pair left : List ℕ) → rest ≡ pair ++ left → length pair ≡ 2
      → Going cells before (take at room ++ (0x8F ∷ get_or pair 0 0 ∷ 0x8F ∷ get_or pair 1 0 ∷ []) ++ drop (at + 4) room) (at + 4) left
  turned (v ∷ w ∷ []) left parts two = turned_pair v w left parts
  turned [] left parts two = let z : ⊥ = omega arith in absurd z
  turned (v ∷ []) left parts two = let z : ⊥ = omega arith in absurd z
  turned (v ∷ w ∷ x ∷ pair) left parts two = let z : ⊥ = omega arith in absurd z

  pub all : length rest < 2 → g.done ≡ pairs_of cells
  all h = sym (g.whole ∙ rw (no_pairs rest h) (append-nil g.done))

  pub wrote : length rest < 2 → at ≡ length (pairs_of cells)
  wrote h = sym g.long ∙ ap length (all h)

  pub stands : length rest < 2 → room ≡ at_front (pairs_of cells) before
  stands h = g.stand ∙ ap (λ (xs : List ℕ). at_front xs before) (all h)
