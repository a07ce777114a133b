-- What a passed check of record and buffers says.
use Prim.Native.Nat.{ℕ, suc, ◌≤◌}
use mathlib.Core.List.{List, ◌∷◌}
use mathlib.Core.Bool.{Bool, true, false, ◌&&◌}
use mathlib.Core.Path.{◌≡◌, refl}
use native.Mathlib.Omega.{arith}
use lib.Dec.{leb}
use lib.ListN.{length}
use borrow.Author.Tests.{eqb-true, leb-true}
use Rattle.bits.proofs.Tests.{and_left, and_right}
use Rattle.states.specs.States as S
use Rattle.store.specs.Sheet.{Sheets, lengths_hold, sheets_hold}
use Rattle.board.specs.Board.{Board, module_possible, buffers_hold, RefusalRow, refusal_row, first_broken, board_refusal}

-- the lengths that row 4 asks for
module _ (states store : List ℕ) (sheets : Sheets) (room : List ℕ) (h : buffers_hold states store sheets room ≡ true) where
  lists_right : (S.length_holds states && lengths_hold store sheets) ≡ true
  unfolding buffers_hold
  lists_right = and_left (S.length_holds states && lengths_hold store sheets) (leb 84 (length room)) h

  pub room_long : 84 ≤ length room
  unfolding buffers_hold
  room_long = leb-true _ _ (and_right (S.length_holds states && lengths_hold store sheets) (leb 84 (length room)) h)

  pub states_long : length states ≡ 4096
  states_long = eqb-true _ _ (and_left (S.length_holds states) (lengths_hold store sheets) lists_right)

  pub lengths_right : lengths_hold store sheets ≡ true
  lengths_right = and_right (S.length_holds states) (lengths_hold store sheets) lists_right

-- what the rows ask for
pub record Right (b : Board) (sheets : Sheets) (room : List ℕ) : Type 0 where
  pub possible : module_possible b.kept ≡ true
  pub buffers : buffers_hold b.states b.store sheets room ≡ true
  pub sheeted : sheets_hold sheets ≡ true

-- a row that holds leaves it to those behind it
pub row_holds : (number : ℕ) (holds : Bool) (rows : List RefusalRow) → first_broken (refusal_row (suc number) holds ∷ rows) ≡ 0 → (holds ≡ true) × (first_broken rows ≡ 0)
unfolding first_broken
row_holds number true rows h = (refl, h)
row_holds number false rows h = let z : ⊥ = omega arith in absurd z

module _ (b : Board) (sheets : Sheets) (room : List ℕ) where
  pub right : board_refusal b sheets room ≡ 0 → Right b sheets room
  unfolding board_refusal
  right h =
      let r12 = row_holds 11 _ _ h in
      let r4 = row_holds 3 _ _ r12.1 in
      let r5 = row_holds 4 _ _ r4.1 in
      record { possible = r12.0; buffers = r4.0; sheeted = r5.0 }

  pub passed : Right b sheets room → board_refusal b sheets room ≡ 0
  unfolding board_refusal first_broken
  passed r = simp (r.possible, r.buffers, r.sheeted)
