-- A CELL READS AS BEFORE, by good sheets: in bank 254 only offset 1 is readable, and it is 11.
use Prim.Native.Nat.{ℕ, ◌+◌, ◌*◌}
use mathlib.Core.List.{List}
use mathlib.Core.Bool.{true, false, ◌&&◌, not}
use mathlib.Core.Path.{◌≡◌, refl, ap, ◌∙◌}
use native.Mathlib.Omega.{arith}
use lib.Dec.{ltb, eqb}
use lib.Seq.{take-take}
use lib.ListN.{get_or, drop}
use borrow.Author.Tests.{eqb-true, eqb-false, not-true}
use Rattle.std.proofs.Common.{Some}
use Rattle.bits.proofs.Tests.{by, and_right}
use Rattle.store.specs.Sheet.{sheets_of, sizes_long, sheets_hold, size_of, readable, leading_of}
use Rattle.store.specs.Store.{cell_place, held_at, cell_of, used_cells, bank_cells}
use Rattle.store.proofs.Sizes.{version_byte}
use Rattle.store.proofs.Reading.{readable_used, used_fixed, used_held, fixed_size}
use Rattle.flash.specs.OldBank.{cell_was, bank_was}

-- a readable cell of bank 254 is its second
not_first : (sizes : List ℕ) (bank offset : ℕ) → readable sizes bank offset ≡ true → eqb bank 254 ≡ true → offset ≡ 0 → ⊥
unfolding readable
not_first sizes bank offset r e z =
    let n : (eqb bank 254 && eqb offset 0) ≡ false = not-true _ (and_right (ltb offset (size_of sizes bank)) (not (eqb bank 254 && eqb offset 0)) r) in
    let m : eqb offset 0 ≡ false = rw e at n in
    eqb-false _ _ m z

second : (sizes fixed : List ℕ) (offset : ℕ) → sizes_long sizes ≡ true → sheets_hold (sheets_of sizes fixed) ≡ true → readable sizes 254 offset ≡ true → offset ≡ 1
second sizes fixed offset l h r =
    let n : offset ≡ 0 → ⊥ = not_first sizes 254 offset r refl in
    omega (arith, readable_used sizes 254 offset r, fixed_size (sheets_of sizes fixed) l h)

module _ (sizes fixed : List ℕ) (l : sizes_long sizes ≡ true) (h : sheets_hold (sheets_of sizes fixed) ≡ true) where
  fixed_byte : (store : List ℕ) (bank offset : ℕ) → readable sizes bank offset ≡ true → eqb bank 254 ≡ true
      → get_or (used_cells store (sheets_of sizes fixed) bank) offset 0 ≡ 11
  fixed_byte store bank offset r e =
      let b : bank ≡ 254 = eqb-true _ _ e in
      let o : offset ≡ 1 = second sizes fixed offset l h (rw b at r) in
      rw (b, o) (used_fixed store (sheets_of sizes fixed) 1 (omega (arith, fixed_size (sheets_of sizes fixed) l h)) ∙ version_byte (sheets_of sizes fixed) h)

  store_byte : (store : List ℕ) (bank offset : ℕ) → readable sizes bank offset ≡ true → eqb bank 254 ≡ false
      → get_or (used_cells store (sheets_of sizes fixed) bank) offset 0 ≡ get_or store (bank * 40 + offset) 0
  unfolding held_at cell_place
  store_byte store bank offset r e = used_held store (sheets_of sizes fixed) bank offset e (readable_used sizes bank offset r)

  pub cell_as_was : (store : List ℕ) (bank offset : ℕ) → cell_of store (sheets_of sizes fixed) bank offset ≡ cell_was store sizes bank offset
  unfolding cell_of cell_was
  cell_as_was store bank offset =
      by (readable sizes bank offset)
      (λ r. by (eqb bank 254) (λ e. simp (r, e) (ap Some (fixed_byte store bank offset r e))) (λ e. simp (r, e) (ap Some (store_byte store bank offset r e))))
      (λ r. simp r)

-- and the leading cells of a bank are as before, by any sheets
pub bank_as_was : (store sizes fixed : List ℕ) (bank : ℕ) → bank_cells store (sheets_of sizes fixed) bank ≡ bank_was store sizes bank
unfolding bank_cells used_cells bank_was leading_of cell_place
bank_as_was store sizes fixed bank =
    let start : bank * 40 + 0 ≡ bank * 40 = omega arith in
    by (eqb bank 254) (λ e. simp e) (λ e. simp (e, start) (take-take (size_of sizes bank) (size_of sizes bank) (drop (bank * 40) store) (omega arith)))
