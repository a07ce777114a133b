-- What a cell reads as, the used cells of a bank, and the leading ones.
use Prim.Native.Nat.{ℕ, ◌+◌, ◌≤◌, ◌<◌}
use mathlib.Core.List.{List}
use mathlib.Core.Bool.{true, false, ◌&&◌, not}
use mathlib.Core.Path.{◌≡◌, sym, ap, ◌∙◌}
use native.Mathlib.Omega.{arith}
use lib.Dec.{ltb, eqb}
use lib.ListN.{length, get_or}
use lib.Seq.{get_or-take, length-take-le}
use borrow.Author.Tests.{ltb-true, ltb-false, lt-ltb, le-ltb, eqb-true, not-true}
use Rattle.bits.proofs.Tests.{by, and_left, and_right}
use Rattle.std.proofs.Common.{Some, None}
use Rattle.store.specs.Sheet.{Sheets, sizes_long, lengths_hold, sheets_hold, size_holds, size_of, readable, writable, leading_of}
use Rattle.store.specs.Store.{cell_place, held_at, cell_of, used_cells, bank_cells}
use Rattle.store.proofs.Sizes.{store_length, fixed_bytes, fixed_long_lem, sizes_long_lem, sizes_right, version_byte, no_size, size_count, size_holds_lem, size_at_most, leading_used}
use Rattle.store.proofs.Places.{held_part, part_length}

-- a readable cell is a used one
pub readable_used : (sizes : List ℕ) (bank offset : ℕ) → readable sizes bank offset ≡ true → offset < size_of sizes bank
unfolding readable
readable_used sizes bank offset h = ltb-true _ _ (and_left (ltb offset (size_of sizes bank)) (not (eqb bank 254 && eqb offset 0)) h)

-- a writable cell is readable, and not of bank 254
pub writable_readable : (sizes : List ℕ) (bank offset : ℕ) → writable sizes bank offset ≡ true → readable sizes bank offset ≡ true
unfolding writable
writable_readable sizes bank offset h = and_left (readable sizes bank offset) (not (eqb bank 254)) (and_left (readable sizes bank offset && not (eqb bank 254)) (not (ltb bank 2 && ltb offset 2)) h)

pub writable_not_fixed : (sizes : List ℕ) (bank offset : ℕ) → writable sizes bank offset ≡ true → eqb bank 254 ≡ false
unfolding writable
writable_not_fixed sizes bank offset h = not-true _ (and_right (readable sizes bank offset) (not (eqb bank 254)) (and_left (readable sizes bank offset && not (eqb bank 254)) (not (ltb bank 2 && ltb offset 2)) h))

-- the byte of a used cell: of bank 254 that of the fixed sheet at its offset, of any other bank that which the store holds
pub used_fixed : (store : List ℕ) (sheets : Sheets) (offset : ℕ) → offset < size_of sheets.sizes 254 → get_or (used_cells store sheets 254) offset 0 ≡ get_or sheets.fixed offset 0
unfolding used_cells
used_fixed store sheets offset h = get_or-take (size_of sheets.sizes 254) sheets.fixed offset 0 h

pub used_held : (store : List ℕ) (sheets : Sheets) (bank offset : ℕ) → eqb bank 254 ≡ false → offset < size_of sheets.sizes bank
    → get_or (used_cells store sheets bank) offset 0 ≡ held_at store bank offset
unfolding used_cells
used_held store sheets bank offset e h = simp e (held_part store bank (size_of sheets.sizes bank) offset h)

-- so it reads as what the store holds
pub writable_reads : (store : List ℕ) (sheets : Sheets) (bank offset : ℕ) → writable sheets.sizes bank offset ≡ true → cell_of store sheets bank offset ≡ Some (held_at store bank offset)
unfolding cell_of
writable_reads store sheets bank offset h =
    let r = writable_readable sheets.sizes bank offset h in
    simp (r, used_held store sheets bank offset (writable_not_fixed sheets.sizes bank offset h) (readable_used sheets.sizes bank offset r))

-- In bank 254 the store has no say, offset 0 isn't readable and offset 1 is 11.
pub fixed_size : (sheets : Sheets) → sizes_long sheets.sizes ≡ true → sheets_hold sheets ≡ true → size_of sheets.sizes 254 ≡ 2
unfolding size_holds
fixed_size sheets l h = eqb-true _ _ (size_holds_lem sheets.sizes (sizes_right sheets h) 254 (omega (arith, size_count sheets.sizes l)))

pub fixed_first : (store : List ℕ) (sheets : Sheets) → cell_of store sheets 254 0 ≡ None
unfolding cell_of readable
fixed_first store sheets = by (ltb 0 (size_of sheets.sizes 254)) (λ e. rw e) (λ e. rw e)

pub fixed_second : (store : List ℕ) (sheets : Sheets) → sizes_long sheets.sizes ≡ true → sheets_hold sheets ≡ true → cell_of store sheets 254 1 ≡ Some 11
unfolding cell_of readable
fixed_second store sheets l h =
    let two = fixed_size sheets l h in
    rw two (ap Some (used_fixed store sheets 1 (omega (arith, two)) ∙ version_byte sheets h))

module _ (store : List ℕ) (sheets : Sheets) (bank : ℕ) (l : lengths_hold store sheets ≡ true) (h : sheets_hold sheets ≡ true) where
  -- a bank's cells end within the sheet that they are a part of
  pub used_in_store : bank < 256 → cell_place bank 0 + size_of sheets.sizes bank ≤ length store
  unfolding cell_place
  used_in_store b = omega (arith, store_length store sheets l, size_at_most sheets h bank)

  pub used_in_fixed : size_of sheets.sizes bank ≤ length sheets.fixed
  used_in_fixed = omega (arith, fixed_bytes sheets.fixed (fixed_long_lem store sheets l), size_at_most sheets h bank)

  -- there are as many as the size says,
  pub used_length : length (used_cells store sheets bank) ≡ size_of sheets.sizes bank
  unfolding used_cells
  used_length =
      by (eqb bank 254) (λ e. simp e (length-take-le _ sheets.fixed used_in_fixed))
      (λ e. simp e (by (ltb bank 256)
      (λ b. part_length store bank (size_of sheets.sizes bank) (store_length store sheets l) (ltb-true bank 256 b) (size_at_most sheets h bank))
      (λ b. rw (no_size sheets.sizes bank (omega (arith, size_count sheets.sizes (sizes_long_lem store sheets l), ltb-false bank 256 b))))))

  -- and as many leading ones as they are counted to be
  pub bank_length : length (bank_cells store sheets bank) ≡ leading_of sheets.sizes bank
  unfolding bank_cells
  bank_length = length-take-le _ (used_cells store sheets bank) (omega (arith, used_length, leading_used sheets.sizes bank))

-- bank 254 has no leading cell
leading_not_fixed : (sizes : List ℕ) (bank i : ℕ) → i < leading_of sizes bank → eqb bank 254 ≡ false
unfolding leading_of
leading_not_fixed sizes bank i h = by (eqb bank 254) (λ e. let z : i < 0 = rw e at h in absurd (omega arith)) (λ e. e)

module _ (store : List ℕ) (sheets : Sheets) (bank : ℕ) where
  -- each leading cell is readable, and reads as it stands there,
  pub leading_reads : (i : ℕ) → i < leading_of sheets.sizes bank → cell_of store sheets bank i ≡ Some (get_or (bank_cells store sheets bank) i 0)
  unfolding bank_cells cell_of readable
  leading_reads i h =
      let u : i < size_of sheets.sizes bank = omega (arith, leading_used sheets.sizes bank) in
      let n : eqb bank 254 ≡ false = leading_not_fixed sheets.sizes bank i h in
      simp (lt-ltb i (size_of sheets.sizes bank) u, n) (ap Some (sym (get_or-take (leading_of sheets.sizes bank) (used_cells store sheets bank) i 0 h)))

  -- and the next isn't readable
  pub leading_ends : cell_of store sheets bank (leading_of sheets.sizes bank) ≡ None
  unfolding cell_of readable leading_of
  leading_ends =
      by (eqb bank 254) (λ e. by (ltb 0 (size_of sheets.sizes bank)) (λ l. simp (e, l)) (λ l. simp (e, l)))
      (λ e. simp (e, le-ltb (size_of sheets.sizes bank) (size_of sheets.sizes bank) (omega arith)))
