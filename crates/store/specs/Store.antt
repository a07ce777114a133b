-- The cells, by bank and offset: document 01, "Cells"; C-13. `used_cells` is the one way to read a bank's bytes, `with_cell` the one way to
-- write one.
use Rattle.std.specs.Prelude.{ℕ, ◌+◌, ◌*◌, List, cond, eqb, get_or, set, take, drop, Option, Some, None}
use Rattle.store.specs.Sheet.{Sheets, size_of, readable, leading_of}

-- "The store has 10,240 bytes: bank·40 + offset."
unfoldable pub cell_place : ℕ → ℕ → ℕ
cell_place bank offset = bank * 40 + offset

-- the byte that the store holds for a cell
unfoldable pub held_at : List ℕ → ℕ → ℕ → ℕ
held_at store bank offset = get_or store (cell_place bank offset) 0

-- the store with another byte for a cell
unfoldable pub with_cell : List ℕ → ℕ → ℕ → ℕ → List ℕ
with_cell store bank offset value = set store (cell_place bank offset) value

-- C-13: "the used cells of a bank as a part of the caller's own sheet for 254, and of the store for any other", where they stand side by side
unfoldable pub used_cells : List ℕ → Sheets → ℕ → List ℕ
used_cells store sheets bank =
    take (size_of sheets.sizes bank) (cond (eqb bank 254) sheets.fixed (drop (cell_place bank 0) store))

-- a readable cell reads as its byte there; in bank 254 that is 11 at offset 1 (row 5), and no other offset is readable
unfoldable pub cell_of : List ℕ → Sheets → ℕ → ℕ → Option ℕ
cell_of store sheets bank offset =
    cond (readable sheets.sizes bank offset) (Some (get_or (used_cells store sheets bank) offset 0)) None

-- the leading readable ones of a bank
unfoldable pub bank_cells : List ℕ → Sheets → ℕ → List ℕ
bank_cells store sheets bank = take (leading_of sheets.sizes bank) (used_cells store sheets bank)
