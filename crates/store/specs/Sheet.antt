-- The lent sheets that are only read, and their rules: document 01, "Cells"; C-13. "A size sheet of 256 bytes gives the cells used in
-- each bank." C-13: "Bank 254 moves to a 40-byte sheet that the caller lends beside the store".
use Rattle.std.specs.Prelude.{ℕ, suc, List, [], ◌∷◌, Bool, true, cond, ◌&&◌, not, ltb, leb, eqb, length, get_or, replicate}

-- the lent sheets: the sizes, bank by bank, and the fixed sheet, which is bank 254
pub record Sheets : Type 0 where
  pub sizes : List ℕ
  pub fixed : List ℕ

abbrev pub sheets_of : List ℕ → List ℕ → Sheets
sheets_of sizes fixed = record { sizes = sizes; fixed = fixed }

-- "The store has 10,240 bytes", the size sheet 256; C-13: the fixed sheet 40
unfoldable pub store_long : List ℕ → Bool
store_long store = eqb (length store) 10240

unfoldable pub sizes_long : List ℕ → Bool
sizes_long sizes = eqb (length sizes) 256

unfoldable pub fixed_long : List ℕ → Bool
fixed_long fixed = eqb (length fixed) 40

-- refusal 4, "store, size sheet .. not 10,240, 256 .. bytes"; C-13: "a sheet of another length is refused with 4": given where this is false
unfoldable pub lengths_hold : List ℕ → Sheets → Bool
lengths_hold store sheets = store_long store && sizes_long sheets.sizes && fixed_long sheets.fixed

-- a store of zeros
abbrev pub zero_store : List ℕ
zero_store = replicate 10240 0

-- "0..40; banks 0 and 1 at least 2; banks 251..253 are 0 (H); bank 254 is 2."
unfoldable pub size_holds : ℕ → ℕ → Bool
size_holds bank size =
    cond (ltb bank 2) (leb 2 size && leb size 40)
    (cond (leb 251 bank && leb bank 253) (eqb size 0)
    (cond (eqb bank 254) (eqb size 2)
    (leb size 40)))

-- the sizes from a bank on keep that rule
unfoldable pub sizes_hold : ℕ → List ℕ → Bool
sizes_hold bank [] = true
sizes_hold bank (size ∷ sizes) = size_holds bank size && sizes_hold (suc bank) sizes

-- C-13: "its byte 1 must be 11, else refusal 5": what offset 1 of bank 254 reads as, the SUSI version
unfoldable pub version_holds : List ℕ → Bool
version_holds fixed = eqb (get_or fixed 1 0) 11

-- refusal 5: the size sheet keeps its rule in every bank, and the fixed sheet its own
unfoldable pub sheets_hold : Sheets → Bool
sheets_hold sheets = sizes_hold 0 sheets.sizes && version_holds sheets.fixed

-- ---- What the size sheet alone says.

-- the cells used in a bank
unfoldable pub size_of : List ℕ → ℕ → ℕ
size_of sizes bank = get_or sizes bank 0

-- "Readable: offset below the size. In bank 254 offset 0 isn't readable .."
unfoldable pub readable : List ℕ → ℕ → ℕ → Bool
readable sizes bank offset = ltb offset (size_of sizes bank) && not (eqb bank 254 && eqb offset 0)

-- "Writable: readable, not bank 254, not offsets 0 and 1 of banks 0 and 1."
unfoldable pub writable : List ℕ → ℕ → ℕ → Bool
writable sizes bank offset = readable sizes bank offset && not (eqb bank 254) && not (ltb bank 2 && ltb offset 2)

-- "the count of leading readable cells (0 for bank 254)"
unfoldable pub leading_of : List ℕ → ℕ → ℕ
leading_of sizes bank = cond (eqb bank 254) 0 (size_of sizes bank)
