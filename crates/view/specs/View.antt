-- THE BANK VIEW, C-13: "the used cells of a bank as a part of the caller's own sheet for 254, and of the store for any other. A size of 0
-- and every refusal give an empty part; a separate check gives the refusal's number."
use Rattle.std.specs.Prelude.{ℕ, List, [], cond, ◌≡◌, eqb}
use Rattle.store.specs.Sheet.{Sheets, lengths_hold, sheets_hold}
use Rattle.store.specs.Store.{used_cells}

-- the check: row 4, then row 5; 0 for none
unfoldable pub view_refusal : List ℕ → Sheets → ℕ
view_refusal store sheets = cond (lengths_hold store sheets) (cond (sheets_hold sheets) 0 5) 4

unfoldable pub view_of : List ℕ → Sheets → ℕ → List ℕ
view_of store sheets bank = cond (eqb (view_refusal store sheets) 0) (used_cells store sheets bank) []

-- WHAT THE TWO ENTRIES PROMISE of the number and of the part that they give; what is lent to them is only read
unfoldable pub ViewRefusalPromise : List ℕ → Sheets → ℕ → Type 0
ViewRefusalPromise store sheets number = number ≡ view_refusal store sheets

unfoldable pub ViewPromise : List ℕ → Sheets → ℕ → List ℕ → Type 0
ViewPromise store sheets bank part = part ≡ view_of store sheets bank
