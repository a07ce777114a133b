-- What a CV is to a module, and the right to write it: document 01, "Cells".
use Rattle.std.specs.Prelude.{ℕ, ◌+◌, ◌-◌, ◌*◌, Bool, true, false, cond, ◌&&◌, ◌||◌, leb, eqb, List}
use Rattle.cells.specs.declared.role.Role.{Role}
use Rattle.cells.specs.declared.role.Role.TheVariants.{Number, Wait, Bank, Zero, Own, NotHere}
use Rattle.store.specs.Sheet.{writable}

-- "Module n owns CVs 900+40(n-1) to 939+40(n-1)."
unfoldable pub owns : ℕ → ℕ → Bool
owns n cv = leb (900 + 40 * (n - 1)) cv && leb cv (939 + 40 * (n - 1))

-- the offset of an own CV
unfoldable pub offset_of : ℕ → ℕ → ℕ
offset_of n cv = cv - (900 + 40 * (n - 1))

-- "CVs 897 to 899 and 1020 to 1024 are common"
unfoldable pub common : ℕ → Bool
common cv = (leb 897 cv && leb cv 899) || (leb 1020 cv && leb cv 1024)

-- 897 is the module's number, 1020 the WAIT bit, 1021 the bank; the others hold 0
unfoldable pub common_role : ℕ → Role
common_role cv = cond (eqb cv 897) Number (cond (eqb cv 1020) Wait (cond (eqb cv 1021) Bank Zero))

-- a CV is owned, or common, or neither
unfoldable pub role_of : ℕ → ℕ → Role
role_of n cv = cond (owns n cv) (Own (offset_of n cv)) (cond (common cv) (common_role cv) NotHere)

-- CV 897: "values 0..3 .. A write leaving 4 or more isn't done." CV 1020: "not writable from the
-- line". "CV 1021: any byte, writable." Those that hold 0 "aren't writable". An own cell is written
-- if it is writable in the selected bank, and what is neither owned nor common never.
unfoldable pub role_takes : Role → ℕ → ℕ → List ℕ → Bool
role_takes Number value bank sizes = leb value 3
role_takes Wait value bank sizes = false
role_takes Bank value bank sizes = true
role_takes Zero value bank sizes = false
role_takes (Own offset) value bank sizes = writable sizes bank offset
role_takes NotHere value bank sizes = false

-- THE RIGHT TO WRITE a byte to a CV of module n with this bank selected: by the size sheet; store and fixed sheet have no say in it
unfoldable pub may_write : ℕ → ℕ → ℕ → ℕ → List ℕ → Bool
may_write cv value n bank sizes = role_takes (role_of n cv) value bank sizes
