-- The settings, and what CV packets read and write: document 01, "Cells" and "Commands".
use Rattle.std.specs.Prelude.{ℕ, List, Bool, true, false, cond, ◌&&◌, leb, eqb, Option, Some, None}
use Rattle.bits.specs.Bits.{bit_at, with_bit}
use Rattle.cells.specs.declared.role.Role.{Role}
use Rattle.cells.specs.declared.role.Role.TheVariants.{Number, Wait, Bank, Zero, Own, NotHere}
use Rattle.cells.specs.declared.settings.Settings.{Settings}
use Rattle.store.specs.Sheet.{Sheets}
use Rattle.store.specs.Store.{cell_of, with_cell}
use Rattle.cells.specs.Roles.{owns, offset_of, role_of, may_write}

-- the settings as CV 897, CV 1020 and CV 1021
abbrev pub settings : ℕ → ℕ → ℕ → Settings
settings number wait bank = record { number = number; wait = wait; bank = bank }

-- refusal 12: "CV 897 over 3", reserved WAIT bits set: all but bit 0 of CV 1020
unfoldable pub settings_possible : Settings → Bool
settings_possible s = leb s.number 3 && leb s.wait 1

-- "0 counts as module 1 but is stored as 0"
unfoldable pub effective_number : Settings → ℕ
effective_number s = cond (eqb s.number 0) 1 s.number

-- "the WAIT bit, set by the application"
unfoldable pub with_wait : Settings → Bool → Settings
with_wait s on = settings s.number (cond on 1 0) s.bank

-- the byte that a CV reads as, by what it is to the module; "the bank is the value of CV 1021"
unfoldable pub role_reads : Settings → Role → List ℕ → Sheets → Option ℕ
role_reads s Number store sheets = Some s.number
role_reads s Wait store sheets = Some s.wait
role_reads s Bank store sheets = Some s.bank
role_reads s Zero store sheets = Some 0
role_reads s (Own offset) store sheets = cell_of store sheets s.bank offset
role_reads s NotHere store sheets = None

unfoldable pub read_of : Settings → ℕ → List ℕ → Sheets → Option ℕ
read_of s cv store sheets = role_reads s (role_of (effective_number s) cv) store sheets

-- 0x0F: "Only the owner answers, from its selected bank": what an own CV reads as
unfoldable pub own_cell_of : Settings → ℕ → List ℕ → Sheets → Option (Option ℕ)
own_cell_of s cv store sheets =
    cond (owns (effective_number s) cv) (Some (cell_of store sheets s.bank (offset_of (effective_number s) cv))) None

-- a byte is compared with what is read; of a cell that isn't readable nothing is true
unfoldable pub is_byte : Option ℕ → ℕ → Bool
is_byte (Some byte) value = eqb byte value
is_byte None value = false

unfoldable pub has_bit : Option ℕ → ℕ → ℕ → Bool
has_bit (Some byte) place value = eqb (bit_at byte place) value
has_bit None place value = false

-- "0x77 verifies a byte."
unfoldable pub verify_byte_of : Settings → ℕ → ℕ → List ℕ → Sheets → Bool
verify_byte_of s cv value store sheets = is_byte (read_of s cv store sheets) value

-- 0x7B: "K=0 verifies bit B against D"
unfoldable pub verify_bit_of : Settings → ℕ → ℕ → ℕ → List ℕ → Sheets → Bool
verify_bit_of s cv place value store sheets = has_bit (read_of s cv store sheets) place value

-- the answer to a write: whether it was done, and the settings after it
pub record Written : Type 0 where
  pub done : Bool
  pub settings : Settings

-- what a write leaves: its answer, and the store
pub record AfterWrite : Type 0 where
  pub written : Written
  pub store : List ℕ

-- settings that a write gives are those after it, and it was done; none, and it left them as they were
abbrev pub written_as : Settings → Option Settings → Written
written_as s (Some after) = record { done = true; settings = after }
written_as s None = record { done = false; settings = s }

abbrev pub done : Settings → List ℕ → AfterWrite
done s store = record { written = record { done = true; settings = s }; store = store }

abbrev pub not_done : Settings → List ℕ → AfterWrite
not_done s store = record { written = record { done = false; settings = s }; store = store }

-- a byte that is taken goes to CV 897 or CV 1021, which are settings,
unfoldable pub settings_after : Settings → Role → ℕ → Settings
settings_after s Number value = settings value s.wait s.bank
settings_after s Wait value = s
settings_after s Bank value = settings s.number s.wait value
settings_after s Zero value = s
settings_after s (Own offset) value = s
settings_after s NotHere value = s

-- or to an own cell of the selected bank, which is in the store
unfoldable pub store_after : Role → ℕ → ℕ → List ℕ → List ℕ
store_after Number bank value store = store
store_after Wait bank value store = store
store_after Bank bank value store = store
store_after Zero bank value store = store
store_after (Own offset) bank value store = with_cell store bank offset value
store_after NotHere bank value store = store

-- "0x7F writes it." "Renumbering counts from the next command": the number before the write decides.
unfoldable pub write_byte_of : Settings → ℕ → ℕ → List ℕ → List ℕ → AfterWrite
write_byte_of s cv value store sizes =
    cond (may_write cv value (effective_number s) s.bank sizes)
    (done (settings_after s (role_of (effective_number s) cv) value) (store_after (role_of (effective_number s) cv) s.bank value store))
    (not_done s store)

-- 0x7B: "K=1 writes it": the byte that is read is written with that bit changed; where none is read, nothing is written
unfoldable pub bit_written : Option ℕ → Settings → ℕ → ℕ → ℕ → List ℕ → List ℕ → AfterWrite
bit_written (Some byte) s cv place value store sizes = write_byte_of s cv (with_bit byte place value) store sizes
bit_written None s cv place value store sizes = not_done s store

unfoldable pub write_bit_of : Settings → ℕ → ℕ → ℕ → List ℕ → Sheets → AfterWrite
write_bit_of s cv place value store sheets = bit_written (read_of s cv store sheets) s cv place value store sheets.sizes
