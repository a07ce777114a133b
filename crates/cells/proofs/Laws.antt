-- Writes to CVs: when one is done, what it changes and what it leaves.
use Prim.Native.Nat.{ℕ, ◌+◌, ◌-◌, ◌*◌, ◌≤◌, ◌<◌}
use mathlib.Core.List.{List}
use mathlib.Core.Bool.{Bool, true, false, false≢true}
use mathlib.Core.Path.{◌≡◌, refl, sym, ◌∙◌, ap}
use native.Mathlib.Omega.{arith}
use lib.Dec.{leb}
use lib.ListN.{length, get_or}
use borrow.Author.Tests.{le-leb, lt-leb, eq-eqb}
use Rattle.std.proofs.Common.{Some, None, Option}
use Rattle.bits.specs.Bits.{Bytes}
use Rattle.bits.proofs.Tests.{by, and_left, and_right, and_both}
use Rattle.cells.specs.declared.role.Role.{Role}
use Rattle.cells.specs.declared.role.Role.TheVariants.{Number, Wait, Bank, Zero, Own, NotHere}
use Rattle.cells.specs.declared.settings.Settings.{Settings}
use Rattle.store.specs.Sheet.{Sheets, sheets_of, lengths_hold}
use Rattle.store.specs.Store.{cell_place, held_at, with_cell, cell_of}
use Rattle.cells.specs.Roles.{owns, common, role_of, role_takes, may_write}
use Rattle.cells.specs.Settings.{settings, settings_possible, effective_number, with_wait, role_reads, read_of, own_cell_of, is_byte, has_bit, verify_byte_of, verify_bit_of, AfterWrite, Written, written_as, done, not_done, settings_after, store_after, write_byte_of, bit_written, write_bit_of}
use Rattle.store.proofs.Sizes.{store_long_lem, lengths_stay}
use Rattle.store.proofs.Places.{cell_within, length_with, held_same, held_other, other_byte, still_bytes}
use Rattle.cells.proofs.Owning.{role_says, own_lt, role_own, role_number, below_all, above_all}
use Rattle.cells.proofs.Numbers.{number_to}
use Rattle.store.proofs.Reading.{writable_reads}

-- by role: possible settings stay possible over a byte that is taken,
possible_after : (s : Settings) (role : Role) (value : ℕ) (sizes : List ℕ) → role_takes role value s.bank sizes ≡ true → settings_possible s ≡ true → settings_possible (settings_after s role value) ≡ true
unfolding role_takes settings_possible settings_after
possible_after s Number value sizes t h = and_both (leb value 3) (leb s.wait 1) t (and_right (leb s.number 3) (leb s.wait 1) h)
possible_after s Wait value sizes t h = h
possible_after s Bank value sizes t h = h
possible_after s Zero value sizes t h = h
possible_after s (Own o) value sizes t h = h
possible_after s NotHere value sizes t h = h

-- the selected bank stays a byte,
bank_after : (s : Settings) (role : Role) (value : ℕ) → value < 256 → s.bank < 256 → (settings_after s role value).bank < 256
unfolding settings_after
bank_after s Number value v b = b
bank_after s Wait value v b = b
bank_after s Bank value v b = v
bank_after s Zero value v b = b
bank_after s (Own o) value v b = b
bank_after s NotHere value v b = b

-- and the store is as it was, or has the byte in an own cell
store_after_lem : (P : List ℕ → Type 0) (role : Role) (bank value : ℕ) (store : List ℕ) → P store → ((o : ℕ) → role ≡ Own o → P (with_cell store bank o value)) → P (store_after role bank value store)
unfolding store_after
store_after_lem P Number bank value store p q = p
store_after_lem P Wait bank value store p q = p
store_after_lem P Bank bank value store p q = p
store_after_lem P Zero bank value store p q = p
store_after_lem P (Own o) bank value store p q = q o refl
store_after_lem P NotHere bank value store p q = p

-- fresh settings are possible, and the WAIT bit keeps possible settings so
pub fresh_possible : settings_possible (settings 1 0 0) ≡ true
unfolding settings_possible
fresh_possible = refl

pub wait_possible : (s : Settings) (on : Bool) → settings_possible s ≡ true → settings_possible (with_wait s on) ≡ true
unfolding settings_possible with_wait
wait_possible s true h = rw (and_left (leb s.number 3) (leb s.wait 1) h)
wait_possible s false h = rw (and_left (leb s.number 3) (leb s.wait 1) h)

module _ (s : Settings) (cv value : ℕ) (store : List ℕ) (sizes : List ℕ) where
  -- WHETHER A WRITE IS DONE hangs on CV, byte, module number, bank and size sheet, and on no byte of
  -- the store. The number is the one before the write.
  pub done_by_right : (write_byte_of s cv value store sizes).written.done ≡ may_write cv value (effective_number s) s.bank sizes
  unfolding write_byte_of
  done_by_right = by (may_write cv value (effective_number s) s.bank sizes) (λ e. simp e) (λ e. simp e)

  -- what holds of a write that isn't done, and of one that is, holds of every write
  pub each_write : (P : AfterWrite → Type 0) → P (not_done s store)
      → (role_takes (role_of (effective_number s) cv) value s.bank sizes ≡ true → P (done (settings_after s (role_of (effective_number s) cv) value) (store_after (role_of (effective_number s) cv) s.bank value store)))
      → P (write_byte_of s cv value store sizes)
  unfolding write_byte_of may_write
  each_write P n d = by (role_takes (role_of (effective_number s) cv) value s.bank sizes) (λ e. rw e (d e)) (λ e. rw e n)

  -- a write that isn't done leaves settings and store as they were
  pub not_done_leaves : (write_byte_of s cv value store sizes).written.done ≡ false → write_byte_of s cv value store sizes ≡ not_done s store
  not_done_leaves = each_write (λ (l : AfterWrite). l.written.done ≡ false → l ≡ not_done s store) (λ h. refl) (λ t h. absurd (false≢true (sym h)))

  -- possible settings stay possible
  pub write_possible : settings_possible s ≡ true → settings_possible (write_byte_of s cv value store sizes).written.settings ≡ true
  write_possible h = each_write (λ (l : AfterWrite). settings_possible l.written.settings ≡ true) h (λ t. possible_after s _ value sizes t h)

  -- the selected bank stays a byte
  pub bank_kept : value < 256 → s.bank < 256 → (write_byte_of s cv value store sizes).written.settings.bank < 256
  bank_kept v b = each_write (λ (l : AfterWrite). l.written.settings.bank < 256) b (λ t. bank_after s _ value v b)

  -- ONE CELL AT MOST: the store is as it was, or has the byte in the CV's own cell of the selected bank
  pub stored : (P : List ℕ → Type 0) → P store → ((o : ℕ) → role_of (effective_number s) cv ≡ Own o → P (with_cell store s.bank o value)) → P (write_byte_of s cv value store sizes).store
  stored P p q = each_write (λ (l : AfterWrite). P l.store) p (λ t. store_after_lem P _ s.bank value store p q)

  -- so every other cell reads as before,
  pub other_cells : (b o : ℕ) → o < 40 → ((role_of (effective_number s) cv ≡ Own o) × (b ≡ s.bank) → ⊥)
      → held_at (write_byte_of s cv value store sizes).store b o ≡ held_at store b o
  other_cells b o h n =
      stored (λ (l : List ℕ). held_at l b o ≡ held_at store b o) refl
      (λ o' e. held_other store s.bank o' value b o (own_lt _ cv o' e) h (λ q. n (e ∙ ap Own (sym q.1), q.0)))

  -- every other byte of the store stays, whether it is a cell's or not,
  pub other_bytes : (i : ℕ) → ((o : ℕ) → role_of (effective_number s) cv ≡ Own o → i ≡ cell_place s.bank o → ⊥)
      → get_or (write_byte_of s cv value store sizes).store i 0 ≡ get_or store i 0
  other_bytes i n = stored (λ (l : List ℕ). get_or l i 0 ≡ get_or store i 0) refl (λ o e. other_byte store s.bank o value i (n o e))

  -- the store keeps its length,
  pub length_kept : length (write_byte_of s cv value store sizes).store ≡ length store
  length_kept = stored (λ (l : List ℕ). length l ≡ length store) refl (λ o e. length_with store s.bank o value)

  pub lengths_kept : (fixed : List ℕ) → lengths_hold store (sheets_of sizes fixed) ≡ true → lengths_hold (write_byte_of s cv value store sizes).store (sheets_of sizes fixed) ≡ true
  lengths_kept fixed h = lengths_stay store _ (sheets_of sizes fixed) length_kept h

  -- and its cells stay bytes
  pub bytes_kept : value < 256 → Bytes store → Bytes (write_byte_of s cv value store sizes).store
  bytes_kept v h = stored Bytes h (λ o e. still_bytes store s.bank o value v h)

-- WHAT WAS WRITTEN READS BACK, in the settings and the store that the write left.
module _ (s : Settings) (cv value : ℕ) (store : List ℕ) (sheets : Sheets) (lengths : lengths_hold store sheets ≡ true) (bank : s.bank < 256) where
  back : (role : Role) → role_of (effective_number s) cv ≡ role → role_takes role value s.bank sheets.sizes ≡ true
      → read_of (settings_after s role value) cv (store_after role s.bank value store) sheets ≡ Some value
  unfolding read_of role_reads role_takes settings_after store_after effective_number
  back Number e t = let i : cv ≡ 897 = rw e at (role_says (effective_number s) cv) in rw (i, role_number _)
  back Wait e t = absurd (false≢true t)
  back Bank e t = let f : role_of (effective_number (settings s.number s.wait value)) cv ≡ Bank = e in rw f
  back Zero e t = absurd (false≢true t)
  back (Own o) e t =
      let l : cell_place s.bank o < length store = cell_within store (store_long_lem store sheets lengths) s.bank o bank (own_lt _ cv o e) in
      rw e (writable_reads (with_cell store s.bank o value) sheets s.bank o t ∙ ap Some (held_same store s.bank o value l))
  back NotHere e t = absurd (false≢true t)

  pub reads_back : (write_byte_of s cv value store sheets.sizes).written.done ≡ true
      → read_of (write_byte_of s cv value store sheets.sizes).written.settings cv (write_byte_of s cv value store sheets.sizes).store sheets ≡ Some value
  reads_back =
      each_write s cv value store sheets.sizes (λ (l : AfterWrite). l.written.done ≡ true → read_of l.written.settings cv l.store sheets ≡ Some value)
      (λ h. absurd (false≢true h)) (λ t h. back _ refl t)

  pub verifies_back : (write_byte_of s cv value store sheets.sizes).written.done ≡ true
      → verify_byte_of (write_byte_of s cv value store sheets.sizes).written.settings cv value (write_byte_of s cv value store sheets.sizes).store sheets ≡ true
  unfolding verify_byte_of is_byte
  verifies_back h = rw (reads_back h) (eq-eqb value value refl)

-- A CV THAT IS NEITHER OWNED NOR COMMON is never acknowledged, and nothing changes.
module _ (s : Settings) (cv : ℕ) (store : List ℕ) (sheets : Sheets) (own : owns (effective_number s) cv ≡ false) (shared : common cv ≡ false) where
  not_here : role_of (effective_number s) cv ≡ NotHere
  unfolding role_of
  not_here = simp (own, shared)

  unread : read_of s cv store sheets ≡ None
  unfolding read_of role_reads
  unread = rw not_here

  pub nothing_verifies : (value : ℕ) → verify_byte_of s cv value store sheets ≡ false
  unfolding verify_byte_of is_byte
  nothing_verifies value = rw unread

  pub no_bit_verifies : (place value : ℕ) → verify_bit_of s cv place value store sheets ≡ false
  unfolding verify_bit_of has_bit
  no_bit_verifies place value = rw unread

  pub nothing_writes : (value : ℕ) → write_byte_of s cv value store sheets.sizes ≡ not_done s store
  unfolding write_byte_of may_write role_takes
  nothing_writes value = rw not_here

  pub no_bit_writes : (place value : ℕ) → write_bit_of s cv place value store sheets ≡ not_done s store
  unfolding write_bit_of bit_written
  no_bit_writes place value = rw unread

-- so is every number outside 897 to 1024, at possible settings
pub below_neither : (s : Settings) (cv : ℕ) → cv < 897 → (owns (effective_number s) cv ≡ false) × (common cv ≡ false)
unfolding common
below_neither s cv h =
    let l : cv < 1020 = omega arith in
    (below_all (effective_number s) cv (omega arith), simp (lt-leb 897 cv h, lt-leb 1020 cv l))

pub above_neither : (s : Settings) (cv : ℕ) → settings_possible s ≡ true → 1024 < cv → (owns (effective_number s) cv ≡ false) × (common cv ≡ false)
unfolding common
above_neither s cv p h =
    let a : 897 ≤ cv = omega arith in
    let b : 899 < cv = omega arith in
    let c : 1020 ≤ cv = omega arith in
    (above_all (effective_number s) cv (number_to s p) (omega arith), simp (le-leb 897 cv a, lt-leb cv 899 b, le-leb 1020 cv c, lt-leb cv 1024 h))

-- RENUMBERED, the cells go along: a module's forty CVs read as its cells, whatever its number
pub own_reads : (s : Settings) (o : ℕ) (store : List ℕ) (sheets : Sheets) → o < 40 → read_of s (900 + 40 * (effective_number s - 1) + o) store sheets ≡ cell_of store sheets s.bank o
unfolding read_of role_reads
own_reads s o store sheets h = rw (role_own (effective_number s) o h)

pub cells_go_along : (s : Settings) (value o : ℕ) (store : List ℕ) (sheets : Sheets) → o < 40
    → let t = settings value s.wait s.bank in
    read_of t (900 + 40 * (effective_number t - 1) + o) store sheets ≡ read_of s (900 + 40 * (effective_number s - 1) + o) store sheets
cells_go_along s value o store sheets h =
    own_reads (settings value s.wait s.bank) o store sheets h ∙ sym (own_reads s o store sheets h)

-- what the owner answers to 0x0F is what a verify reads
pub own_cell_reads : (s : Settings) (cv : ℕ) (store : List ℕ) (sheets : Sheets) → owns (effective_number s) cv ≡ true → own_cell_of s cv store sheets ≡ Some (read_of s cv store sheets)
unfolding own_cell_of read_of role_reads role_of
own_cell_reads s cv store sheets h = simp h

pub not_own : (s : Settings) (cv : ℕ) (store : List ℕ) (sheets : Sheets) → owns (effective_number s) cv ≡ false → own_cell_of s cv store sheets ≡ None
unfolding own_cell_of
not_own s cv store sheets h = rw h

-- ---- What a write gives says its answer whole: no two that it may give say one.

pub written_once : (s : Settings) (one other : Option Settings) → written_as s one ≡ written_as s other → one ≡ other
written_once s (Some a) (Some b) e = ap (λ (w : Written). Some w.settings) e
written_once s (Some a) None e = absurd (false≢true (sym (ap (λ (w : Written). w.done) e)))
written_once s None (Some b) e = absurd (false≢true (ap (λ (w : Written). w.done) e))
written_once s None None e = refl
