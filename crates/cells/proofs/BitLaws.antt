-- Bit writes. A bit write is a write of the byte that the CV reads as, with one bit changed, so each law of byte writes is one of bit writes.
use Prim.Native.Nat.{ℕ, ◌<◌}
use mathlib.Core.List.{List}
use mathlib.Core.Bool.{Bool, true, false, false≢true}
use mathlib.Core.Path.{◌≡◌, refl, sym, ◌∙◌}
use native.Mathlib.Omega.{arith}
use lib.Dec.{eqb}
use lib.ListN.{length, get_or}
use borrow.Author.Tests.{eq-eqb, eqb-true}
use Rattle.std.proofs.Common.{Some, None, Option}
use Rattle.bits.specs.Bits.{with_bit, Bytes}
use Rattle.bits.proofs.Tests.{by}
use Rattle.bits.proofs.Parts.{with_read, with_bit_other, with_lt}
use Rattle.cells.specs.declared.role.Role.{Role}
use Rattle.cells.specs.declared.role.Role.TheVariants.{Number, Wait, Bank, Zero, Own, NotHere}
use Rattle.cells.specs.declared.settings.Settings.{Settings}
use Rattle.store.specs.Sheet.{Sheets, lengths_hold, size_of, readable}
use Rattle.store.specs.Store.{cell_place, held_at, cell_of, used_cells}
use Rattle.cells.specs.Roles.{role_of, role_takes, may_write}
use Rattle.cells.specs.Settings.{settings_possible, effective_number, role_reads, read_of, has_bit, verify_bit_of, AfterWrite, not_done, write_byte_of, bit_written, write_bit_of}
use Rattle.store.proofs.Sizes.{lengths_stay}
use Rattle.store.proofs.Reading.{readable_used, used_fixed, used_held}
use Rattle.cells.proofs.Numbers.{number_le, wait_le}
use Rattle.cells.proofs.Laws.{done_by_right, not_done_leaves, write_possible, length_kept, other_bytes, other_cells, bytes_kept, bank_kept, reads_back}

-- what a CV reads as is a byte, where the settings are possible and store and fixed sheet hold bytes
abbrev ByteIn : Option ℕ → Type 0
ByteIn (Some byte) = byte < 256
ByteIn None = Unit {0}

used_lt : (store : List ℕ) (sheets : Sheets) (bank offset : ℕ) → Bytes store → Bytes sheets.fixed → offset < size_of sheets.sizes bank
    → get_or (used_cells store sheets bank) offset 0 < 256
unfolding held_at
used_lt store sheets bank offset b f h =
    by (eqb bank 254)
    (λ e. let i : bank ≡ 254 = eqb-true _ _ e in rw i (rw (used_fixed store sheets offset (rw i at h)) (f offset)))
    (λ e. rw (used_held store sheets bank offset e h) (b (cell_place bank offset)))

cell_byte : (store : List ℕ) (sheets : Sheets) (bank offset : ℕ) → Bytes store → Bytes sheets.fixed → ByteIn (cell_of store sheets bank offset)
unfolding cell_of
cell_byte store sheets bank offset b f = by (readable sheets.sizes bank offset) (λ e. rw e (used_lt store sheets bank offset b f (readable_used sheets.sizes bank offset e))) (λ e. rw e tt)

role_byte : (s : Settings) (role : Role) (store : List ℕ) (sheets : Sheets) → settings_possible s ≡ true → s.bank < 256 → Bytes store → Bytes sheets.fixed → ByteIn (role_reads s role store sheets)
unfolding role_reads
role_byte s Number store sheets p n b f = omega (arith, number_le s p)
role_byte s Wait store sheets p n b f = omega (arith, wait_le s p)
role_byte s Bank store sheets p n b f = n
role_byte s Zero store sheets p n b f = omega arith
role_byte s (Own o) store sheets p n b f = cell_byte store sheets s.bank o b f
role_byte s NotHere store sheets p n b f = tt

pub read_byte : (s : Settings) (cv byte : ℕ) (store : List ℕ) (sheets : Sheets) → settings_possible s ≡ true → s.bank < 256 → Bytes store → Bytes sheets.fixed → read_of s cv store sheets ≡ Some byte → byte < 256
unfolding read_of
read_byte s cv byte store sheets p n b f e = let i : ByteIn (Some byte) = rw e at (role_byte s (role_of (effective_number s) cv) store sheets p n b f) in i

-- the right to write a bit of what a CV reads as
abbrev pub bit_right : Settings → ℕ → ℕ → ℕ → List ℕ → Option ℕ → Bool
bit_right s cv place value sizes (Some byte) = may_write cv (with_bit byte place value) (effective_number s) s.bank sizes
bit_right s cv place value sizes None = false

right_whatever : (s : Settings) (cv place value : ℕ) (store store' : List ℕ) (sheets : Sheets) (role : Role) → role_of (effective_number s) cv ≡ role
    → bit_right s cv place value sheets.sizes (role_reads s role store sheets) ≡ bit_right s cv place value sheets.sizes (role_reads s role store' sheets)
unfolding role_reads cell_of may_write role_takes
right_whatever s cv place value store store' sheets Number e = refl
right_whatever s cv place value store store' sheets Wait e = refl
right_whatever s cv place value store store' sheets Bank e = refl
right_whatever s cv place value store store' sheets Zero e = refl
right_whatever s cv place value store store' sheets (Own o) e = by (readable sheets.sizes s.bank o) (λ r. simp (r, e)) (λ r. simp r)
right_whatever s cv place value store store' sheets NotHere e = refl

module _ (s : Settings) (cv place value : ℕ) (store : List ℕ) (sheets : Sheets) where
  -- what holds of a write that isn't done, and of each byte's write, holds of a bit's
  pub each_bit_write : (P : AfterWrite → Type 0) → P (not_done s store)
      → ((byte : ℕ) → read_of s cv store sheets ≡ Some byte → P (write_byte_of s cv (with_bit byte place value) store sheets.sizes))
      → P (write_bit_of s cv place value store sheets)
  unfolding write_bit_of bit_written
  each_bit_write P n d = cases (read_of s cv store sheets) refl
    where
      cases : (c : Option ℕ) → read_of s cv store sheets ≡ c → P (bit_written c s cv place value store sheets.sizes)
      cases (Some byte) e = d byte e
      cases None e = n

  -- a bit write is done exactly if the byte that it would leave may be written,
  pub bit_done_by_right : (write_bit_of s cv place value store sheets).written.done ≡ bit_right s cv place value sheets.sizes (read_of s cv store sheets)
  unfolding write_bit_of bit_written
  bit_done_by_right = cases (read_of s cv store sheets)
    where
      cases : (c : Option ℕ) → (bit_written c s cv place value store sheets.sizes).written.done ≡ bit_right s cv place value sheets.sizes c
      cases (Some byte) = done_by_right s cv (with_bit byte place value) store sheets.sizes
      cases None = refl

  -- a bit write that isn't done leaves settings and store as they were
  pub bit_not_done_leaves : (write_bit_of s cv place value store sheets).written.done ≡ false → write_bit_of s cv place value store sheets ≡ not_done s store
  bit_not_done_leaves = each_bit_write (λ (l : AfterWrite). l.written.done ≡ false → l ≡ not_done s store) (λ h. refl) (λ byte e. not_done_leaves s cv (with_bit byte place value) store sheets.sizes)

  -- possible settings stay possible
  pub bit_possible : settings_possible s ≡ true → settings_possible (write_bit_of s cv place value store sheets).written.settings ≡ true
  bit_possible h = each_bit_write (λ (l : AfterWrite). settings_possible l.written.settings ≡ true) h (λ byte e. write_possible s cv (with_bit byte place value) store sheets.sizes h)

  -- one cell at most: every other reads as before,
  pub bit_other_cells : (b o : ℕ) → o < 40 → ((role_of (effective_number s) cv ≡ Own o) × (b ≡ s.bank) → ⊥)
      → held_at (write_bit_of s cv place value store sheets).store b o ≡ held_at store b o
  bit_other_cells b o h n = each_bit_write (λ (l : AfterWrite). held_at l.store b o ≡ held_at store b o) refl (λ byte e. other_cells s cv (with_bit byte place value) store sheets.sizes b o h n)

  -- every other byte of the store stays,
  pub bit_other_bytes : (i : ℕ) → ((o : ℕ) → role_of (effective_number s) cv ≡ Own o → i ≡ cell_place s.bank o → ⊥)
      → get_or (write_bit_of s cv place value store sheets).store i 0 ≡ get_or store i 0
  bit_other_bytes i n = each_bit_write (λ (l : AfterWrite). get_or l.store i 0 ≡ get_or store i 0) refl (λ byte e. other_bytes s cv (with_bit byte place value) store sheets.sizes i n)

  -- the store keeps its length,
  pub bit_length_kept : length (write_bit_of s cv place value store sheets).store ≡ length store
  bit_length_kept = each_bit_write (λ (l : AfterWrite). length l.store ≡ length store) refl (λ byte e. length_kept s cv (with_bit byte place value) store sheets.sizes)

  pub bit_lengths_kept : lengths_hold store sheets ≡ true → lengths_hold (write_bit_of s cv place value store sheets).store sheets ≡ true
  bit_lengths_kept h = lengths_stay store _ sheets bit_length_kept h

  -- and its cells stay bytes, as does the selected bank
  module _ (possible : settings_possible s ≡ true) (bank : s.bank < 256) (within : place < 8) (room : value < 2) (bytes : Bytes store) (fixed : Bytes sheets.fixed) where
    left_byte : (byte : ℕ) → read_of s cv store sheets ≡ Some byte → with_bit byte place value < 256
    left_byte byte e = with_lt byte place 1 value room 8 (omega arith) (read_byte s cv byte store sheets possible bank bytes fixed e)

    pub bit_bytes_kept : Bytes (write_bit_of s cv place value store sheets).store
    bit_bytes_kept = each_bit_write (λ (l : AfterWrite). Bytes l.store) bytes (λ byte e. bytes_kept s cv (with_bit byte place value) store sheets.sizes (left_byte byte e) bytes)

    pub bit_bank_kept : (write_bit_of s cv place value store sheets).written.settings.bank < 256
    bit_bank_kept = each_bit_write (λ (l : AfterWrite). l.written.settings.bank < 256) bank (λ byte e. bank_kept s cv (with_bit byte place value) store sheets.sizes (left_byte byte e) bank)

  module _ (lengths : lengths_hold store sheets ≡ true) (bank : s.bank < 256) (room : value < 2) where
    -- a bit that was written verifies,
    pub bit_verifies : (write_bit_of s cv place value store sheets).written.done ≡ true
        → verify_bit_of (write_bit_of s cv place value store sheets).written.settings cv place value (write_bit_of s cv place value store sheets).store sheets ≡ true
    unfolding verify_bit_of has_bit
    bit_verifies =
        each_bit_write (λ (l : AfterWrite). l.written.done ≡ true → verify_bit_of l.written.settings cv place value l.store sheets ≡ true) (λ h. absurd (false≢true h))
        (λ byte e h. rw (reads_back s cv (with_bit byte place value) store sheets lengths bank h) (eq-eqb _ _ (with_read byte place 1 value room)))

    -- and every other bit of the CV is as it was
    pub other_bits : (j d : ℕ) → (j ≡ place → ⊥)
        → verify_bit_of (write_bit_of s cv place value store sheets).written.settings cv j d (write_bit_of s cv place value store sheets).store sheets ≡ verify_bit_of s cv j d store sheets
    unfolding verify_bit_of has_bit
    other_bits j d n =
        each_bit_write (λ (l : AfterWrite). verify_bit_of l.written.settings cv j d l.store sheets ≡ verify_bit_of s cv j d store sheets) refl
        (λ byte e. by (write_byte_of s cv (with_bit byte place value) store sheets.sizes).written.done
        (λ h. rw (reads_back s cv (with_bit byte place value) store sheets lengths bank h, e, with_bit_other byte place value room j n))
        (λ h. rw (not_done_leaves s cv (with_bit byte place value) store sheets.sizes h)))

-- whether a bit write is done hangs on no byte of the store
pub bit_done_whatever : (s : Settings) (cv place value : ℕ) (store store' : List ℕ) (sheets : Sheets)
    → (write_bit_of s cv place value store sheets).written.done ≡ (write_bit_of s cv place value store' sheets).written.done
unfolding read_of
bit_done_whatever s cv place value store store' sheets =
    bit_done_by_right s cv place value store sheets ∙ right_whatever s cv place value store store' sheets (role_of (effective_number s) cv) refl
    ∙ sym (bit_done_by_right s cv place value store' sheets)
