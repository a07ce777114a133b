-- The common CVs: 897, 1020, 1021, and those that hold 0.
use Prim.Native.Nat.{ℕ, ◌^◌, ◌≤◌, ◌<◌}
use mathlib.Core.List.{List}
use mathlib.Core.Bool.{true}
use mathlib.Core.Path.{◌≡◌, sym, ◌∙◌, ap}
use native.Mathlib.Omega.{arith}
use lib.Dec.{eqb}
use lib.Pow.{pow_pos, pow_mono}
use borrow.Author.Tests.{le-leb, lt-leb}
use Rattle.std.proofs.Common.{Some}
use Rattle.bits.specs.Bits.{with_part, bit_at, with_bit}
use Rattle.bits.proofs.Parts.{none_there, with_same}
use Rattle.cells.specs.declared.role.Role.TheVariants.{Zero}
use Rattle.store.specs.Sheet.{Sheets}
use Rattle.cells.specs.declared.settings.Settings.{Settings}
use Rattle.cells.specs.Roles.{common, role_of, role_takes, may_write}
use Rattle.cells.specs.Settings.{settings, settings_possible, effective_number, role_reads, read_of, is_byte, has_bit, verify_byte_of, verify_bit_of, done, not_done, settings_after, store_after, write_byte_of, bit_written, write_bit_of}
use Rattle.cells.proofs.Owning.{role_number, role_wait, role_bank, role_zero}
use Rattle.cells.proofs.Numbers.{number_le, wait_le, number_from, number_to}

module _ (s : Settings) (store : List ℕ) (sheets : Sheets) where
  -- CV 897 takes 0 to 3 and nothing else, and changes the number alone
  pub number_reads : read_of s 897 store sheets ≡ Some s.number
  unfolding read_of role_reads
  number_reads = rw role_number

  pub number_written : (value : ℕ) → value ≤ 3 → write_byte_of s 897 value store sheets.sizes ≡ done (settings value s.wait s.bank) store
  unfolding write_byte_of may_write role_takes settings_after store_after
  number_written value h = simp (role_number (effective_number s), le-leb value 3 h)

  pub number_refused : (value : ℕ) → 3 < value → write_byte_of s 897 value store sheets.sizes ≡ not_done s store
  unfolding write_byte_of may_write role_takes
  number_refused value h = simp (role_number (effective_number s), lt-leb value 3 h)

  module _ (possible : settings_possible s ≡ true) where
    -- 0 in a bit above bit 1 of CV 897 leaves the byte as it was, and is done; 1 there is not
    small : (place : ℕ) → 2 ≤ place → s.number < 2 ^ place
    small place h = let p : 2 ^ 2 ≤ 2 ^ place = pow_mono h in omega (arith, number_le s possible)

    none : (place : ℕ) → 2 ≤ place → bit_at s.number place ≡ 0
    none place h = none_there s.number place 1 (small place h)

    pub high_bit_cleared : (place : ℕ) → 2 ≤ place → write_bit_of s 897 place 0 store sheets ≡ done s store
    unfolding write_bit_of bit_written
    high_bit_cleared place h =
        let e : with_bit s.number place 0 ≡ s.number = ap (λ (v : ℕ). with_bit s.number place v) (sym (none place h)) ∙ with_same s.number place 1 in
        rw (number_reads, e) (number_written s.number (number_le s possible))

    pub high_bit_set : (place : ℕ) → 2 ≤ place → write_bit_of s 897 place 1 store sheets ≡ not_done s store
    unfolding write_bit_of bit_written with_part
    high_bit_set place h =
        let p : 2 ^ 2 ≤ 2 ^ place = pow_mono h in
        rw number_reads (number_refused (with_bit s.number place 1) (rw (none place h) (omega arith)))

    -- CV 1020 reads as the WAIT bit, its other bits as 0; it isn't writable from the line, by byte or by bit
    pub wait_reads : read_of s 1020 store sheets ≡ Some s.wait
    unfolding read_of role_reads
    wait_reads = rw (role_wait _ (number_to s possible))

    pub wait_refused : (value : ℕ) → write_byte_of s 1020 value store sheets.sizes ≡ not_done s store
    unfolding write_byte_of may_write role_takes
    wait_refused value = rw (role_wait _ (number_to s possible))

    pub wait_bit_refused : (place value : ℕ) → write_bit_of s 1020 place value store sheets ≡ not_done s store
    unfolding write_bit_of bit_written
    wait_bit_refused place value = rw wait_reads (wait_refused (with_bit s.wait place value))

    pub wait_reserved_verify : (place value : ℕ) → 1 ≤ place → verify_bit_of s 1020 place value store sheets ≡ eqb 0 value
    unfolding verify_bit_of has_bit
    wait_reserved_verify place value h =
        let p : 2 ^ 1 ≤ 2 ^ place = pow_mono h in
        rw (wait_reads, none_there s.wait place 1 (omega (arith, wait_le s possible)))

    -- CV 1021 takes any byte
    pub bank_reads : read_of s 1021 store sheets ≡ Some s.bank
    unfolding read_of role_reads
    bank_reads = rw (role_bank _ (number_to s possible))

    pub bank_written : (value : ℕ) → write_byte_of s 1021 value store sheets.sizes ≡ done (settings s.number s.wait value) store
    unfolding write_byte_of may_write role_takes settings_after store_after
    bank_written value = rw (role_bank _ (number_to s possible))

    -- CVs 898, 899 and 1022 to 1024 hold 0, verify as 0, by byte and by bit, and aren't writable, by byte or by bit
    module _ (cv : ℕ) (shared : common cv ≡ true) (x : cv ≡ 897 → ⊥) (y : cv ≡ 1020 → ⊥) (z : cv ≡ 1021 → ⊥) where
      zero : role_of (effective_number s) cv ≡ Zero
      zero = role_zero (effective_number s) cv (number_from s) (number_to s possible) shared x y z

      pub zero_reads : read_of s cv store sheets ≡ Some 0
      unfolding read_of role_reads
      zero_reads = rw zero

      pub zero_refused : (value : ℕ) → write_byte_of s cv value store sheets.sizes ≡ not_done s store
      unfolding write_byte_of may_write role_takes
      zero_refused value = rw zero

      pub zero_bit_refused : (place value : ℕ) → write_bit_of s cv place value store sheets ≡ not_done s store
      unfolding write_bit_of bit_written
      zero_bit_refused place value = rw zero_reads (zero_refused (with_bit 0 place value))

      pub zero_verify : (value : ℕ) → verify_byte_of s cv value store sheets ≡ eqb 0 value
      unfolding verify_byte_of is_byte
      zero_verify value = rw zero_reads

      pub zero_bit_verify : (place value : ℕ) → verify_bit_of s cv place value store sheets ≡ eqb 0 value
      unfolding verify_bit_of has_bit
      zero_bit_verify place value = rw (zero_reads, none_there 0 place 1 (pow_pos place))
