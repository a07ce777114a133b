-- What holds of every row of the tables holds of whatever is said. The rows are taken apart here, once.
use Prim.Native.Nat.{ℕ, ◌+◌, ◌<◌}
use native.Mathlib.Omega.{arith}
use mathlib.Core.Path.{◌≡◌, refl, sym, subst}
use mathlib.Core.Bool.{Bool, true, false, cond}
use lib.Dec.{eqb}
use borrow.Author.Tests.{eqb-true, eqb-false, ltb-true, leb-true}
use Rattle.bits.specs.Bits.{part_of, bit_at}
use Rattle.std.proofs.Common.{Option, Some, None}
use Rattle.command.specs.declared.Command.{Command}
use Rattle.command.specs.declared.Command.TheVariants.{NoOperation, ActualSpeed, WantedSpeed, Load, AddressLow, AddressHigh, FunctionsFrom0, FunctionsFrom5, FunctionsFrom13, FunctionsFrom21, Control, ShortState, LongLow, LongHigh, VerifyByte, WriteByte, VerifyBit, WriteBit, BankRead, ReadCv, PositionHigh, PositionLow}
use Rattle.command.specs.Meaning.{load_of, functions_of, call_said, bit7, cv_of, of_cv, bit_form, position_high_of, said_by}
use Rattle.command.proofs.Fields.{is_1}

-- a fact P of first byte, second byte, third byte and command, for each row
pub record Rows (P : ℕ → ℕ → ℕ → Command → Type 0) : Type 0 where
  pub no_operation : (s t : ℕ) → P 0x00 s t NoOperation
  pub actual_speed : (s t : ℕ) → P 0x24 s t (ActualSpeed s)
  pub wanted_speed : (s t : ℕ) → P 0x25 s t (WantedSpeed s)
  pub load : (s t : ℕ) → s < 128 → P 0x26 s t (Load s)
  pub address_low : (s t : ℕ) → P 0x5E s t (AddressLow s)
  pub address_high : (s t : ℕ) → P 0x5F s t (AddressHigh s)
  pub functions_from_0 : (s t : ℕ) → P 0x60 s t (FunctionsFrom0 (functions_of s))
  pub functions_from_5 : (s t : ℕ) → P 0x61 s t (FunctionsFrom5 s)
  pub functions_from_13 : (s t : ℕ) → P 0x62 s t (FunctionsFrom13 s)
  pub functions_from_21 : (s t : ℕ) → P 0x63 s t (FunctionsFrom21 s)
  pub control : (s t : ℕ) → P 0x6C s t (Control (part_of s 0 2))
  pub short_state : (s t : ℕ) → P 0x6D s t (ShortState (part_of s 0 7) (eqb (bit_at s 7) 1))
  pub long_low : (s t : ℕ) → P 0x6E s t (LongLow (part_of s 0 7) (eqb (bit_at s 7) 1))
  pub long_high : (s t : ℕ) → P 0x6F s t (LongHigh s)
  pub call : (s t : ℕ) → P 0x01 s t (call_said s)
  pub bank_read_1 : (s t : ℕ) → P 0x0C s t (BankRead 1 s)
  pub bank_read_2 : (s t : ℕ) → P 0x0D s t (BankRead 2 s)
  pub bank_read_3 : (s t : ℕ) → P 0x0E s t (BankRead 3 s)
  pub read_cv : (s t : ℕ) → P 0x0F s t (ReadCv (s + 769))
  pub verify_byte : (s t : ℕ) → bit_at s 7 ≡ 1 → P 0x77 s t (VerifyByte (cv_of s) t)
  pub write_byte : (s t : ℕ) → bit_at s 7 ≡ 1 → P 0x7F s t (WriteByte (cv_of s) t)
  pub verify_bit : (s t : ℕ) → bit_at s 7 ≡ 1 → part_of t 5 3 ≡ 7 → bit_at t 4 ≡ 0 → P 0x7B s t (VerifyBit (cv_of s) (part_of t 0 3) (bit_at t 3))
  pub write_bit : (s t : ℕ) → bit_at s 7 ≡ 1 → part_of t 5 3 ≡ 7 → bit_at t 4 ≡ 1 → P 0x7B s t (WriteBit (cv_of s) (part_of t 0 3) (bit_at t 3))
  pub position_high : (s t : ℕ) → s < 16 → P 0x88 s t (PositionHigh s)
  pub position_low : (s t : ℕ) → P 0x89 s t (PositionLow s)

-- a row that is met says it, or the rows after it do
pub row : {P : Type 0} (b : Bool) (x y : Option Command) (c : Command) → cond b x y ≡ Some c → (b ≡ true → x ≡ Some c → P) → (b ≡ false → y ≡ Some c → P) → P
row true x y c h f g = f refl h
row false x y c h f g = g refl h

pub never : {P : Type 0} (c : Command) → None ≡ Some c → P
never c h = let z : ◌≡◌ {A = ℕ} 0 1 = cc in let no_way : ⊥ = omega arith in absurd no_way

module _ (P : ℕ → ℕ → ℕ → Command → Type 0) (f k s t : ℕ) (c : Command) (e : eqb f k ≡ true) where
  -- what holds at the row's own first byte and command holds at those that met it
  met : (d : Command) → Some d ≡ Some c → P k s t d → P f s t c
  met d m p =
      let g : d ≡ c = cc in
      subst (λ (x : ℕ). P x s t c) (sym (eqb-true f k e)) (subst (λ (x : Command). P k s t x) g p)

  -- a CV packet says its command only with bit 7 set
  of_cv_lem : (d : Command) → of_cv (bit7 s) d ≡ Some c → (bit_at s 7 ≡ 1 → P k s t d) → P f s t c
  unfolding of_cv
  of_cv_lem d m p = row (eqb (bit_at s 7) 1) (Some d) None c m (λ b n. met d n (p (eqb-true (bit_at s 7) 1 b))) (λ n. never c)

pub by_rows : (P : ℕ → ℕ → ℕ → Command → Type 0) → Rows P → (f s t : ℕ) (c : Command) → said_by f s t ≡ Some c → P f s t c
unfolding said_by load_of bit_form position_high_of
by_rows P r f s t c h =
    row _ _ _ c h (λ e m. met P f 0x00 s t c e _ m (r.no_operation s t))
    (λ n h. row _ _ _ c h (λ e m. met P f 0x24 s t c e _ m (r.actual_speed s t))
    (λ n h. row _ _ _ c h (λ e m. met P f 0x25 s t c e _ m (r.wanted_speed s t))
    (λ n h. row _ _ _ c h (λ e m. row _ _ _ c m (λ l m. met P f 0x26 s t c e _ m (r.load s t (ltb-true s 128 l))) (λ n. never c))
    (λ n h. row _ _ _ c h (λ e m. met P f 0x5E s t c e _ m (r.address_low s t))
    (λ n h. row _ _ _ c h (λ e m. met P f 0x5F s t c e _ m (r.address_high s t))
    (λ n h. row _ _ _ c h (λ e m. met P f 0x60 s t c e _ m (r.functions_from_0 s t))
    (λ n h. row _ _ _ c h (λ e m. met P f 0x61 s t c e _ m (r.functions_from_5 s t))
    (λ n h. row _ _ _ c h (λ e m. met P f 0x62 s t c e _ m (r.functions_from_13 s t))
    (λ n h. row _ _ _ c h (λ e m. met P f 0x63 s t c e _ m (r.functions_from_21 s t))
    (λ n h. row _ _ _ c h (λ e m. met P f 0x6C s t c e _ m (r.control s t))
    (λ n h. row _ _ _ c h (λ e m. met P f 0x6D s t c e _ m (r.short_state s t))
    (λ n h. row _ _ _ c h (λ e m. met P f 0x6E s t c e _ m (r.long_low s t))
    (λ n h. row _ _ _ c h (λ e m. met P f 0x6F s t c e _ m (r.long_high s t))
    (λ n h. row _ _ _ c h (λ e m. met P f 0x01 s t c e _ m (r.call s t))
    (λ n h. row _ _ _ c h (λ e m. met P f 0x0C s t c e _ m (r.bank_read_1 s t))
    (λ n h. row _ _ _ c h (λ e m. met P f 0x0D s t c e _ m (r.bank_read_2 s t))
    (λ n h. row _ _ _ c h (λ e m. met P f 0x0E s t c e _ m (r.bank_read_3 s t))
    (λ n h. row _ _ _ c h (λ e m. met P f 0x0F s t c e _ m (r.read_cv s t))
    (λ n h. row _ _ _ c h (λ e m. of_cv_lem P f 0x77 s t c e _ m (r.verify_byte s t))
    (λ n h. row _ _ _ c h (λ e m. of_cv_lem P f 0x7F s t c e _ m (r.write_byte s t))
    (λ n h. row _ _ _ c h
    (λ e m. row _ _ _ c m
    (λ top m. row _ _ _ c m
    (λ k m. of_cv_lem P f 0x7B s t c e _ m (λ b. r.verify_bit s t b (eqb-true (part_of t 5 3) 7 top) (eqb-true (bit_at t 4) 0 k)))
    (λ k m. of_cv_lem P f 0x7B s t c e _ m (λ b. r.write_bit s t b (eqb-true (part_of t 5 3) 7 top) (is_1 t 4 (eqb-false (bit_at t 4) 0 k)))))
    (λ n. never c))
    (λ n h. row _ _ _ c h (λ e m. row _ _ _ c m (λ l m. met P f 0x88 s t c e _ m (r.position_high s t (omega (arith, leb-true s 15 l)))) (λ n. never c))
    (λ n h. row _ _ _ c h (λ e m. met P f 0x89 s t c e _ m (r.position_low s t))
    (λ n. never c))))))))))))))))))))))))
