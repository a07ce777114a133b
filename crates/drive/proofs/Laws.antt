-- What is kept of a drive, and what each command makes of it.
use Prim.Native.Nat.{ℕ, ◌+◌, ◌^◌, ◌≤◌, ◌<◌}
use mathlib.Core.Bool.{true, ◌&&◌}
use mathlib.Core.Logic.{◌⊎◌, ⊎_elim}
use mathlib.Core.Path.{◌≡◌, refl, sym, ◌∙◌}
use native.Mathlib.Nat.{lt_of_lt_of_le}
use native.Mathlib.Omega.{arith}
use lib.Pow.{pow_mono, pow_pos}
use lib.Dec.{leb, ltb, eqb, lit<}
use borrow.Author.Tests.{lt-ltb, le-leb, leb-true, ltb-true}
use Rattle.bits.specs.Bits.{bit_at}
use Rattle.bits.proofs.Parts.{none_there, with_below, with_above, with_inside, with_lt}
use Rattle.bits.proofs.Tests.{by, and_left, and_right}
use Rattle.ones.specs.Ones.{ones_among}
use Rattle.ones.proofs.Laws.{ones_are_bits}
use Rattle.drive.specs.declared.Drive.{Drive}
use Rattle.drive.specs.Drive.{restarted, with_actual, with_wanted, with_load, with_address, function_at, with_functions, with_control, drive_possible, functions_on}

-- what a possible drive keeps to
module _ (d : Drive) (h : drive_possible d ≡ true) where
  first_two : (leb d.load 127 && ltb d.functions (2 ^ 29)) ≡ true
  unfolding drive_possible
  first_two = and_left _ (leb d.control 3) h

  pub load_le : d.load ≤ 127
  load_le = leb-true _ _ (and_left _ (ltb d.functions (2 ^ 29)) first_two)

  pub functions_lt : d.functions < 2 ^ 29
  functions_lt = ltb-true _ _ (and_right (leb d.load 127) _ first_two)

  pub control_le : d.control ≤ 3
  unfolding drive_possible
  control_le = leb-true _ _ (and_right (leb d.load 127 && ltb d.functions (2 ^ 29)) _ h)

-- and a drive that keeps to it is possible
pub is_possible : (d : Drive) → d.load ≤ 127 → d.functions < 2 ^ 29 → d.control ≤ 3 → drive_possible d ≡ true
unfolding drive_possible
is_possible d l f c = simp (le-leb _ _ l, lt-ltb _ _ f, le-leb _ _ c)

-- a restart leaves a possible drive, and no command makes an impossible one
pub restarted_possible : drive_possible restarted ≡ true
unfolding drive_possible
restarted_possible = refl

module _ (d : Drive) (h : drive_possible d ≡ true) where
  pub actual_possible : (speed : ℕ) → drive_possible (with_actual d speed) ≡ true
  unfolding drive_possible
  actual_possible speed = h

  pub wanted_possible : (speed : ℕ) → drive_possible (with_wanted d speed) ≡ true
  unfolding drive_possible
  wanted_possible speed = h

  pub load_possible : (load : ℕ) → load < 128 → drive_possible (with_load d load) ≡ true
  load_possible load l = is_possible (with_load d load) (omega arith) (functions_lt d h) (control_le d h)

  pub address_possible : (low high : ℕ) → drive_possible (with_address d low high) ≡ true
  unfolding drive_possible
  address_possible low high = h

  pub functions_possible : (first width on : ℕ) → first + width ≤ 29 → on < 2 ^ width → drive_possible (with_functions d first width on) ≡ true
  functions_possible first width on group room =
      is_possible (with_functions d first width on) (load_le d h) (with_lt d.functions first width on room 29 group (functions_lt d h)) (control_le d h)

  pub control_possible : (control : ℕ) → control < 4 → drive_possible (with_control d control) ≡ true
  unfolding with_control
  control_possible control b =
      is_possible (with_control d control) (load_le d h)
      (by (eqb (bit_at control 1) 0) (λ e. rw e (lit< tt)) (λ e. rw e (functions_lt d h))) (omega arith)

-- a possible drive has no function above F28
pub none_above : (d : Drive) → drive_possible d ≡ true → (n : ℕ) → 29 ≤ n → function_at d n ≡ 0
none_above d h n a = none_there d.functions n 1 (lt_of_lt_of_le (functions_lt d h) (pow_mono a))

-- a group of functions, wherever it starts and however wide it is
module _ (d : Drive) (first width on : ℕ) (room : on < 2 ^ width) where
  -- each function inside is on exactly if its bit is 1
  pub inside : (k : ℕ) → k < width → function_at (with_functions d first width on) (first + k) ≡ bit_at on k
  inside k h = with_inside d.functions first width on room k 1 (omega arith)

  -- each function outside is as it was
  pub outside : (n : ℕ) → (n < first) ⊎ (first + width ≤ n) → function_at (with_functions d first width on) n ≡ function_at d n
  outside n =
      ⊎_elim (λ h. with_below d.functions first width on room n 1 (omega arith))
      (λ h. with_above d.functions first width on room n 1 h)

-- control with bit 1 clear leaves no function on; with bit 1 set all are as they were
pub control_off : (d : Drive) (control : ℕ) → bit_at control 1 ≡ 0 → (n : ℕ) → function_at (with_control d control) n ≡ 0
unfolding with_control
control_off d control e n = rw e (none_there 0 n 1 (pow_pos n))

pub control_on : (d : Drive) (control : ℕ) → bit_at control 1 ≡ 1 → (n : ℕ) → function_at (with_control d control) n ≡ function_at d n
unfolding with_control
control_on d control e n = rw e

-- the ones of the function word are the functions that are on: above F28 there are none
pub word_counted : (d : Drive) → drive_possible d ≡ true → ones_among (bit_at d.functions) 0 32 ≡ functions_on d
unfolding functions_on
word_counted d h =
    let thirty_two : 2 ^ 29 ≤ 2 ^ 32 = omega arith in
    sym (ones_are_bits 32 d.functions (lt_of_lt_of_le (functions_lt d h) thirty_two))
    ∙ ones_are_bits 29 d.functions (functions_lt d h)
