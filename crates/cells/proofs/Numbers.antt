-- What possible settings hold, and the number that a module goes by.
use Prim.Native.Nat.{◌≤◌, ◌<◌}
use mathlib.Core.Bool.{true}
use mathlib.Core.Path.{◌≡◌}
use native.Mathlib.Omega.{arith}
use lib.Dec.{leb, eqb}
use borrow.Author.Tests.{leb-true, eqb-false}
use Rattle.bits.proofs.Tests.{by, and_left, and_right}
use Rattle.cells.specs.declared.settings.Settings.{Settings}
use Rattle.cells.specs.Settings.{settings_possible, effective_number}

-- CV 897 is at most 3, and CV 1020 at most 1
pub number_le : (s : Settings) → settings_possible s ≡ true → s.number ≤ 3
unfolding settings_possible
number_le s h = leb-true _ _ (and_left (leb s.number 3) (leb s.wait 1) h)

pub wait_le : (s : Settings) → settings_possible s ≡ true → s.wait ≤ 1
unfolding settings_possible
wait_le s h = leb-true _ _ (and_right (leb s.number 3) (leb s.wait 1) h)

-- the number that a module goes by is no 0
pub number_from : (s : Settings) → 0 < effective_number s
unfolding effective_number
number_from s = by (eqb s.number 0) (λ e. rw e (omega arith)) (λ e. rw e (let n : s.number ≡ 0 → ⊥ = eqb-false _ _ e in omega arith))

-- and at most 3 where the settings are possible
pub number_to : (s : Settings) → settings_possible s ≡ true → effective_number s ≤ 3
unfolding effective_number
number_to s h = by (eqb s.number 0) (λ e. rw e (omega arith)) (λ e. rw e (number_le s h))
