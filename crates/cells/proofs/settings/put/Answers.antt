use Prim.Native.Nat.{ℕ}
use mathlib.Core.List.{List}
use mathlib.Core.Path.{◌≡◌, refl}
use Rattle.cells.specs.declared.role.Role.{Role}
use Rattle.cells.specs.declared.role.Role.TheVariants.{Number, Wait, Bank, Zero, Own, NotHere}
use Rattle.cells.specs.Settings.{store_after}
use Rattle.cells.proofs.settings.put.Goals as goal

-- a CV that is no own cell has no byte in the store
elsewhere : (role : Role) (bank value : ℕ) (store : List ℕ) → ((offset : ℕ) → role ≡ Own offset → ⊥) → store ≡ store_after role bank value store
unfolding store_after
elsewhere Number bank value store h = refl
elsewhere Wait bank value store h = refl
elsewhere Bank bank value store h = refl
elsewhere Zero bank value store h = refl
elsewhere (Own offset) bank value store h = absurd (h offset refl)
elsewhere NotHere bank value store h = refl

pub put_cell-requires : goal.put_cell-requires
put_cell-requires c = c.requires _ c.in-Own.is

pub returns-in-Own : goal.returns-in-Own
unfolding store_after
returns-in-Own c = rw c.in-Own.is c.put_cell.ensures

pub returns-in_default : goal.returns-in_default
returns-in_default c = elsewhere _ _ _ _ c.in_default.not-Own
