-- A HALF IS HELD exactly if the kind of the one that is held is its own.
use Prim.Native.Nat.{ℕ, zero, suc}
use mathlib.Core.Bool.{true}
use mathlib.Core.Path.{◌≡◌, refl, sym, ◌∙◌, ap}
use borrow.Author.Tests.{eqb-true, eq-eqb}
use Rattle.board.specs.declared.record.Half.{Half}
use Rattle.board.specs.declared.record.Half.TheVariants.{NoHalf, AddressHalf, StateHalf, PositionHalf}
use Rattle.board.specs.declared.record.Module.{Module}
use Rattle.board.specs.Board.{kind_of, holds_half}

-- each kind has a number of its own
half_of : ℕ → Half
half_of zero = NoHalf
half_of (suc zero) = AddressHalf
half_of (suc (suc zero)) = StateHalf
half_of (suc (suc (suc n))) = PositionHalf

half_back : (half : Half) → half_of (kind_of half) ≡ half
unfolding half_of kind_of
half_back NoHalf = refl
half_back AddressHalf = refl
half_back StateHalf = refl
half_back PositionHalf = refl

module _ (m : Module) (half : Half) where
  pub held_is : holds_half m half ≡ true → m.half ≡ half
  unfolding holds_half
  held_is h = sym (half_back m.half) ∙ ap half_of (eqb-true _ _ h) ∙ half_back half

  pub is_held : m.half ≡ half → holds_half m half ≡ true
  unfolding holds_half
  is_held e = eq-eqb _ _ (ap kind_of e)
