-- `Module::holds_half` meets its contract: two kinds are the same where their numbers are.
use mathlib.Core.Path.{◌≡◌, refl, ◌∙◌}
use lib.Dec.{eqb}
use denote.Enum.Bare.{sameb}
use Rattle.board.specs.contracts.record.Half.{the_type}
use Rattle.board.specs.declared.record.Half.{Half}
use Rattle.board.specs.declared.record.Half.TheVariants.{NoHalf, AddressHalf, StateHalf, PositionHalf}
use Rattle.board.specs.Board.{kind_of, holds_half}
use Rattle.board.proofs.record.Module.holds_half.Goals as goal

same_kind : (one other : Half) → sameb the_type one other ≡ eqb (kind_of one) (kind_of other)
unfolding kind_of
same_kind NoHalf NoHalf = refl
same_kind NoHalf AddressHalf = refl
same_kind NoHalf StateHalf = refl
same_kind NoHalf PositionHalf = refl
same_kind AddressHalf NoHalf = refl
same_kind AddressHalf AddressHalf = refl
same_kind AddressHalf StateHalf = refl
same_kind AddressHalf PositionHalf = refl
same_kind StateHalf NoHalf = refl
same_kind StateHalf AddressHalf = refl
same_kind StateHalf StateHalf = refl
same_kind StateHalf PositionHalf = refl
same_kind PositionHalf NoHalf = refl
same_kind PositionHalf AddressHalf = refl
same_kind PositionHalf StateHalf = refl
same_kind PositionHalf PositionHalf = refl

pub returns : goal.returns
unfolding holds_half
returns c = c.eq.ensures ∙ same_kind _ _
