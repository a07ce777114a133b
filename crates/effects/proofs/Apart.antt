-- A second half does not look at the buffers that it leaves alone.
use Prim.Native.Nat.{ℕ}
use mathlib.Core.List.{List, []}
use mathlib.Core.Path.{◌≡◌}
use Rattle.bits.proofs.Tests.{by}
use Rattle.board.specs.declared.record.Half.TheVariants.{AddressHalf, StateHalf, PositionHalf}
use Rattle.board.specs.declared.record.Module.{Module}
use Rattle.board.specs.Board.{board_of, holds_half}
use Rattle.reactions.specs.Reactions.{second_half, address_effect, long_effect, position_low_effect, reaction_of, left, leaves}

module _ (m : Module) (states store room : List ℕ) (high : ℕ) where
  pub address_apart : left (reaction_of (address_effect (board_of m [] []) high)) states store room ≡ leaves (address_effect (board_of m states store) high) room
  unfolding second_half
  address_apart = by (holds_half m AddressHalf) (λ e. rw e) (λ e. rw e)

  pub long_apart : left (reaction_of (long_effect (board_of m states []) high)) (long_effect (board_of m states []) high).board.states store room
      ≡ leaves (long_effect (board_of m states store) high) room
  unfolding second_half
  long_apart = by (holds_half m StateHalf) (λ e. rw e) (λ e. rw e)

pub position_apart : (m : Module) (states store room : List ℕ) (low : ℕ)
    → left (reaction_of (position_low_effect (board_of m [] []) low)) states store room ≡ leaves (position_low_effect (board_of m states store) low) room
unfolding second_half
position_apart m states store room low = by (holds_half m PositionHalf) (λ e. rw e) (λ e. rw e)
