-- A second half acts, its own first half being held, or does nothing.
use mathlib.Core.Path.{◌≡◌}
use Rattle.bits.proofs.Tests.{by}
use Rattle.board.specs.declared.record.Half.{Half}
use Rattle.board.specs.Board.{Board, holds_half}
use Rattle.board.proofs.Halves.{held_is}
use Rattle.reactions.specs.Reactions.{Effect, no_effect, second_half}

pub second_half_lem : (b : Board) (half : Half) (acts : Effect) (P : Effect → Type 0)
    → P (no_effect b) → (b.kept.half ≡ half → P acts) → P (second_half b half acts)
unfolding second_half
second_half_lem b half acts P nothing acting =
    by (holds_half b.kept half) (λ e. rw e (acting (held_is b.kept half e))) (λ e. rw e nothing)
