use Rattle.board.specs.Board.{half_possible}
use Rattle.board.proofs.record.half_possible.Goals as goal

pub returns-in-NoHalf : goal.returns-in-NoHalf
unfolding half_possible
returns-in-NoHalf c = rw c.in-NoHalf.is

pub returns-in-AddressHalf : goal.returns-in-AddressHalf
unfolding half_possible
returns-in-AddressHalf c = rw c.in-AddressHalf.is

pub returns-in-StateHalf : goal.returns-in-StateHalf
unfolding half_possible
returns-in-StateHalf c = rw c.in-StateHalf.is

pub returns-in-PositionHalf : goal.returns-in-PositionHalf
unfolding half_possible
returns-in-PositionHalf c = rw c.in-PositionHalf.is
