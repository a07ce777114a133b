use Rattle.board.specs.Board.{restarted_of}
use Rattle.board.proofs.record.Module.restarted.Goals as goal

pub returns : goal.returns
unfolding restarted_of
returns c = c.fresh_as.ensures
