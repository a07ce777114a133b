use Rattle.board.proofs.record.fresh_as.Goals as goal

pub returns : goal.returns
returns c = cc
