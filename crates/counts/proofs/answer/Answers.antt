-- `counts::answer` meets its contract.
use Rattle.board.proofs.Parts.{apart}
use Rattle.counts.proofs.answer.Goals as goal

pub functions_on-requires : goal.functions_on-requires
functions_on-requires c = (apart c.args.kept c.requires).driven
