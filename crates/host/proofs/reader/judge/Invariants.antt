use Rattle.host.proofs.Walk.{Going}
use Rattle.host.proofs.reader.judge.Given as goal

abbrev pub invariant-loop-n : goal.invariant-loop-n
invariant-loop-n l = Going l.reply l.n
