use Rattle.module.proofs.Listening.{Going}
use Rattle.module.proofs.listen.listen.Given as goal

abbrev pub invariant-loop-i : goal.invariant-loop-i
invariant-loop-i l = Going l.times l.levels l.initial.receiver l.initial.i l.receiver l.paused l.i
