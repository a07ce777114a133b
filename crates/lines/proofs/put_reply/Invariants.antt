use Rattle.lines.proofs.Spaced.{Replying}
use Rattle.lines.proofs.put_reply.Given as goal

abbrev pub invariant-loop-i : goal.invariant-loop-i
invariant-loop-i l = Replying l.initial.out l.at l.reply l.out l.i
