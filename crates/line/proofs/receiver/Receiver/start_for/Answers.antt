use Rattle.line.specs.Line.{clock_runs, start_for}
use Rattle.bits.proofs.Tests.{picks}
use Rattle.line.proofs.receiver.Receiver.start_for.Goals as goal

pub returns-then-self-eq0 : goal.returns-then-self-eq0
unfolding start_for clock_runs
returns-then-self-eq0 c = search picks

pub returns : goal.returns
unfolding start_for clock_runs
returns c = search picks
