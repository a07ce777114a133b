use Rattle.line.specs.Line.{clock_runs, clock_possible}
use Rattle.bits.proofs.Tests.{picks}
use Rattle.line.proofs.receiver.clock_possible.Goals as goal

pub returns-then-receiver-eq0-2 : goal.returns-then-receiver-eq0-2
unfolding clock_possible clock_runs
returns-then-receiver-eq0-2 c = search picks

pub returns-else-receiver-eq0-2 : goal.returns-else-receiver-eq0-2
unfolding clock_possible clock_runs
returns-else-receiver-eq0-2 c = search picks

pub returns : goal.returns
unfolding clock_possible clock_runs
returns c = search picks
