use Rattle.bits.proofs.Tests.{picks}
use Rattle.line.specs.Line.{edge_refusal}
use Rattle.line.proofs.receiver.Receiver.edge_refusal.Goals as goal

pub returns-then-level-gt1 : goal.returns-then-level-gt1
unfolding edge_refusal
returns-then-level-gt1 c = search picks

pub returns-then-time-self : goal.returns-then-time-self
unfolding edge_refusal
returns-then-time-self c = search picks

pub returns : goal.returns
unfolding edge_refusal
returns c = search picks
