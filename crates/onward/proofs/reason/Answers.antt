use Rattle.onward.proofs.reason.Goals as goal

pub returns-in-BadEdge : goal.returns-in-BadEdge
returns-in-BadEdge c = rw c.in-BadEdge.is

pub returns-in-Acknowledged : goal.returns-in-Acknowledged
returns-in-Acknowledged c = rw c.in-Acknowledged.is
