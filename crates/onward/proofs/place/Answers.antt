use borrow.Author.Rules.{rules}
use Rattle.onward.proofs.place.Goals as goal

pub overflow_add-result : goal.overflow_add-result
overflow_add-result c = let h = rw c.in-BadEdge.is at c.requires in search rules

pub overflow_add-result-in-BadEdge : goal.overflow_add-result-in-BadEdge
overflow_add-result-in-BadEdge c = let h = rw c.in-BadEdge.is at c.requires in search rules

pub overflow_add-result-in-Acknowledged : goal.overflow_add-result-in-Acknowledged
overflow_add-result-in-Acknowledged c = let h = rw c.in-Acknowledged.is at c.requires in search rules

pub returns-in-BadEdge : goal.returns-in-BadEdge
returns-in-BadEdge c = rw c.in-BadEdge.is

pub returns-in-Acknowledged : goal.returns-in-Acknowledged
returns-in-Acknowledged c = rw c.in-Acknowledged.is
