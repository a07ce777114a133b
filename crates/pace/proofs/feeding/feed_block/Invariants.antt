use Rattle.std.proofs.Common.{◌-◌, ◌≤◌}
use Rattle.pace.proofs.feeding.feed_block.Given as goal

abbrev pub invariant-loop-at : goal.invariant-loop-at
invariant-loop-at l = l.at ≤ l.n

abbrev pub decreases-loop-at : goal.decreases-loop-at
decreases-loop-at l = l.n - l.at
