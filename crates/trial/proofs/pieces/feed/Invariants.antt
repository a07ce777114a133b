use Rattle.std.proofs.Common.{◌-◌, ◌<◌}
use Rattle.trial.proofs.pieces.feed.Given as goal

abbrev pub invariant-loop-turn : goal.invariant-loop-turn
invariant-loop-turn l = 0 < l.n → l.at < l.n

abbrev pub decreases-loop-turn : goal.decreases-loop-turn
decreases-loop-turn l = l.n - l.at
