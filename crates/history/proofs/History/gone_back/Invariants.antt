use Prim.Native.Nat.{◌-◌}
use Rattle.history.proofs.Going.{Going}
use Rattle.history.proofs.History.gone_back.Given as goal

abbrev pub invariant-loop : goal.invariant-loop
invariant-loop l = Going l.initial.changes l.initial.store (l.initial.end - l.initial.counter) l.initial.reach l.changes l.store (l.end - l.counter) l.reach

abbrev pub decreases-loop : goal.decreases-loop
decreases-loop l = l.end - l.counter
