use Prim.Native.Nat.{◌-◌}
use lib.ListN.{length}
use Rattle.store.specs.Sheet.{sheets_of}
use Rattle.module.proofs.Running.{Running}
use Rattle.module.proofs.feeding.run.Given as goal

abbrev pub invariant-loop-completed : goal.invariant-loop-completed
invariant-loop-completed l = Running l.times l.levels (sheets_of l.sheets.sizes.now l.sheets.fixed.now) l.initial.kept l.initial.states l.initial.store l.initial.room l.kept l.states l.store l.room l.taken

abbrev pub decreases-loop-completed : goal.decreases-loop-completed
decreases-loop-completed l = length l.times - l.taken
