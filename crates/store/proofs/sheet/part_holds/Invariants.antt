use mathlib.Core.Bool.{true}
use mathlib.Core.Path.{◌≡◌}
use lib.ListN.{take}
use Rattle.std.specs.List.{list_all}
use Rattle.store.specs.Sheet.{size_holds}
use Rattle.store.proofs.sheet.part_holds.Given as goal

abbrev pub invariant-loop-size : goal.invariant-loop-size
invariant-loop-size l = list_all (λ size. size_holds l.first size) (take l.size-index l.part) ≡ true
