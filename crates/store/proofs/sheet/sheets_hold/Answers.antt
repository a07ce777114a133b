use mathlib.Core.Path.{sym, ◌∙◌}
use native.Mathlib.Omega.{arith}
use Rattle.store.specs.Sheet.{version_holds, sheets_hold}
use Rattle.store.proofs.Sizes.{fixed_bytes}
use Rattle.store.proofs.sheet.sheets_hold.Goals as goal

pub bounds-sheets-1 : goal.bounds-sheets-1
bounds-sheets-1 c = omega (arith, fixed_bytes _ c.requires.fixed_value)

pub returns-then-sizes_hold : goal.returns-then-sizes_hold
unfolding sheets_hold version_holds
returns-then-sizes_hold c = simp (sym c.sizes_hold.ensures ∙ c.if-sizes_hold.true)

pub returns-else-sizes_hold : goal.returns-else-sizes_hold
unfolding sheets_hold
returns-else-sizes_hold c = simp (sym c.sizes_hold.ensures ∙ c.if-sizes_hold.false, c.if-sizes_hold.false)
