use Prim.Native.Nat.{◌-◌}
use native.Mathlib.Omega.{arith}
use Rattle.history.specs.History.{bank_at, offset_at, before_at, newest_undone}
use Rattle.history.proofs.Kept.{changes_bytes}
use Rattle.history.proofs.undo_newest.Goals as goal

pub bounds-changes-at : goal.bounds-changes-at
bounds-changes-at c = omega (arith, changes_bytes _ c.requires.changes_value)

pub bounds-changes-at-2 : goal.bounds-changes-at-2
bounds-changes-at-2 c = omega (arith, changes_bytes _ c.requires.changes_value)

pub bounds-changes-at-3 : goal.bounds-changes-at-3
bounds-changes-at-3 c = omega (arith, changes_bytes _ c.requires.changes_value)

pub put_cell-requires : goal.put_cell-requires
unfolding bank_at offset_at
put_cell-requires c = rw c.from-at.ensures (c.requires.kept_within (c.args.reach - 1) (omega arith))

pub returns : goal.returns
unfolding newest_undone bank_at offset_at before_at
returns c = rw (c.put_change.ensures, c.put_cell.ensures, c.from-at.ensures)
