use Prim.Native.Nat.{◌+◌, ◌-◌, ◌*◌}
use native.Mathlib.Omega.{arith}
use borrow.Author.Tests.{lt-leb, le-leb}
use Rattle.cells.specs.Roles.{owns}
use Rattle.cells.proofs.role.owned.Goals as goal

pub returns-then-past-cv : goal.returns-then-past-cv
unfolding owns
returns-then-past-cv c = simp (le-leb (900 + 40 * (c.args.number - 1)) c.args.cv (omega arith), c.shift-past.ensures)

pub returns-else-past-cv : goal.returns-else-past-cv
unfolding owns
returns-else-past-cv c = simp (lt-leb (900 + 40 * (c.args.number - 1)) c.args.cv (omega arith), c.shift-past.ensures)
