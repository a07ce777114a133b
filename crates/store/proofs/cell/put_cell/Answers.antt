use native.Mathlib.Omega.{arith}
use Rattle.store.specs.Store.{with_cell}
use Rattle.store.proofs.cell.put_cell.Goals as goal

pub bounds-store-at : goal.bounds-store-at
bounds-store-at c =
    omega (arith, c.cell_place-at.ensures, c.requires)

pub returns : goal.returns
unfolding with_cell
returns c = rw c.cell_place-at.ensures
