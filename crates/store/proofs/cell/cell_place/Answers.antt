use Rattle.store.specs.Store.{cell_place}
use Rattle.store.proofs.cell.cell_place.Goals as goal

pub returns : goal.returns
unfolding cell_place
returns c = rw (c.from.ensures, c.from-2.ensures, c.from-3.ensures)
