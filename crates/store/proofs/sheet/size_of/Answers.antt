use native.Mathlib.Omega.{arith}
use Rattle.store.specs.Sheet.{size_of}
use Rattle.store.proofs.Sizes.{size_count}
use Rattle.store.proofs.sheet.size_of.Goals as goal

pub bounds-sizes-from : goal.bounds-sizes-from
bounds-sizes-from c = omega (arith, size_count _ c.requires, c.from.ensures)

pub returns : goal.returns
unfolding size_of
returns c = rw c.from.ensures
