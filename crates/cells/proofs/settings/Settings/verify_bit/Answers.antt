use mathlib.Core.Path.{sym, ◌∙◌}
use Rattle.cells.specs.Settings.{verify_bit_of, has_bit}
use Rattle.cells.proofs.settings.Settings.verify_bit.Goals as goal

pub returns-in-Some : goal.returns-in-Some
unfolding verify_bit_of has_bit
returns-in-Some c = rw (sym c.read.ensures ∙ c.in-Some.is, c.bit_at.ensures)

pub returns-in-None : goal.returns-in-None
unfolding verify_bit_of has_bit
returns-in-None c = rw (sym c.read.ensures ∙ c.in-None.is)
