use Rattle.bits.proofs.Tests.{picks}
use Rattle.cells.specs.Settings.{effective_number}
use Rattle.cells.proofs.settings.Settings.module_number.Goals as goal

pub returns-then-self-eq0 : goal.returns-then-self-eq0
unfolding effective_number
returns-then-self-eq0 c = search picks

pub returns : goal.returns
unfolding effective_number
returns c = search picks
