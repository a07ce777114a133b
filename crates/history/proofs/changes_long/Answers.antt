use mathlib.Core.Path.{refl}
use Rattle.history.specs.History.{changes_long}
use Rattle.history.proofs.changes_long.Goals as goal

pub returns : goal.returns
unfolding changes_long
returns c = refl
