use mathlib.Core.Path.{refl}
use Rattle.history.specs.History.{version_free}
use Rattle.history.proofs.History.version_free.Goals as goal

pub returns : goal.returns
unfolding version_free
returns c = refl
