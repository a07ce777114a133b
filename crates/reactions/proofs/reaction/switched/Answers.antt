use mathlib.Core.Path.{refl}
use Rattle.reactions.proofs.reaction.switched.Goals as goal

pub returns : goal.returns
returns c = rw (c.with_stateson.ensures, c.without_half.ensures) refl
