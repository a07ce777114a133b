use mathlib.Core.Path.{refl}
use Rattle.reactions.proofs.reaction.nothing.Goals as goal

pub returns : goal.returns
returns c =
    rw c.without_half.ensures refl
