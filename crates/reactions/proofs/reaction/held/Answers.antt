use mathlib.Core.Path.{refl}
use Rattle.reactions.proofs.reaction.held.Goals as goal

pub returns : goal.returns
returns c =
    rw c.with_half.ensures refl
