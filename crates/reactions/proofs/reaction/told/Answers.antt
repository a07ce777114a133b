use mathlib.Core.Path.{refl}
use Rattle.reactions.proofs.reaction.told.Goals as goal

pub returns : goal.returns
returns c =
    rw (c.with_drive.ensures, c.without_half.ensures) refl
