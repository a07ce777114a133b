use mathlib.Core.Path.{refl}
use Rattle.reactions.proofs.reaction.verified.Goals as goal

pub returns-then-is : goal.returns-then-is
returns-then-is c = rw (c.without_half.ensures, c.if-is.true) refl

pub returns-else-is : goal.returns-else-is
returns-else-is c = rw (c.without_half.ensures, c.if-is.false) refl
