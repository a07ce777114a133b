use mathlib.Core.Path.{refl}
use Rattle.reactions.proofs.reaction.written.Goals as goal

pub returns-then-done : goal.returns-then-done
returns-then-done c = rw (c.with_settings.ensures, c.without_half.ensures, c.if-done.true) refl

pub returns-else-done : goal.returns-else-done
returns-else-done c = rw (c.with_settings.ensures, c.without_half.ensures, c.if-done.false) refl
