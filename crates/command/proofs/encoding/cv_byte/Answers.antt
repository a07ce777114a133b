use Rattle.command.specs.Saying.{cv_byte}
use mathlib.Core.Path.{refl}
use Rattle.command.proofs.encoding.cv_byte.Goals as goal

pub returns : goal.returns
unfolding cv_byte
returns c = refl
