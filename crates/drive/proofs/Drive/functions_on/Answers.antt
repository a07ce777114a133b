-- `Drive::functions_on` meets its contract.
use mathlib.Core.Path.{◌∙◌}
use native.Mathlib.Omega.{arith}
use Rattle.ones.proofs.Laws.{bits_at_most}
use Rattle.drive.proofs.Laws.{word_counted}
use Rattle.drive.proofs.Drive.functions_on.Goals as goal

pub overflow_cast-result : goal.overflow_cast-result
overflow_cast-result c = omega (arith, c.of_word.ensures, bits_at_most c.args.self.functions 32)

pub returns : goal.returns
returns c = c.of_word.ensures ∙ word_counted c.args.self c.requires
