use Rattle.std.proofs.Common.{ℕ, ◌≡◌, refl, ◌∙◌, ap, eqb, Option, Some, None}
use Rattle.std.specs.Option.{option_eq}
use Rattle.cells.specs.Settings.{verify_byte_of, is_byte}
use Rattle.cells.proofs.settings.Settings.verify_byte.Goals as goal

compared : (read : Option ℕ) (value : ℕ) → option_eq eqb read (Some value) ≡ is_byte read value
unfolding is_byte
compared (Some byte) value = refl
compared None value = refl

pub returns : goal.returns
unfolding verify_byte_of
returns c = c.eq.ensures ∙ compared c.read.result c.args.value ∙ ap (λ (read : Option ℕ). is_byte read c.args.value) c.read.ensures
