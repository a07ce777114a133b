use mathlib.Core.Path.{◌∙◌}
use native.Mathlib.Omega.{arith}
use Rattle.scenario.proofs.Numerals as laws
use Rattle.scenario.proofs.numbers.digit.Goals as goal

pub returns-in-48-to-57 : goal.returns-in-48-to-57
returns-in-48-to-57 c = laws.digit_some _ _ (laws.digit_0 _ (omega arith) (omega arith)) (omega arith)

pub returns-in-65-to-70 : goal.returns-in-65-to-70
returns-in-65-to-70 c = laws.digit_some _ _ (laws.digit_A _ (omega arith) (omega arith) ∙ omega arith) (omega arith)

pub returns-in-97-to-102 : goal.returns-in-97-to-102
returns-in-97-to-102 c = laws.digit_some _ _ (laws.digit_a _ (omega arith) (omega arith) ∙ omega arith) (omega arith)

pub returns-in_default : goal.returns-in_default
returns-in_default c = laws.no_digit _ (laws.below_0 _ (omega arith))

pub returns-in_default-2 : goal.returns-in_default-2
returns-in_default-2 c = laws.no_digit _ (laws.below_A _ (omega arith) (omega arith))

pub returns-in_default-3 : goal.returns-in_default-3
returns-in_default-3 c = laws.no_digit _ (laws.below_a _ (omega arith) (omega arith))

pub returns-in_default-4 : goal.returns-in_default-4
returns-in_default-4 c = laws.no_digit _ (laws.above_f _ (omega arith))
