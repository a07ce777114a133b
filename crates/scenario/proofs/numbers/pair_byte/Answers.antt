use native.Mathlib.Omega.{arith}
use mathlib.Core.Path.{◌∙◌, ap}
use Rattle.scenario.specs.Numbers.{pair_of}
use Rattle.scenario.proofs.Numerals as laws
use Rattle.scenario.proofs.numbers.pair_byte.Goals as goal

pub overflow_cast-result : goal.overflow_cast-result
overflow_cast-result c = rw (c.unwrap_or.ensures, laws.else_0, c.pair.ensures) (omega (arith, laws.pair_small c.word.result.now))

pub returns : goal.returns
returns c = c.unwrap_or.ensures ∙ laws.else_0 c.pair.result ∙ ap (λ n. n.value) (c.pair.ensures ∙ ap pair_of c.word.ensures)
