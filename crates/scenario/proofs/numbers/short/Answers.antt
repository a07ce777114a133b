use native.Mathlib.Omega.{arith}
use Rattle.scenario.specs.Words.{words_of, word_at}
use Rattle.scenario.proofs.Numerals as laws
use Rattle.scenario.proofs.numbers.short.Goals as goal

pub overflow_cast-result : goal.overflow_cast-result
overflow_cast-result c = omega (arith, c.value.ensures, laws.value_le 65535 (word_at (words_of c.args.line.now) c.args.k))
