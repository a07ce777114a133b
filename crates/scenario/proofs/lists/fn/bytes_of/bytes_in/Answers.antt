use mathlib.Core.Path.{◌∙◌, ap}
use Rattle.scenario.specs.Numbers.{pair_of}
use Rattle.scenario.specs.Statements.{is_byte_word}
use Rattle.scenario.proofs.Numerals.{there}
use Rattle.scenario.proofs.lists.fn.bytes_of.bytes_in.Goals as goal

pub returns : goal.returns
unfolding is_byte_word
returns c = c.is_some.ensures ∙ there _ ∙ ap (λ n. n.good) (c.pair.ensures ∙ ap pair_of c.word.ensures)
