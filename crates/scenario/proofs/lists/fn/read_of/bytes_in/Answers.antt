use Rattle.scenario.specs.Statements.{is_byte_word}
use Rattle.scenario.proofs.lists.fn.read_of.bytes_in.Goals as goal

pub returns : goal.returns
unfolding is_byte_word
returns c = c.is_within.ensures
