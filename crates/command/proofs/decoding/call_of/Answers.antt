use Rattle.command.specs.Meaning.{call_said}
use Rattle.command.proofs.decoding.call_of.Goals as goal

pub returns : goal.returns
unfolding call_said
returns c = simp (c.part_of-module.ensures, c.bit_at-forced.ensures, c.part_of-status.ensures)
