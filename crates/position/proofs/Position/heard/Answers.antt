use Rattle.position.specs.Position.{position_of}
use Rattle.position.proofs.Position.heard.Goals as goal

pub returns : goal.returns
unfolding position_of
returns c = simp (c.bit_at.ensures, c.part_of.ensures, c.from.ensures, c.from-2.ensures)
