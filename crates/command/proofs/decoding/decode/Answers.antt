use Rattle.command.specs.Meaning.{meaning_of}
use mathlib.Core.Path.{sym, ◌∙◌}
use Rattle.command.proofs.decoding.decode.Goals as goal

pub returns-then-not-is_packet : goal.returns-then-not-is_packet
unfolding meaning_of
returns-then-not-is_packet c = simp (sym c.is_packet.ensures ∙ c.if-not-is_packet.true)

pub returns : goal.returns
unfolding meaning_of
returns c = simp (sym c.is_packet.ensures ∙ c.if-not-is_packet.false) c.said_by.ensures
