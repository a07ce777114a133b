use Rattle.host.specs.Encode.{encoded_of}
use mathlib.Core.Path.{sym, ◌∙◌}
use Rattle.host.proofs.encoder.encode.Goals as goal

pub packet-requires : goal.packet-requires
packet-requires c = sym c.has_room.ensures ∙ c.if-has_room.true

pub returns-then-has_room : goal.returns-then-has_room
unfolding encoded_of
returns-then-has_room c = simp (sym c.has_room.ensures ∙ c.if-has_room.true, c.packet.ensures)

pub returns-else-has_room : goal.returns-else-has_room
unfolding encoded_of
returns-else-has_room c = simp (sym c.has_room.ensures ∙ c.if-has_room.false)
