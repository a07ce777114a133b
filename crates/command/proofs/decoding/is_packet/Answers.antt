use borrow.Author.Tests.{ne_eqb, eq-eqb}
use mathlib.Core.Path.{sym, ◌∙◌}
use Rattle.command.specs.Meaning.{is_packet}
use Rattle.command.proofs.decoding.is_packet.Goals as goal

pub returns-then-packet-eq-LONG : goal.returns-then-packet-eq-LONG
unfolding is_packet
returns-then-packet-eq-LONG c = simp (eq-eqb _ _ (c.if-packet-packet_length.true ∙ c.packet_length.ensures), eq-eqb _ _ c.if-packet-eq-LONG.true)

pub returns-else-packet-eq-LONG : goal.returns-else-packet-eq-LONG
unfolding is_packet
returns-else-packet-eq-LONG c = simp (eq-eqb _ _ (c.if-packet-packet_length.true ∙ c.packet_length.ensures), ne_eqb _ _ c.if-packet-eq-LONG.false)

pub returns-else-packet-packet_length : goal.returns-else-packet-packet_length
unfolding is_packet
returns-else-packet-packet_length c = simp (ne_eqb _ _ (λ e. c.if-packet-packet_length.false (e ∙ sym c.packet_length.ensures)), ne_eqb _ _ c.if-packet-packet_length.false)
