-- One byte more, on a board whose receiver is r: it is held, or it completes a packet, which has a line.
use Prim.Native.Nat.{ℕ}
use mathlib.Core.List.{List, ◌∷◌}
use mathlib.Core.Path.{◌≡◌}
use borrow.Author.Tests.{eq-eqb, ne_eqb}
use Rattle.line.specs.declared.receiver.Receiver.{Receiver}
use Rattle.line.specs.Line.{Heard, byte_of}
use Rattle.store.specs.Sheet.{Sheets}
use Rattle.bank.specs.Reply.{at_front}
use Rattle.board.specs.Board.{Board}
use Rattle.reactions.specs.Reactions.{receiving}
use Rattle.effects.specs.Effects.{packet_effect}
use Rattle.effects.proofs.Moved.{packet_moved}
use Rattle.module.specs.Edge.{heard_effect}
use Rattle.lines.specs.Lines.{line_of}
use Rattle.lines.specs.Taken.{following, lined, taken_of}

module _ (b : Board) (r : Receiver) (sheets : Sheets) (room : List ℕ) (byte : ℕ) (bytes : List ℕ) (s : Heard) (heard : s ≡ byte_of r byte) where
  pub held_on : s.packet.length ≡ 0 → taken_of (receiving b r) sheets room (byte ∷ bytes) ≡ taken_of (receiving b s.receiver) sheets room bytes
  unfolding taken_of lined heard_effect
  held_on z = rw (← heard) (simp (eq-eqb _ _ z))

  -- what the packet does with the receiver in its place, it does with the receiver apart
  pub spoken : (s.packet.length ≡ 0 → ⊥)
      → taken_of (receiving b r) sheets room (byte ∷ bytes)
      ≡ following (line_of (packet_effect b sheets s.packet).acknowledged (packet_effect b sheets s.packet).reply)
      (taken_of (receiving (packet_effect b sheets s.packet).board s.receiver) sheets (at_front (packet_effect b sheets s.packet).reply room) bytes)
  unfolding taken_of lined heard_effect
  spoken n = rw (← heard) (simp (ne_eqb _ _ n, packet_moved b s.receiver sheets s.packet))
