-- A STEP OF PROOFS, no part of what the feed promises: edges as the receiver alone takes them, up to one that completes a packet, so
-- that a feed looks at the rest of the record once a packet.
use Rattle.std.specs.Prelude.{ℕ, ◌+◌, List, [], ◌∷◌, Bool, cond, ◌||◌, eqb, Option, Result, Ok, Err}
use Rattle.line.specs.declared.receiver.Receiver.{Receiver}
use Rattle.refusals.specs.declared.Refusal.{Refusal}
use Rattle.refusals.specs.Numbers.{paper_number}
use Rattle.line.specs.declared.packet.Packet.{Packet}
use Rattle.line.specs.Line.{Heard, packet_in, WholePacket, no_packet, is_pause, step_of, edge_refusal}
use Rattle.line.specs.Wire.{Edge}
use Rattle.board.specs.declared.record.Module.{Module}
use Rattle.board.specs.Board.{with_receiver, without_half}
use Rattle.module.specs.declared.listen.Listened as code

-- the receiver after some edges, whether one was a pause, how many are taken, the packet that the last completed (length 0: none), and
-- the refusal of the next, 2 or 3 (0: none)
pub record Listened : Type 0 where
  pub receiver : Receiver
  pub paused : Bool
  pub taken : ℕ
  pub packet : Packet
  pub refusal : ℕ

abbrev pub listened : Heard → Bool → ℕ → Listened
listened h paused n = record { receiver = h.receiver; paused = paused; taken = n; packet = h.packet; refusal = 0 }

-- no packet is complete: the end, or a bad edge
abbrev pub unheard : Receiver → Bool → ℕ → ℕ → Listened
unheard r paused n number = record { receiver = r; paused = paused; taken = n; packet = no_packet; refusal = number }

-- what the code gives. No two that are whole are said alike: law `listened_once`
abbrev pub listen_end : Receiver → Bool → ℕ → Result (Option Packet) Refusal → Listened
listen_end r paused n (Ok packet) = record { receiver = r; paused = paused; taken = n; packet = packet_in packet; refusal = 0 }
listen_end r paused n (Err why) = unheard r paused n (paper_number why)

abbrev pub listened_as : code.Listened → Listened
listened_as l = listen_end l.receiver l.paused l.taken l.end

abbrev pub WholeEnd : Result (Option Packet) Refusal → Type 0
WholeEnd (Ok packet) = WholePacket packet
WholeEnd (Err why) = Unit

-- n edges were taken before, and whether one of them was a pause
unfoldable pub listen_of : Receiver → Bool → ℕ → List Edge → Listened
listen_of r paused n [] = unheard r paused n 0
listen_of r paused n (e ∷ es) =
    cond (eqb (edge_refusal r e.time e.level) 0)
    (cond (eqb (step_of r e.time e.level).packet.length 0)
    (listen_of (step_of r e.time e.level).receiver (paused || is_pause r e.time) (n + 1) es)
    (listened (step_of r e.time e.level) (paused || is_pause r e.time) (n + 1)))
    (unheard r paused n (edge_refusal r e.time e.level))

-- the record with its receiver back: a pause dropped a held half
unfoldable pub after_listening : Module → Receiver → Bool → Module
after_listening m r paused = with_receiver (cond paused (without_half m) m) r
