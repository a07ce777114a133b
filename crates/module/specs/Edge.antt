-- ONE EDGE of a recording: what is dropped if it is a pause, its bit, and the packet that it completes, if any.
use Rattle.std.specs.Prelude.{ℕ, cond, eqb}
use Rattle.line.specs.Line.{Heard}
use Rattle.line.specs.Line.{bit_of, edge_refusal}
use Rattle.line.specs.Wire.{Edge}
use Rattle.store.specs.Sheet.{Sheets}
use Rattle.board.specs.declared.record.Module.{Module}
use Rattle.board.specs.Board.{Board, after_gap}
use Rattle.reactions.specs.Reactions.{Effect, silently, with_kept, receiving}
use Rattle.effects.specs.Effects.{packet_effect}

-- 2 or 3, or 0 for a good edge
abbrev pub bad_edge : Module → Edge → ℕ
bad_edge m e = edge_refusal m.receiver e.time e.level

-- what the receiver makes of an edge: its time is noted, and its bit is heard
abbrev pub heard_at : Board → Edge → Heard
heard_at b e = bit_of (after_gap b.kept e.time).receiver e.level

-- the board that a packet which the edge completes acts on
abbrev pub board_at : Board → Edge → Board
board_at b e = receiving (with_kept b (after_gap b.kept e.time)) (heard_at b e).receiver

-- a bit was heard: no packet is complete and nothing else changes, or one is, and has its effect
unfoldable pub heard_effect : Board → Sheets → Heard → Effect
heard_effect b sheets h =
    cond (eqb h.packet.length 0) (silently (receiving b h.receiver)) (packet_effect (receiving b h.receiver) sheets h.packet)

-- a good edge
unfoldable pub edge_effect : Board → Sheets → Edge → Effect
edge_effect b sheets e = heard_effect (with_kept b (after_gap b.kept e.time)) sheets (heard_at b e)
