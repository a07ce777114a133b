-- C-12, "Where am I?": a record whose fields are the request's sentences. proofs/WhereAmI.antt shows that it holds. (That the module reads
-- both commands as the host encodes them stands in demand 2; that a recording fed in any pieces is as the whole, in demand 3: no text of
-- theirs moved.)
use Rattle.std.specs.Prelude.{ℕ, ◌+◌, ◌*◌, ◌%◌, ◌≤◌, ◌<◌, Bool, true, false, cond, ◌&&◌, ◌↔◌, ◌⊎◌, ◌≡◌, leb, eqb, Option, Some, None}
use mathlib.Core.List.{List, [], ◌∷◌, ◌++◌, flatten}
use Rattle.line.specs.declared.packet.Packet.{Packet}
use Rattle.line.specs.declared.receiver.Receiver.{Receiver}
use Rattle.line.specs.Line.{no_packet, packet_of2, idle_at, is_pause, byte_of, step_of}
use Rattle.line.specs.Wire.{Edge, edges_of, levels_of, last_of, RightEdges}
use Rattle.command.specs.declared.Command.TheVariants.{PositionHigh, PositionLow}
use Rattle.command.specs.Meaning.{byte_at}
use Rattle.position.specs.declared.Position.{Position}
use Rattle.position.specs.Position.{position_at}
use Rattle.store.specs.Sheet.{Sheets}
use Rattle.host.specs.Encode.{Encoded, EncodePromise}
use Rattle.board.specs.declared.record.Half.TheVariants.{PositionHalf}
use Rattle.board.specs.declared.record.Module.{Module}
use Rattle.board.specs.Board.{Board, with_receiver, with_position, without_half, holds_half, module_possible}
use Rattle.reactions.specs.Reactions.{with_kept}
use Rattle.effects.specs.Frames.{SetsPosition}
use Rattle.module.specs.Application.{Kept, Restart, RestartPromise, PostPromise, StatusPromise, WaitPromise}
use Rattle.module.specs.Feed.{FeedOutcome, paper_of, FeedPromise}
use Rattle.module.specs.Whole.{Story, whole_of}
use Rattle.lines.specs.Taken.{Text, AfterBlock, WritePromise}
use Rattle.demands.specs.Frames.{OnlyBy}
use Rattle.demands.specs.Pieces.{Good, LongRooms, Feeds}
use Rattle.demands.specs.OldDecoders.{passed_by}
use Rattle.demands.specs.Sending.{first_of, NothingHeldAt, TwoBytesLater, PairTimes, last_time}

-- a packet of two bytes as edges, 16 of them
abbrev pub edges_of_two : ℕ → ℕ → List ℕ → List Edge
edges_of_two first second times = edges_of times (levels_of (first ∷ second ∷ []))

-- 0x88 and its data, then 0x89 and its data
abbrev pub both_sent : ℕ → ℕ → List ℕ → List ℕ → List Edge
both_sent high low before after = edges_of_two 0x88 high before ++ edges_of_two 0x89 low after

-- source 001: A10 to A8 in bits 2 to 0 of the high byte, "+8" for an extended address; A7 to A0 in the low one
abbrev pub sent_position : ℕ → ℕ → Option Position
sent_position high low = Some (position_at (256 * (high % 8) + low) (leb 8 high))

-- the board after both: the receiver holds nothing, no half is held, the position is this one; all else is as it was
abbrev pub located_at : Board → ℕ → Option Position → Board
located_at b time p = with_kept b (with_position (without_half (with_receiver b.kept (idle_at time))) p)

-- no high half of a position is held when an edge comes at this time: none is held, or the edge is a pause
abbrev pub NoHighAt : Board → ℕ → Type 0
NoHighAt b time = (b.kept.half ≡ PositionHalf → ⊥) ⊎ (is_pause b.kept.receiver time ≡ true)

-- WHAT IS HEARD of a recording by the receiver alone: packets, and pauses, wherever they come
pub data Event : Type 0 where
  paused : Event
  completed : Packet → Event

unfoldable pub pause_if : Bool → List Event → List Event
pause_if is events = cond is (paused ∷ events) events

unfoldable pub packet_if : Packet → List Event → List Event
packet_if p events = cond (eqb p.length 0) events (completed p ∷ events)

unfoldable pub events_of : Receiver → List Edge → List Event
events_of r [] = []
events_of r (e ∷ es) =
    let step = step_of r e.time e.level in
    pause_if (is_pause r e.time) (packet_if step.packet (events_of step.receiver es))

-- and of whole bytes, which have no times and so no pauses
unfoldable pub events_of_bytes : Receiver → List ℕ → List Event
events_of_bytes r [] = []
events_of_bytes r (byte ∷ bytes) = packet_if (byte_of r byte).packet (events_of_bytes (byte_of r byte).receiver bytes)

-- THE POSITION BY NEIGHBOURS ALONE, which knows no halves: each packet and the next, if no pause is between them, are looked at: 0x88 with
-- at most 15, and directly behind it 0x89. `one` is the packet before
abbrev pub is_high : Packet → Bool
is_high p = eqb (byte_at p 0) 0x88 && leb (byte_at p 1) 15

abbrev pub is_low : Packet → Bool
is_low p = eqb (byte_at p 0) 0x89

unfoldable pub of_neighbours : Option Position → Packet → Packet → Option Position
of_neighbours p one next = cond (is_high one && is_low next) (sent_position (byte_at one 1) (byte_at next 1)) p

unfoldable pub position_after : Option Position → Packet → List Event → Option Position
position_after p one [] = p
position_after p one (paused ∷ events) = position_after p no_packet events
position_after p one (completed next ∷ events) = position_after (of_neighbours p one next) next events

-- before a recording: the packet of which a record holds a position's high half, or none
unfoldable pub packet_before : Module → Packet
packet_before m = cond (holds_half m PositionHalf) (packet_of2 0x88 m.halfbyte) no_packet

-- a position's high half is held, and all else of the record is right; a position is there, and all else is right
abbrev pub RightButHighHalf : Module → Type 0
RightButHighHalf m = (m.half ≡ PositionHalf) × (module_possible (without_half m) ≡ true)

abbrev pub RightButPosition : Module → ℕ → Bool → Type 0
RightButPosition m address extended = (m.position ≡ Some (position_at address extended)) × (module_possible (with_position m None) ≡ true)

pub record C12 : Type 0 where
  -- "0x88 followed directly by 0x89": with any gap that is no pause the position is heard, "bits A10 to A0 and the extended mark"; nothing
  -- is answered, no half is held, nothing else changes, and whatever follows finds the board so. Of a whole recording, and through the feed
  -- in any pieces
  pub pair_heard : (b : Board) (sheets : Sheets) (n high low : ℕ) (before after : List ℕ) → high ≤ 15 → low < 256
      → NothingHeldAt b (first_of b.kept.receiver.last before) → PairTimes b before after → (rest : List Edge)
      → whole_of b sheets n (both_sent high low before after ++ rest)
      ≡ whole_of (located_at b (last_time b before after) (sent_position high low)) sheets (n + 32) rest
  pub pair_in_pieces : (b : Board) (sheets : Sheets) → Good b sheets → (high low : ℕ) (before after : List ℕ) → high ≤ 15 → low < 256
      → NothingHeldAt b (first_of b.kept.receiver.last before) → PairTimes b before after → (rest : List Edge)
      → (rooms : ℕ → List ℕ) → LongRooms rooms → (pieces : List (List Edge)) → flatten pieces ≡ both_sent high low before after ++ rest
      → (spares : Bool) (s : Story) → Feeds spares sheets rooms b pieces s
      → s ≡ whole_of (located_at b (last_time b before after) (sent_position high low)) sheets 32 rest
  -- "The same dropping rules apply." With a pause between, at the first edge of 0x89, the position stays, and no half is held
  pub pause_between : (b : Board) (sheets : Sheets) (n high low : ℕ) (before after : List ℕ) → high ≤ 15 → low < 256
      → NothingHeldAt b (first_of b.kept.receiver.last before) → TwoBytesLater b.kept.receiver before
      → let at = idle_at (last_of b.kept.receiver.last before) in
      TwoBytesLater at after → is_pause at (first_of at.last after) ≡ true → (rest : List Edge)
      → whole_of b sheets n (both_sent high low before after ++ rest)
      ≡ whole_of (located_at b (last_time b before after) b.kept.position) sheets (n + 32) rest
  -- a pause anywhere, any completed command between, and whatever else comes: after any right edges, from any possible record, the position
  -- is that of neighbours alone. Of a whole recording, and through the feed in any pieces
  pub by_neighbours : (b : Board) (sheets : Sheets) (n : ℕ) (es : List Edge) → module_possible b.kept ≡ true
      → RightEdges b.kept.receiver.last es
      → (whole_of b sheets n es).board.kept.position
      ≡ position_after b.kept.position (packet_before b.kept) (events_of b.kept.receiver es)
  pub neighbours_in_pieces : (b : Board) (sheets : Sheets) → Good b sheets → (es : List Edge) → RightEdges b.kept.receiver.last es
      → (rooms : ℕ → List ℕ) → LongRooms rooms → (pieces : List (List Edge)) → flatten pieces ≡ es
      → (spares : Bool) (s : Story) → Feeds spares sheets rooms b pieces s
      → s.board.kept.position ≡ position_after b.kept.position (packet_before b.kept) (events_of b.kept.receiver es)
  -- "with data over 15 ignored": 0x88 means nothing then, and drops a held half, of whatever kind; so does 0x89 without its high half. All
  -- else is as it was (`passed_by`, of C-02)
  pub over_15 : (b : Board) (sheets : Sheets) (n high : ℕ) (times : List ℕ) → 15 < high → high < 256
      → NothingHeldAt b (first_of b.kept.receiver.last times) → TwoBytesLater b.kept.receiver times → (rest : List Edge)
      → whole_of b sheets n (edges_of_two 0x88 high times ++ rest) ≡ whole_of (passed_by b times) sheets (n + 16) rest
  pub low_alone : (b : Board) (sheets : Sheets) (n low : ℕ) (times : List ℕ) → low < 256
      → NoHighAt b (first_of b.kept.receiver.last times)
      → NothingHeldAt b (first_of b.kept.receiver.last times) → TwoBytesLater b.kept.receiver times → (rest : List Edge)
      → whole_of b sheets n (edges_of_two 0x89 low times ++ rest) ≡ whole_of (passed_by b times) sheets (n + 16) rest
  -- bytes without times (the bench's): the same
  pub write_neighbours : (b : Board) (sheets : Sheets) (room out bytes : List ℕ) (l : AfterBlock) (k : ℕ)
      → WritePromise b sheets room out bytes l → l.given.answer ≡ Text k
      → l.given.kept.position ≡ position_after b.kept.position (packet_before b.kept) (events_of_bytes b.kept.receiver bytes)
  -- of commands only 0x89, where its high half is held, changes the position, in a recording and in a call; of the application's calls
  -- only a restart
  pub position_only : (sheets : Sheets)
      → OnlyBy (λ (b : Board). b.kept.position) (λ (b : Board). SetsPosition b.kept.half) sheets
  pub post_leaves : (m : Module) (message : List ℕ) (a : Kept) → PostPromise m message a → a.kept.position ≡ m.position
  pub status_leaves : (m : Module) (number value : ℕ) (a : Kept) → StatusPromise m number value a → a.kept.position ≡ m.position
  pub wait_leaves : (m : Module) (on : Bool) (a : Kept) → WaitPromise m on a → a.kept.position ≡ m.position
  -- "Restart forgets the position."
  pub restart_forgets : (m : Module) (states : List ℕ) (r : Restart) → RestartPromise m states r → r.given.refusal ≡ 0
      → r.given.kept.position ≡ None
  -- "Refusal 12 .. cover the new fields": a held half of this kind over 15, an address over 2,047; of a record with nothing else wrong
  -- (each entry that is handed one gives 12 exactly if it is not possible: demand 1), and so of the feed
  pub half_12 : (m : Module) → RightButHighHalf m → (module_possible m ≡ false) ↔ (15 < m.halfbyte)
  pub address_12 : (m : Module) (address : ℕ) (extended : Bool) → RightButPosition m address extended
      → (module_possible m ≡ false) ↔ (2047 < address)
  pub feed_half_12 : (b : Board) (sheets : Sheets) (room times levels : List ℕ) (o : FeedOutcome)
      → FeedPromise b sheets room times levels o → RightButHighHalf b.kept
      → ((paper_of o.answer).number ≡ 12) ↔ (15 < b.kept.halfbyte)
  pub feed_address_12 : (b : Board) (sheets : Sheets) (room times levels : List ℕ) (o : FeedOutcome)
      → FeedPromise b sheets room times levels o → (address : ℕ) (extended : Bool) → RightButPosition b.kept address extended
      → ((paper_of o.answer).number ≡ 12) ↔ (2047 < address)
  -- the host's encoder: both packets, and 8 for a high half over 15
  pub high_encoded : (high : ℕ) → high ≤ 15 → EncodePromise (PositionHigh high) (record { refusal = 0; packet = packet_of2 0x88 high })
  pub high_8 : (high : ℕ) (a : Encoded) → EncodePromise (PositionHigh high) a → (a.refusal ≡ 8) ↔ (15 < high)
  pub low_encoded : (low : ℕ) → low < 256 → EncodePromise (PositionLow low) (record { refusal = 0; packet = packet_of2 0x89 low })
