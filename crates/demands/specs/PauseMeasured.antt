-- C-03, "The pause was measured wrongly": a record whose fields are the request's sentences. proofs/PauseMeasured.antt shows that it holds.
-- (What is heard of what is sent, and which of its edges may be a pause, stands in demand 2; demand 3 reads with the new edge by itself.)
use Rattle.std.specs.Prelude.{ℕ, ◌+◌, ◌≤◌, ◌<◌, Bool, true, false, ◌↔◌, ◌⊎◌, ◌≡◌}
use mathlib.Core.List.{List, [], ◌∷◌, flatten}
use Rattle.line.specs.declared.receiver.Receiver.{Receiver}
use Rattle.line.specs.Line.{EdgeAnswer, no_packet, fresh_receiver, idle_at, at_time, with_bits, quiet, late, is_pause, PauseAt, bit_of}
use Rattle.line.specs.Line.{bits_possible, bytes_possible, EdgePromise}
use Rattle.line.specs.Wire.{Edge, RightEdges, answers_to}
use Rattle.line.specs.Clock.{clock_start, since_afresh, ClockOf}
use Rattle.store.specs.Sheet.{Sheets}
use Rattle.board.specs.declared.record.Module.{Module}
use Rattle.board.specs.Board.{Board, with_receiver, without_half, module_possible}
use Rattle.reactions.specs.Reactions.{Effect, with_kept}
use Rattle.module.specs.Application.{Restart, RestartPromise}
use Rattle.module.specs.Edge.{bad_edge, heard_effect}
use Rattle.module.specs.Feed.{FeedOutcome, paper_of, FeedPromise}
use Rattle.module.specs.Whole.{Story, story_with, whole_of}
use Rattle.firmware.specs.declared.Outcome as Firmware
use Rattle.firmware.specs.InPlace.{in_place, EdgeInPlacePromise}
use Rattle.lines.specs.Taken.{Text, AfterBlock, WritePromise}
use Rattle.demands.specs.Pieces.{Good, LongRooms, Feeds}

-- "clears everything held and is bit 0": what the receiver then is; the clock starts there
abbrev pub bit_zero_at : ℕ → ℕ → Receiver
bit_zero_at time level = with_bits (idle_at time) level 1

-- the board that such an edge leaves: nothing is held but its bit
abbrev pub begun_at : Board → Edge → Board
begun_at b e = with_kept b (with_receiver (without_half b.kept) (bit_zero_at e.time e.level))

-- what any other good edge does: all that is held stays, its bit joins, and a packet that it completes has its effect
abbrev pub joining : Board → Sheets → Edge → Effect
joining b sheets e = heard_effect b sheets (bit_of (at_time b.kept.receiver e.time) e.level)

-- "Refusal 12 covers bits or bytes held without a start, and a start after the last edge"
abbrev pub HeldWithoutStart : Receiver → Type 0
HeldWithoutStart r = (r.started ≡ 0) × ((0 < r.count) ⊎ (0 < r.held))

abbrev pub StartsAfterLast : Receiver → Type 0
StartsAfterLast r = (r.started ≡ 0 → ⊥) × (r.last < r.start)

-- a receiver with nothing wrong in its bits and its bytes
pub record HeldRight (r : Receiver) : Type 0 where
  pub bits_right : bits_possible r.bits r.count ≡ true
  pub bytes_right : bytes_possible r.first r.second r.held ≡ true

pub record C03 : Type 0 where
  -- "an edge 8,000 µs or more after that start": exactly such an edge is a pause (`PauseAt`: the mark is set, and so late is the edge)
  pub pause_exactly : (r : Receiver) (time : ℕ) → (is_pause r time ≡ true) ↔ PauseAt r time
  -- it "clears everything held and is bit 0"; any other finds everything still held, and its bit joins: of a receiver,
  pub edge_afresh : (r : Receiver) (time level : ℕ) (a : EdgeAnswer) → EdgePromise r time level a → a.refusal ≡ 0 → PauseAt r time
      → a.heard ≡ quiet (bit_zero_at time level)
  pub edge_goes_on : (r : Receiver) (time level : ℕ) (a : EdgeAnswer) → EdgePromise r time level a → a.refusal ≡ 0 → (PauseAt r time → ⊥)
      → a.heard ≡ bit_of (at_time r time) level
  pub in_place_afresh : (r : Receiver) (time level : ℕ) (o : Firmware.Outcome) (after : Receiver)
      → EdgeInPlacePromise r time level (in_place o after) → o.refusal ≡ 0 → PauseAt r time
      → (o.packet ≡ no_packet) × (after ≡ bit_zero_at time level)
  pub in_place_goes_on : (r : Receiver) (time level : ℕ) (o : Firmware.Outcome) (after : Receiver)
      → EdgeInPlacePromise r time level (in_place o after) → o.refusal ≡ 0 → (PauseAt r time → ⊥)
      → (o.packet ≡ (bit_of (at_time r time) level).packet) × (after ≡ (bit_of (at_time r time) level).receiver)
  -- and of a board in a whole recording, whatever follows: a held half is dropped with the rest, or stays
  pub whole_afresh : (b : Board) (sheets : Sheets) (n : ℕ) (e : Edge) (rest : List Edge) → bad_edge b.kept e ≡ 0
      → PauseAt b.kept.receiver e.time
      → whole_of b sheets n (e ∷ rest) ≡ whole_of (begun_at b e) sheets (n + 1) rest
  pub whole_goes_on : (b : Board) (sheets : Sheets) (n : ℕ) (e : Edge) (rest : List Edge) → bad_edge b.kept e ≡ 0
      → (PauseAt b.kept.receiver e.time → ⊥)
      → whole_of b sheets n (e ∷ rest)
      ≡ story_with (joining b sheets e) (n + 1) (whole_of (joining b sheets e).board sheets (n + 1) rest)
  -- "The clock now starts at the edge that completes a byte or, with no byte since restart or pause, at the first edge": by the times alone
  -- (`clock_start`, `since_afresh`), after any right edges since a restart: of a receiver, of a whole recording, and fed in any pieces
  pub clock_in_turn : (first : Edge) (es : List Edge) (n : ℕ) → RightEdges 0 (first ∷ es)
      → ClockOf (since_afresh [] (first ∷ es)) (answers_to fresh_receiver n (first ∷ es)).heard.receiver
  pub clock_of_whole : (b : Board) (sheets : Sheets) (n : ℕ) (first : Edge) (es : List Edge) → b.kept.receiver ≡ fresh_receiver
      → RightEdges 0 (first ∷ es)
      → ClockOf (since_afresh [] (first ∷ es)) (whole_of b sheets n (first ∷ es)).board.kept.receiver
  pub clock_in_pieces : (b : Board) (sheets : Sheets) → Good b sheets → b.kept.receiver ≡ fresh_receiver → (first : Edge) (es : List Edge)
      → RightEdges 0 (first ∷ es)
      → (rooms : ℕ → List ℕ) → LongRooms rooms → (pieces : List (List Edge)) → flatten pieces ≡ first ∷ es
      → (spares : Bool) (s : Story) → Feeds spares sheets rooms b pieces s
      → ClockOf (since_afresh [] (first ∷ es)) s.board.kept.receiver
  -- so that the times alone tell which edge is a pause: the next good one after those edges
  pub afresh_by_times : (b : Board) (sheets : Sheets) (n : ℕ) (first : Edge) (es : List Edge) → b.kept.receiver ≡ fresh_receiver
      → RightEdges 0 (first ∷ es) → (e : Edge) (rest : List Edge) (m : ℕ)
      → let at = (whole_of b sheets n (first ∷ es)).board in
      bad_edge at.kept e ≡ 0 → late (clock_start (since_afresh [] (first ∷ es))) e.time ≡ true
      → whole_of at sheets m (e ∷ rest) ≡ whole_of (begun_at at e) sheets (m + 1) rest
  pub goes_on_by_times : (b : Board) (sheets : Sheets) (n : ℕ) (first : Edge) (es : List Edge) → b.kept.receiver ≡ fresh_receiver
      → RightEdges 0 (first ∷ es) → (e : Edge) (rest : List Edge) (m : ℕ)
      → let at = (whole_of b sheets n (first ∷ es)).board in
      bad_edge at.kept e ≡ 0 → late (clock_start (since_afresh [] (first ∷ es))) e.time ≡ false
      → whole_of at sheets m (e ∷ rest)
      ≡ story_with (joining at sheets e) (m + 1) (whole_of (joining at sheets e).board sheets (m + 1) rest)
  -- "Refusal 12": by value, in place, of a record with nothing else wrong in it (each entry that is handed one gives 12 exactly if it is
  -- not possible: demand 1), and so of the feed
  pub edge_12 : (r : Receiver) (time level : ℕ) (a : EdgeAnswer) → EdgePromise r time level a → HeldRight r
      → (a.refusal ≡ 12) ↔ (HeldWithoutStart r ⊎ StartsAfterLast r)
  pub in_place_12 : (r : Receiver) (time level : ℕ) (o : Firmware.Outcome) (after : Receiver)
      → EdgeInPlacePromise r time level (in_place o after) → HeldRight r
      → (o.refusal ≡ 12) ↔ (HeldWithoutStart r ⊎ StartsAfterLast r)
  pub record_12 : (m : Module) → HeldRight m.receiver → module_possible (with_receiver m fresh_receiver) ≡ true
      → (module_possible m ≡ false) ↔ (HeldWithoutStart m.receiver ⊎ StartsAfterLast m.receiver)
  pub feed_12 : (b : Board) (sheets : Sheets) (room times levels : List ℕ) (o : FeedOutcome) → FeedPromise b sheets room times levels o
      → HeldRight b.kept.receiver → module_possible (with_receiver b.kept fresh_receiver) ≡ true
      → ((paper_of o.answer).number ≡ 12) ↔ (HeldWithoutStart b.kept.receiver ⊎ StartsAfterLast b.kept.receiver)
  -- what entries leave (that none leaves an impossible record is demand 1): an edge taken marks the clock; a call leaves the receiver as it
  -- was or the mark 1; a restart leaves a fresh receiver; bytes without times start the clock at the last edge's time
  pub edge_leaves : (r : Receiver) (time level : ℕ) (a : EdgeAnswer) → EdgePromise r time level a → a.refusal ≡ 0
      → (a.heard.receiver.started ≡ 1) × (a.heard.receiver.last ≡ time) × (a.heard.receiver.start ≤ time)
  pub in_place_leaves : (r : Receiver) (time level : ℕ) (o : Firmware.Outcome) (after : Receiver)
      → EdgeInPlacePromise r time level (in_place o after) → o.refusal ≡ 0
      → (after.started ≡ 1) × (after.last ≡ time) × (after.start ≤ time)
  pub feed_leaves : (b : Board) (sheets : Sheets) (room times levels : List ℕ) (o : FeedOutcome) → FeedPromise b sheets room times levels o
      → (o.board.kept.receiver ≡ b.kept.receiver) ⊎ (o.board.kept.receiver.started ≡ 1)
  pub restart_leaves : (m : Module) (states : List ℕ) (r : Restart) → RestartPromise m states r → r.given.refusal ≡ 0
      → r.given.kept.receiver ≡ fresh_receiver
  pub write_leaves : (b : Board) (sheets : Sheets) (room out : List ℕ) (byte : ℕ) (bytes : List ℕ) (l : AfterBlock) (k : ℕ)
      → WritePromise b sheets room out (byte ∷ bytes) l → l.given.answer ≡ Text k
      → let r = l.given.kept.receiver in
      (r.started ≡ 1) × (r.start ≡ b.kept.receiver.last) × (r.last ≡ b.kept.receiver.last)
