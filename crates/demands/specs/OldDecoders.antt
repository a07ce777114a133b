-- C-02, "Old decoders push our boards out of step": a record whose fields are the request's sentences. proofs/OldDecoders.antt shows that
-- it holds. (Demands 2 and 3 read with the new lengths by themselves: they know a packet's length by `packet_length` alone.)
use Rattle.std.specs.Prelude.{ℕ, ◌+◌, ◌<◌, Bool, true, false, ◌↔◌, ◌≡◌, length}
use mathlib.Core.List.{List, [], ◌∷◌, ◌++◌, flatten}
use Rattle.line.specs.declared.receiver.Receiver.{Receiver}
use Rattle.line.specs.Line.{EdgeAnswer, packet_length, From70To7F, packet_of3, idle_at, bits_possible, clock_possible, EdgePromise}
use Rattle.line.specs.Wire.{Edge, edges_of, levels_of, Later, last_of}
use Rattle.command.specs.Meaning.{OneOfThirteen}
use Rattle.store.specs.Sheet.{Sheets}
use Rattle.board.specs.declared.record.Module.{Module}
use Rattle.board.specs.Board.{Board, with_receiver, module_possible}
use Rattle.reactions.specs.Reactions.{silently, halfless}
use Rattle.effects.specs.Effects.{packet_effect}
use Rattle.module.specs.Feed.{FeedOutcome, paper_of, FeedPromise}
use Rattle.module.specs.Whole.{Story, whole_of}
use Rattle.firmware.specs.declared.Outcome as Firmware
use Rattle.firmware.specs.InPlace.{in_place, EdgeInPlacePromise}
use Rattle.demands.specs.Pieces.{Good, LongRooms, Feeds}
use Rattle.demands.specs.Sending.{first_of, NothingHeldAt, left_with, unchanged}

-- what an old decoder forwards: one of the thirteen and any two bytes, clocked out into a receiver that then holds nothing, none of its 24
-- edges but the first a pause
pub record Forwarded (b : Board) (first second third : ℕ) (times : List ℕ) : Type 0 where
  pub opener : OneOfThirteen first
  pub second_byte : second < 256
  pub third_byte : third < 256
  pub timed : length times ≡ 24
  pub in_time : Later b.kept.receiver times
  pub afresh : NothingHeldAt b (first_of b.kept.receiver.last times)

abbrev pub edges_of_three : ℕ → ℕ → ℕ → List ℕ → List Edge
edges_of_three first second third times = edges_of times (levels_of (first ∷ second ∷ third ∷ []))

-- the board after it: the receiver holds nothing, so that the next byte begins a packet, and has the time of its last edge; a held half
-- is dropped; all else is as it was
abbrev pub passed_by : Board → List ℕ → Board
passed_by b times = left_with b (last_of b.kept.receiver.last times) unchanged b.states

-- a receiver that holds two bytes, with nothing wrong in its bits and its clock
pub record HoldsTwo (r : Receiver) : Type 0 where
  pub two : r.held ≡ 2
  pub bits_right : bits_possible r.bits r.count ≡ true
  pub clock_right : clock_possible r ≡ true

pub record C02 : Type 0 where
  -- "every first byte from 0x70 to 0x7F is a three-byte packet", and every other one of two
  pub three_bytes : (first : ℕ) → (packet_length first ≡ 3) ↔ From70To7F first
  pub two_bytes : (first : ℕ) → (packet_length first ≡ 2) ↔ (From70To7F first → ⊥)
  -- "the thirteen others are .. never acknowledged, and drop a held half", and do nothing else: as a packet,
  pub no_effect_lem : (b : Board) (sheets : Sheets) (first second third : ℕ) → OneOfThirteen first
      → packet_effect b sheets (packet_of3 first second third) ≡ silently (halfless b)
  -- and "taken whole": in a whole recording, whatever follows, no answer stands at their edges, and what follows finds the board so
  pub taken_whole : (b : Board) (sheets : Sheets) (n first second third : ℕ) (times : List ℕ) → Forwarded b first second third times
      → (rest : List Edge)
      → whole_of b sheets n (edges_of_three first second third times ++ rest) ≡ whole_of (passed_by b times) sheets (n + 24) rest
  -- through the feed, in any pieces: of each call only the feed's promise is known
  pub in_pieces : (b : Board) (sheets : Sheets) → Good b sheets → (first second third : ℕ) (times : List ℕ)
      → Forwarded b first second third times
      → (rest : List Edge) (rooms : ℕ → List ℕ) → LongRooms rooms → (pieces : List (List Edge))
      → flatten pieces ≡ edges_of_three first second third times ++ rest
      → (spares : Bool) (s : Story) → Feeds spares sheets rooms b pieces s → s ≡ whole_of (passed_by b times) sheets 24 rest
  -- "Refusal 12 changes with it": of two held bytes the first is one of the sixteen. A receiver by value and in its place;
  pub edge_12 : (r : Receiver) (time level : ℕ) (a : EdgeAnswer) → EdgePromise r time level a → HoldsTwo r
      → (a.refusal ≡ 12) ↔ (From70To7F r.first → ⊥)
  pub in_place_12 : (r : Receiver) (time level : ℕ) (o : Firmware.Outcome) (after : Receiver)
      → EdgeInPlacePromise r time level (in_place o after) → HoldsTwo r
      → (o.refusal ≡ 12) ↔ (From70To7F r.first → ⊥)
  -- a module's record with nothing else wrong in it (each entry that is handed a record gives 12 exactly if it is not possible: demand 1),
  -- and so of the feed
  pub record_12 : (m : Module) → HoldsTwo m.receiver → module_possible (with_receiver m (idle_at 0)) ≡ true
      → (module_possible m ≡ false) ↔ (From70To7F m.receiver.first → ⊥)
  pub feed_12 : (b : Board) (sheets : Sheets) (room times levels : List ℕ) (o : FeedOutcome) → FeedPromise b sheets room times levels o
      → HoldsTwo b.kept.receiver → module_possible (with_receiver b.kept (idle_at 0)) ≡ true
      → ((paper_of o.answer).number ≡ 12) ↔ (From70To7F b.kept.receiver.first → ⊥)
