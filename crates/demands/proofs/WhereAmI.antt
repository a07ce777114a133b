-- C-12 HOLDS: what specs/WhereAmI.antt says, sentence by sentence.
use Prim.Native.Nat.{ℕ, ◌+◌, ◌≤◌, ◌<◌}
use mathlib.Core.Bool.{Bool, true, false, cond, ◌&&◌, false≢true}
use mathlib.Core.List.{List, [], ◌∷◌, ◌++◌, append_assoc}
use mathlib.Core.Logic.Iff
use mathlib.Core.Logic.{◌↔◌, ◌⊎◌, inl, inr, ⊎_elim}
use mathlib.Core.Path.{◌≡◌, refl, sym, ◌∙◌, ap}
use native.Mathlib.Omega.{arith}
use lib.Dec.{leb, eqb}
use borrow.Author.Tests.{eq-eqb, eqb-true, ltb-false, le-ltb, le-leb, leb-true, leb-false, lt-leb}
use Rattle.std.proofs.Common.{Option, Some, None}
use Rattle.bits.proofs.Tests.{by, clash, and_left, and_right, and_both}
use Rattle.running.specs.Running as Runs
use Rattle.running.specs.Running.{answering_if}
use Rattle.line.specs.declared.packet.Packet.{Packet}
use Rattle.line.specs.declared.receiver.Receiver.{Receiver}
use Rattle.line.specs.Line.{Heard, packet_length, no_packet, packet_of2, idle_at, is_pause, byte_of, step_of, receiver_possible}
use Rattle.line.specs.Wire.{Edge, last_of, RightEdges, Proper, of_two, of_three}
use Rattle.line.proofs.Laws as Law
use Rattle.line.proofs.Edges as On
use Rattle.command.specs.declared.Command.{Command}
use Rattle.command.specs.declared.Command.TheVariants.{PositionHigh, PositionLow}
use Rattle.command.specs.Meaning.{byte_at, is_packet, said_by, meaning_of}
use Rattle.command.specs.Saying.{packet_saying, has_room}
use Rattle.command.proofs.Laws.{reads_what_is_said, over_15_means_nothing, says_high, says_low}
use Rattle.command.proofs.Room.{facts_room}
use Rattle.position.specs.declared.Position.{Position}
use Rattle.position.specs.Position.{position_of, position_possible}
use Rattle.position.proofs.Laws.{position_said}
use Rattle.store.specs.Sheet.{Sheets}
use Rattle.bank.specs.Reply.{at_front}
use Rattle.host.specs.Encode.{Encoded, EncodePromise}
use Rattle.host.proofs.EncoderLaws.{taken}
use Rattle.board.specs.declared.record.Half.{Half}
use Rattle.board.specs.declared.record.Half.TheVariants.{NoHalf, AddressHalf, StateHalf, PositionHalf}
use Rattle.board.specs.declared.record.Module.{Module}
use Rattle.board.specs.Board.{Board, with_receiver, with_half, kind_of, holds_half, after_gap, half_possible, module_possible, restarted_of}
use Rattle.board.proofs.Checked as Checked
use Rattle.board.proofs.Halves.{held_is, is_held}
use Rattle.board.proofs.Parts.{apart, half_decides, position_decides}
use Rattle.reactions.specs.Reactions.{Effect, silently, with_kept, halfless, receiving, half_effect, position_effect, second_half}
use Rattle.reactions.proofs.Halves.{second_half_lem}
use Rattle.effects.specs.Effects.{effect_of, meaning_effect, packet_effect}
use Rattle.effects.specs.Frames.{SetsPosition, low_half, FirstHalf, low_address, low_state, high_position}
use Rattle.effects.proofs.Frames.{position_frame, half_frame, packet_frame}
use Rattle.module.specs.Application.{Restart, RestartPromise}
use Rattle.module.specs.Edge.{heard_effect, edge_effect}
use Rattle.module.specs.Whole.{Story, story_with, whole_of}
use Rattle.module.proofs.Edges.{heard_receiver}
use Rattle.module.proofs.Frames.{gap_position}
use Rattle.lines.specs.Taken.{Text, AfterBlock, byte_effect, taken_of, WritePromise}
use Rattle.lines.proofs.Refusals.{text_given_lem}
use Rattle.demands.specs.Sending.{first_of, NothingHeldAt, TwoBytes, TwoBytesLater, unchanged}
use Rattle.demands.specs.OldDecoders.{passed_by}
use Rattle.demands.specs.WhereAmI.{edges_of_two, both_sent, sent_position, located_at, NoHighAt, Event, pause_if, packet_if, events_of, events_of_bytes, is_high, is_low, of_neighbours, position_after, packet_before, RightButHighHalf, RightButPosition, C12}
use Rattle.demands.proofs.Demand1 as One
use Rattle.demands.proofs.Demand3.{demand_3}
use Rattle.demands.proofs.Feeding.{good_possible}
use Rattle.demands.proofs.Firmware.{byte_packet, step_packet}
use Rattle.demands.proofs.Frames as F
use Rattle.demands.proofs.OnTheWire.{proper_bytes}
use Rattle.demands.proofs.PauseMeasured.{whole_board, good, lined_board}
use Rattle.demands.proofs.Staying as S
use Rattle.demands.proofs.Sent.{at_first_of, gap_gone, gap_passed, last_of_some, packet_sent_lem, packet_later}

-- ---- kinds of halves are told apart by their numbers

other_kind : {P : Type 0} (half : Half) → half ≡ PositionHalf → (kind_of half ≡ 3 → ⊥) → P
unfolding kind_of
other_kind half e other = absurd (other (ap kind_of e))

none_held : NoHalf ≡ PositionHalf → ⊥
unfolding kind_of
none_held e = other_kind NoHalf e (λ k. omega arith)

-- ---- each packet's effect

-- a high half waits
high_held_lem : (b : Board) (sheets : Sheets) (high : ℕ) → high ≤ 15 → packet_effect b sheets (packet_of2 0x88 high) ≡ half_effect b PositionHalf high
unfolding packet_effect meaning_effect effect_of packet_saying
high_held_lem b sheets high few = ap (meaning_effect b sheets) (reads_what_is_said (PositionHigh high) (facts_room (PositionHigh high) (omega arith)))

-- its low half is heard; alone it does nothing
low_said : (b : Board) (sheets : Sheets) (low : ℕ)
    → packet_effect b sheets (packet_of2 0x89 low) ≡ second_half b PositionHalf (position_effect b (position_of b.kept.halfbyte low))
unfolding packet_effect meaning_effect effect_of meaning_of is_packet packet_length said_by
low_said b sheets low = refl

low_heard : (b : Board) (sheets : Sheets) (low : ℕ) → b.kept.half ≡ PositionHalf
    → packet_effect b sheets (packet_of2 0x89 low) ≡ position_effect b (position_of b.kept.halfbyte low)
unfolding second_half
low_heard b sheets low held = low_said b sheets low ∙ rw (is_held b.kept PositionHalf held)

low_unheard : (b : Board) (sheets : Sheets) (low : ℕ) → (b.kept.half ≡ PositionHalf → ⊥) → packet_effect b sheets (packet_of2 0x89 low) ≡ silently (halfless b)
low_unheard b sheets low none =
    low_said b sheets low ∙ second_half_lem b PositionHalf _ (λ (e : Effect). e ≡ silently (halfless b)) refl (λ held. absurd (none held))

over_15_unheard : (b : Board) (sheets : Sheets) (high : ℕ) → 15 < high → packet_effect b sheets (packet_of2 0x88 high) ≡ silently (halfless b)
unfolding packet_effect meaning_effect
over_15_unheard b sheets high over = ap (meaning_effect b sheets) (over_15_means_nothing high over)

-- ---- packets of two bytes, clocked out

-- what a packet does whose effect is none, with edges after it: the gap before it leaves nothing else
module _ (b : Board) (sheets : Sheets) (n first second : ℕ) (times : List ℕ) (two : packet_length first ≡ 2) (small : first < 256) (byte : second < 256)
    (hold : NothingHeldAt b (first_of b.kept.receiver.last times)) (timed : TwoBytesLater b.kept.receiver times) (rest : List Edge) where
  abbrev begun : Board
  begun = at_first_of b times

  abbrev last_time_lem : ℕ
  last_time_lem = last_of begun.kept.receiver.last times

  by_its_effect : whole_of b sheets n (edges_of_two first second times ++ rest)
      ≡ story_with (packet_effect (receiving begun (idle_at last_time_lem)) sheets (packet_of2 first second)) (n + 16)
      (whole_of (packet_effect (receiving begun (idle_at last_time_lem)) sheets (packet_of2 first second)).board sheets (n + 16) rest)
  by_its_effect =
      let proper = of_two first second two in
      packet_later proper (proper_bytes proper (record { three = refl; first = small; second = byte; third = omega arith })) times timed.timed b sheets n timed.in_time hold rest

  nothing_done : packet_effect (receiving begun (idle_at last_time_lem)) sheets (packet_of2 first second) ≡ silently (halfless (receiving begun (idle_at last_time_lem)))
      → whole_of b sheets n (edges_of_two first second times ++ rest) ≡ whole_of (passed_by b times) sheets (n + 16) rest
  unfolding answering_if
  nothing_done none =
      by_its_effect
      ∙ ap (λ (e : Effect). story_with e (n + 16) (whole_of e.board sheets (n + 16) rest)) none
      ∙ ap (λ (a : Board). whole_of a sheets (n + 16) rest) (gap_passed b times (omega (arith, timed.timed)) (λ t. t) unchanged b.states)

over_15 : (b : Board) (sheets : Sheets) (n high : ℕ) (times : List ℕ) → 15 < high → high < 256
    → NothingHeldAt b (first_of b.kept.receiver.last times) → TwoBytesLater b.kept.receiver times → (rest : List Edge)
    → whole_of b sheets n (edges_of_two 0x88 high times ++ rest) ≡ whole_of (passed_by b times) sheets (n + 16) rest
unfolding packet_length
over_15 b sheets n high times over byte hold timed rest =
    nothing_done b sheets n 0x88 high times refl (omega arith) byte hold timed rest (over_15_unheard _ sheets high over)

-- no high half of a position is held at the first edge
no_high_first : (b : Board) (times : List ℕ) → NoHighAt b (first_of b.kept.receiver.last times) → (at_first_of b times).kept.half ≡ PositionHalf → ⊥
unfolding after_gap
no_high_first b times none =
    by (is_pause b.kept.receiver (first_of b.kept.receiver.last times)) (λ e. rw e none_held)
    (λ e. rw e (⊎_elim (λ h. h) (λ pause. clash pause e) none))

low_alone : (b : Board) (sheets : Sheets) (n low : ℕ) (times : List ℕ) → low < 256 → NoHighAt b (first_of b.kept.receiver.last times)
    → NothingHeldAt b (first_of b.kept.receiver.last times) → TwoBytesLater b.kept.receiver times → (rest : List Edge)
    → whole_of b sheets n (edges_of_two 0x89 low times ++ rest) ≡ whole_of (passed_by b times) sheets (n + 16) rest
unfolding packet_length
low_alone b sheets n low times byte none hold timed rest =
    nothing_done b sheets n 0x89 low times refl (omega arith) byte hold timed rest (low_unheard _ sheets low (no_high_first b times none))

-- both, one after the other
module _ (b : Board) (sheets : Sheets) (n high low : ℕ) (before after : List ℕ) (few : high ≤ 15) (byte : low < 256)
    (hold : NothingHeldAt b (first_of b.kept.receiver.last before)) (timed : TwoBytesLater b.kept.receiver before) (rest : List Edge) where
  -- the last of the first's times, and the board there: its half is held
  abbrev at : ℕ
  at = last_of b.kept.receiver.last before

  abbrev holding_high : Board
  holding_high = with_kept b (with_half (with_receiver b.kept (idle_at at)) PositionHalf high)

  after_high : (more : List Edge) → whole_of b sheets n (edges_of_two 0x88 high before ++ more) ≡ whole_of holding_high sheets (n + 16) more
  unfolding answering_if packet_length
  after_high more =
      let last = last_of (at_first_of b before).kept.receiver.last before in
      let same : last ≡ at = last_of_some (at_first_of b before).kept.receiver.last b.kept.receiver.last before (omega (arith, timed.timed)) in
      by_its_effect b sheets n 0x88 high before refl (omega arith) (omega arith) hold timed more
      ∙ ap (λ (e : Effect). story_with e (n + 16) (whole_of e.board sheets (n + 16) more))
      (high_held_lem (receiving (at_first_of b before) (idle_at last)) sheets high few)
      ∙ ap (λ (m : Module). whole_of (with_kept b m) sheets (n + 16) more)
      (gap_gone b.kept (first_of b.kept.receiver.last before) (idle_at last) PositionHalf high
      ∙ ap (λ (t : ℕ). with_half (with_receiver b.kept (idle_at t)) PositionHalf high) same)

  -- and then what 0x89 comes to there, 16 edges on
  then_low : (a : Board) → whole_of holding_high sheets (n + 16) (edges_of_two 0x89 low after ++ rest) ≡ whole_of a sheets (n + 16 + 16) rest
      → whole_of b sheets n (both_sent high low before after ++ rest) ≡ whole_of a sheets (n + 32) rest
  then_low a second =
      let sum : n + 16 + 16 ≡ n + 32 = omega arith in
      ap (whole_of b sheets n) (append_assoc (edges_of_two 0x88 high before) (edges_of_two 0x89 low after) rest)
      ∙ after_high (edges_of_two 0x89 low after ++ rest) ∙ second ∙ ap (λ (k : ℕ). whole_of a sheets k rest) sum

  heard_directly : TwoBytes (idle_at at) after
      → whole_of b sheets n (both_sent high low before after ++ rest) ≡ whole_of (located_at b (last_of at after) (sent_position high low)) sheets (n + 32) rest
  unfolding answering_if packet_length
  heard_directly two =
      let proper = of_two 0x89 low refl in
      then_low (located_at b (last_of at after) (sent_position high low))
      (packet_sent_lem proper (proper_bytes proper (record { three = refl; first = omega arith; second = byte; third = omega arith })) after two.timed holding_high sheets (n + 16) refl two.in_time rest
      ∙ ap (λ (e : Effect). story_with e (n + 16 + 16) (whole_of e.board sheets (n + 16 + 16) rest))
      (low_heard (receiving holding_high (idle_at (last_of at after))) sheets low refl)
      ∙ ap (λ (p : Position). whole_of (located_at b (last_of at after) (Some p)) sheets (n + 16 + 16) rest) (position_said high low few))

  lost_by_pause : TwoBytesLater (idle_at at) after → is_pause (idle_at at) (first_of at after) ≡ true
      → whole_of b sheets n (both_sent high low before after ++ rest) ≡ whole_of (located_at b (last_of at after) b.kept.position) sheets (n + 32) rest
  lost_by_pause two pause =
      then_low (located_at b (last_of at after) b.kept.position)
      (low_alone holding_high sheets (n + 16) low after byte (inr pause) (inl refl) two rest)

-- ---- neighbours

-- a packet of two bytes is known by them
short_one : {p : Packet} → Proper p → (k : ℕ) → byte_at p 0 ≡ k → packet_length k ≡ 2 → p ≡ packet_of2 k (byte_at p 1)
short_one (of_two a c e) k first two = ap (λ (x : ℕ). packet_of2 x c) first
short_one (of_three a c d e) k first two = let three : packet_length k ≡ 3 = rw first at e in let z : ⊥ = omega arith in absurd z

-- the data of a high half
at_most_15 : (p : Packet) → is_high p ≡ true → byte_at p 1 ≤ 15
at_most_15 p e = leb-true _ _ (and_right (eqb (byte_at p 0) 0x88) (leb (byte_at p 1) 15) e)

-- what a packet leaves: its half is held exactly if it is a high half of a position
record Behind (one : Packet) (m : Module) : Type 0 where
  its_half : is_high one ≡ true → (m.half ≡ PositionHalf) × (m.halfbyte ≡ byte_at one 1)
  no_half : is_high one ≡ false → m.half ≡ PositionHalf → ⊥

first_high : {c : Command} {half : Half} {byte : ℕ} → FirstHalf c half byte → half ≡ PositionHalf → c ≡ PositionHigh byte
unfolding kind_of
first_high (low_address byte) e = other_kind AddressHalf e (λ k. omega arith)
first_high (low_state low on) e = other_kind StateHalf e (λ k. omega arith)
first_high (high_position high) e = refl

module _ (b : Board) (sheets : Sheets) {p : Packet} (proper : Proper p) where
  high_left : is_high p ≡ true → packet_effect b sheets p ≡ half_effect b PositionHalf (byte_at p 1)
  unfolding packet_length
  high_left e =
      let first = eqb-true _ _ (and_left (eqb (byte_at p 0) 0x88) (leb (byte_at p 1) 15) e) in
      ap (packet_effect b sheets) (short_one proper 0x88 first refl) ∙ high_held_lem b sheets (byte_at p 1) (at_most_15 p e)

  held_by : (m : Option Command) → meaning_of p ≡ m → (meaning_effect b sheets m).board.kept.half ≡ PositionHalf → is_high p ≡ true
  unfolding meaning_effect
  held_by (Some c) says held =
      ⊎_elim (λ none. absurd (none_held (sym none.0 ∙ held)))
      (λ first. let said = says_high p _ (says ∙ ap Some (first_high first held)) in and_both _ _ (eq-eqb _ _ said.0) (le-leb _ _ said.1))
      (half_frame b sheets c)
  held_by None says held = absurd (none_held held)

  behind : Behind p (packet_effect b sheets p).board.kept
  unfolding packet_effect
  behind =
      record {
        its_half = λ e. (ap (λ (x : Effect). x.board.kept.half) (high_left e), ap (λ (x : Effect). x.board.kept.halfbyte) (high_left e));
        no_half = λ e held. clash (held_by (meaning_of p) refl held) e;
      }

  -- the position that it leaves is that of it and the one before
  module _ (one : Packet) (before : Behind one b.kept) where
    heard_of_both : (is_high one && is_low p) ≡ true → (packet_effect b sheets p).board.kept.position ≡ sent_position (byte_at one 1) (byte_at p 1)
    unfolding packet_length
    heard_of_both e =
        let high = and_left (is_high one) (is_low p) e in
        let held = before.its_half high in
        let first = eqb-true _ _ (and_right (is_high one) (is_low p) e) in
        ap (λ (q : Packet). (packet_effect b sheets q).board.kept.position) (short_one proper 0x89 first refl)
        ∙ ap (λ (x : Effect). x.board.kept.position) (low_heard b sheets (byte_at p 1) held.0)
        ∙ ap (λ (k : ℕ). Some (position_of k (byte_at p 1))) held.1
        ∙ ap Some (position_said (byte_at one 1) (byte_at p 1) (at_most_15 one high))

    set_by_lem : (half : Half) (c : Command) → SetsPosition half c → b.kept.half ≡ half → meaning_of p ≡ Some c → (is_high one && is_low p) ≡ true
    set_by_lem half c (low_half low) held says =
        and_both _ _ (by (is_high one) (λ e. e) (λ e. absurd (before.no_half e held))) (eq-eqb _ _ (says_low p low says))

    stepped : (packet_effect b sheets p).board.kept.position ≡ of_neighbours b.kept.position one p
    unfolding of_neighbours
    stepped =
        by (is_high one && is_low p) (λ e. rw e (heard_of_both e))
        (λ e. rw e (⊎_elim (λ same. same) (λ s. clash (set_by_lem b.kept.half s.command s.kind refl s.says) e)
        (packet_frame b sheets (λ (x : Board). x.kept.position) (SetsPosition b.kept.half) refl (position_frame b sheets) p)))

-- no half of a position is held: as if no packet were before
none_behind : (m : Module) → (m.half ≡ PositionHalf → ⊥) → Behind no_packet m
none_behind m none = record { its_half = λ e. absurd (false≢true e); no_half = λ e. none }

-- another receiver holds no other half
other_receiver : (one : Packet) (m : Module) (r : Receiver) → Behind one m → Behind one (with_receiver m r)
other_receiver one m r behind-one = record { its_half = behind-one.its_half; no_half = behind-one.no_half }

proper_one : {p : Packet} → (p ≡ no_packet) ⊎ Proper p → eqb p.length 0 ≡ false → Proper p
proper_one found some = ⊎_elim (λ none. clash (ap (λ (q : Packet). eqb q.length 0) none) some) (λ proper. proper) found

-- what was heard, by an edge or by a byte: no packet, and the one before stays that; or one, which acts and is then the one before
module _ (b : Board) (sheets : Sheets) (h : Heard) (one : Packet) (behind-one : Behind one b.kept) (found : (h.packet ≡ no_packet) ⊎ Proper h.packet) where
  abbrev next : Packet
  next = cond (eqb h.packet.length 0) one h.packet

  abbrev there : Board
  there = receiving b h.receiver

  still_behind : Behind one there.kept
  still_behind = other_receiver one b.kept h.receiver behind-one

  behind_next : Behind next (heard_effect b sheets h).board.kept
  unfolding heard_effect
  behind_next = by (eqb h.packet.length 0) (λ e. rw e still_behind) (λ e. rw e (behind there sheets (proper_one found e)))

  position_next : (events : List Event)
      → position_after (heard_effect b sheets h).board.kept.position next events ≡ position_after b.kept.position one (packet_if h.packet events)
  unfolding heard_effect packet_if position_after
  position_next events =
      by (eqb h.packet.length 0) (λ e. rw e refl)
      (λ e. rw e (ap (λ (q : Option Position). position_after q h.packet events) (stepped there sheets (proper_one found e) one still_behind)))

-- an edge that is a pause has no packet before it
module _ (b : Board) (e : Edge) (one : Packet) where
  abbrev before : Packet
  before = cond (is_pause b.kept.receiver e.time) no_packet one

  abbrev gone : Board
  gone = with_kept b (after_gap b.kept e.time)

  behind_gap : Behind one b.kept → Behind before gone.kept
  unfolding after_gap
  behind_gap behind-one =
      by (is_pause b.kept.receiver e.time) (λ h. rw h (none_behind _ none_held)) (λ h. rw h (other_receiver one b.kept _ behind-one))

  events_are : (events : List Event) → position_after gone.kept.position before events
      ≡ position_after b.kept.position one (pause_if (is_pause b.kept.receiver e.time) events)
  unfolding pause_if position_after
  events_are events =
      ap (λ (q : Option Position). position_after q before events) (gap_position b.kept e.time)
      ∙ by (is_pause b.kept.receiver e.time) (λ h. rw h refl) (λ h. rw h refl)

edge_heard : (b : Board) (sheets : Sheets) (e : Edge) → edge_effect b sheets e
    ≡ heard_effect (with_kept b (after_gap b.kept e.time)) sheets (step_of b.kept.receiver e.time e.level)
unfolding edge_effect step_of after_gap
edge_heard b sheets e = refl

-- EDGES IN TURN
in_turn : (es : List Edge) (b : Board) (sheets : Sheets) (n : ℕ) (one : Packet) → Behind one b.kept → receiver_possible b.kept.receiver ≡ true
    → RightEdges b.kept.receiver.last es
    → (whole_of b sheets n es).board.kept.position ≡ position_after b.kept.position one (events_of b.kept.receiver es)
unfolding events_of position_after RightEdges Runs.whole_of
in_turn [] b sheets n one behind-one possible right = refl
in_turn (e ∷ es) b sheets n one behind-one possible right =
    let r = b.kept.receiver in
    let h = step_of r e.time e.level in
    let at = gone b e one in
    let left = (heard_effect at sheets h).board in
    let found = step_packet r e.time e.level possible right.1 in
    let gap = behind_gap b e one behind-one in
    let then = next at sheets h (before b e one) gap found in
    let same : left.kept.receiver ≡ h.receiver = heard_receiver at sheets h in
    ap (λ (a : Board). a.kept.position) (whole_board b sheets n e es (good b sheets n e es right))
    ∙ ap (λ (x : Effect). (whole_of x.board sheets (n + 1) es).board.kept.position) (edge_heard b sheets e)
    ∙ in_turn es left sheets (n + 1) then (behind_next at sheets h (before b e one) gap found)
    (rw same (Law.step_possible r e.time e.level possible right.0 right.1)) (rw (same, On.step_last r e.time e.level) right.2)
    ∙ ap (λ (x : Receiver). position_after left.kept.position then (events_of x es)) same
    ∙ position_next at sheets h (before b e one) gap found (events_of h.receiver es)
    ∙ events_are b e one (packet_if h.packet (events_of h.receiver es))

-- and bytes
bytes_in_turn : (xs : List ℕ) (b : Board) (sheets : Sheets) (room : List ℕ) (one : Packet) → Behind one b.kept
    → receiver_possible b.kept.receiver ≡ true
    → (taken_of b sheets room xs).board.kept.position ≡ position_after b.kept.position one (events_of_bytes b.kept.receiver xs)
unfolding events_of_bytes position_after taken_of
bytes_in_turn [] b sheets room one behind-one possible = refl
bytes_in_turn (x ∷ xs) b sheets room one behind-one possible =
    let r = b.kept.receiver in
    let h = byte_of r x in
    let left = byte_effect b sheets x in
    let found = byte_packet r x (Law.bytes_part r possible) in
    let then = next b sheets h one behind-one found in
    let same : left.board.kept.receiver ≡ h.receiver = heard_receiver b sheets h in
    ap (λ (a : Board). a.kept.position) (lined_board h.packet left (taken_of left.board sheets (at_front left.reply room) xs))
    ∙ bytes_in_turn xs left.board sheets (at_front left.reply room) then (behind_next b sheets h one behind-one found)
    (rw same (Law.byte_possible r x (Law.bits_part r possible)))
    ∙ ap (λ (q : Receiver). position_after left.board.kept.position then (events_of_bytes q xs)) same
    ∙ position_next b sheets h one behind-one found (events_of_bytes h.receiver xs)

-- before the first edge: the packet of which a half is held, or none
begun_behind : (m : Module) → module_possible m ≡ true → Behind (packet_before m) m
unfolding packet_before half_possible
begun_behind m possible =
    by (holds_half m PositionHalf)
    (λ h. let held = held_is m PositionHalf h in
    let few = leb-true m.halfbyte 15 (rw held at (apart m possible).halved) in
    rw h (record { its_half = λ e. (held, refl); no_half = λ e. clash (le-leb m.halfbyte 15 few) e }))
    (λ h. rw h (none_behind m (λ held. clash (is_held m PositionHalf held) h)))

by_neighbours : (b : Board) (sheets : Sheets) (n : ℕ) (es : List Edge) → module_possible b.kept ≡ true → RightEdges b.kept.receiver.last es
    → (whole_of b sheets n es).board.kept.position ≡ position_after b.kept.position (packet_before b.kept) (events_of b.kept.receiver es)
by_neighbours b sheets n es possible right =
    in_turn es b sheets n (packet_before b.kept) (begun_behind b.kept possible) (apart b.kept possible).heard right

write_neighbours : (b : Board) (sheets : Sheets) (room out bytes : List ℕ) (l : AfterBlock) (k : ℕ) → WritePromise b sheets room out bytes l
    → l.given.answer ≡ Text k
    → l.given.kept.position ≡ position_after b.kept.position (packet_before b.kept) (events_of_bytes b.kept.receiver bytes)
write_neighbours b sheets room out bytes l k p told =
    let given = text_given_lem b sheets room out bytes l k p told in
    let possible = (Checked.right b sheets room given.0).possible in
    rw given.1
    (bytes_in_turn bytes b sheets room (packet_before b.kept) (begun_behind b.kept possible) (apart b.kept possible).heard)

-- ---- what leaves it, and row 12

half_12 : (m : Module) → RightButHighHalf m → (module_possible m ≡ false) ↔ (15 < m.halfbyte)
unfolding half_possible
half_12 m right =
    Iff.trans (half_decides m right.1)
    (rw right.0 (λ h. leb-false m.halfbyte 15 h, λ over. lt-leb m.halfbyte 15 over))

address_12 : (m : Module) (address : ℕ) (extended : Bool) → RightButPosition m address extended → (module_possible m ≡ false) ↔ (2047 < address)
unfolding position_possible
address_12 m address extended right =
    Iff.trans (position_decides m None right.1) (rw right.0 (λ h. leb-false address 2047 h, λ over. lt-leb address 2047 over))

restart_forgets : (m : Module) (states : List ℕ) (r : Restart) → RestartPromise m states r → r.given.refusal ≡ 0 → r.given.kept.position ≡ None
unfolding restarted_of
restart_forgets m states r p h = ap (λ (k : Module). k.position) (One.restart_taken m states r p h)

-- ---- the encoder

high_encoded : (high : ℕ) → high ≤ 15 → EncodePromise (PositionHigh high) (record { refusal = 0; packet = packet_of2 0x88 high })
unfolding packet_saying
high_encoded high few = sym (taken (PositionHigh high) (facts_room (PositionHigh high) (omega arith)))

high_8 : (high : ℕ) (a : Encoded) → EncodePromise (PositionHigh high) a → (a.refusal ≡ 8) ↔ (15 < high)
unfolding has_room
high_8 high a p =
    Iff.trans (One.encode_gives_8 (PositionHigh high) a p)
    (λ h. let over : 16 ≤ high = ltb-false high 16 h in omega arith, λ over. le-ltb high 16 (omega arith))

low_encoded : (low : ℕ) → low < 256 → EncodePromise (PositionLow low) (record { refusal = 0; packet = packet_of2 0x89 low })
unfolding packet_saying
low_encoded low byte = sym (taken (PositionLow low) (facts_room (PositionLow low) byte))

-- C-12 HOLDS
pub where_am_i : C12
where_am_i =
    record {
      pair_heard = λ b sheets n high low before after few byte hold times rest. heard_directly b sheets n high low before after few byte hold times.0 rest times.1;
      pair_in_pieces =
          λ b sheets good high low before after few byte hold times rest rooms long pieces cut spares story fed.
          (demand_3 spares good rooms long _ pieces cut).same story fed
          ∙ heard_directly b sheets 0 high low before after few byte hold times.0 rest times.1;
      pause_between =
          λ b sheets n high low before after few byte hold timed two pause rest.
          lost_by_pause b sheets n high low before after few byte hold timed rest two pause;
      by_neighbours = by_neighbours;
      neighbours_in_pieces =
          λ b sheets good es right rooms long pieces cut spares story fed.
          ap (λ (s : Story). s.board.kept.position) ((demand_3 spares good rooms long _ pieces cut).same story fed)
          ∙ by_neighbours b sheets 0 es (good_possible good) right;
      write_neighbours = write_neighbours;
      over_15 = over_15;
      low_alone = low_alone;
      position_only = F.position_only;
      post_leaves = λ m message a p. S.post_keeps (λ k. k.position) (λ k d. refl) m message a p;
      status_leaves = λ m number value a p. S.status_keeps (λ k. k.position) (λ k d. refl) m number value a p;
      wait_leaves = λ m on a p. S.wait_keeps (λ k. k.position) (λ k t. refl) m on a p;
      restart_forgets = restart_forgets;
      half_12 = half_12;
      address_12 = address_12;
      feed_half_12 = λ b sheets room times levels o p right. Iff.trans (One.feed_gives_12 b sheets room times levels o p) (half_12 b.kept right);
      feed_address_12 =
          λ b sheets room times levels o p address extended right.
          Iff.trans (One.feed_gives_12 b sheets room times levels o p) (address_12 b.kept address extended right);
      high_encoded = high_encoded;
      high_8 = high_8;
      low_encoded = low_encoded;
    }
