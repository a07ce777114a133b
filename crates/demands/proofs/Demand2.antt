-- DEMAND 2: what the host sends the module obeys, and what the module answers the host reads. Sentence by sentence it is `Demand2` of
-- specs/Demands.antt.
--
-- "Reads as the same command" is `on_the_wire` (OnTheWire.antt); "byte for byte" is `encode_comes_back` (Demand1.antt).
-- Any bytes on the line, whether they mean anything or not: the effects of the packets that they spell, in order: `any_bytes`.
-- Host to module. For every list of commands that the encoder accepts, clocked out so that no edge is a pause into any possible record
-- whose receiver holds nothing, with good buffers, the whole recording's definition gives exactly these commands' effects in
-- order, each answer at its packet's last edge and none elsewhere. (It holds of any record and any buffers, so of these too.)
-- Where no edge is a pause but a packet's first, the same, a held half apart, and if the very first edge is one, of any possible record:
-- `demand_2_with_pauses`, and fed in pieces `obeyed_in_pieces`.
-- Pairs. The two halves of number n set state n and no other, of 0 all; those of an address, that address: `state_pair`,
-- `address_pair`, and through the feed `state_pair_in_pieces`, `address_pair_in_pieces`.
-- Module to host. 0x0C, 0x0D, 0x0E by the effective number, every bank whose size is not 0: the reply, given to the reader, is
-- that bank's leading cells: `own_bank_told`; and of the two entries `bank_replied`, `bank_cells_at_most_40`, `bank_read_by_host`.
-- The imposters of document 01 contradict it: Imposters.antt, `.._disobeys`.
use Prim.Native.Nat.{ℕ, ◌+◌, ◌*◌, ◌≤◌, ◌<◌}
use mathlib.Core.Bool.{Bool, true, ◌&&◌}
use mathlib.Core.List.{List, [], ◌∷◌, ◌++◌, append-nil, flatten}
use mathlib.Core.Logic.{inl}
use mathlib.Core.Path.{◌≡◌, refl, sym, ◌∙◌, ap}
use native.Mathlib.Omega.{arith}
use lib.Dec.{eqb}
use lib.ListN.{length, take, drop}
use lib.Seq.{take-append_seam}
use borrow.Author.Tests.{eqb-true}
use Rattle.bits.specs.Bits.{Bytes}
use Rattle.bits.proofs.Tests.{and_left, and_right}
use Rattle.line.specs.declared.receiver.Receiver.{Receiver}
use Rattle.line.specs.Line.{idle_at, emptied, bytes_possible}
use Rattle.line.specs.Wire.{Edge, edges_of, hearing, Hearing, Noted, levels_of, spelled, heard_as, Later, Unpaused, last_of}
use Rattle.effects.specs.Effects.{packet_effect}
use Rattle.line.proofs.Wire.{wire_law}
use Rattle.line.proofs.Laws.{bits_lt, bytes_part}
use Rattle.command.specs.declared.Command.TheVariants.{BankRead}
use Rattle.command.specs.declared.pairs.Halves.{Halves}
use Rattle.command.specs.Pairs.{address_halves, long_halves}
use Rattle.states.specs.States.{with_long}
use Rattle.states.proofs.Laws.{set_reads, others_stay, long_all}
use Rattle.store.specs.Sheet.{Sheets, size_of}
use Rattle.store.specs.Store.{bank_cells}
use Rattle.store.proofs.Sizes.{leading_at_most}
use Rattle.store.proofs.Reading.{bank_length}
use Rattle.cells.specs.declared.settings.Settings.{Settings}
use Rattle.cells.specs.Settings.{effective_number}
use Rattle.cells.proofs.Numbers.{number_from, number_to}
use Rattle.crc.specs.Crc.{crc_of}
use Rattle.bank.specs.Reply.{body_of, data_of, checksum_of, reply_of}
use Rattle.bank.proofs.Laws.{no_rest}
use Rattle.host.specs.ReadBank as R
use Rattle.host.specs.ReadBank.{ReadBankPromise}
use Rattle.board.specs.declared.record.Module.{Module}
use Rattle.board.specs.Board.{Board, module_possible}
use Rattle.board.proofs.Parts.{apart}
use Rattle.module.specs.Feed.{Answer, Refused, BadEdge, Silent, Acknowledged, FeedOutcome, FeedPromise}
use Rattle.module.specs.Whole.{edge_rule, Answered, Story, story_with, whole_of}
use Rattle.running.specs.Running as Runs
use Rattle.running.specs.Running.{ended, answering, story_at, story_after}
use Rattle.module.proofs.Frames.{gap_settings}
use Rattle.module.proofs.Running.{edges_length}
use Rattle.module.proofs.Packets.{edges_steady, levels_small, unpaused_later, through, whole_by_packets}
use Rattle.demands.specs.Pieces.{Good, LongRooms, times_in, levels_in, answer_says, Feeds}
use Rattle.demands.specs.Sending.{Sending, edge_count, recording_of, AllSent, HoldsNothing, NothingHeldAt, obeying, obeyed, first_of, SentBy, AllSentLater, BegunAfresh, packets_obeyed, bytes_obeyed, at_first, obeyed_later, pair_sent, TwoBytesLater, PairTimes, last_time, left_with, unchanged, Sets, addressing, stateson_set, bank_asked, after_bank, AllSentBy, obeyed_from}
use Rattle.demands.specs.Told.{ReadAsKept, StateSet, BankTold}
use Rattle.demands.proofs.BankRead.{bank_read_back}
use Rattle.demands.proofs.Commands.{PairSent, state_pair_sent, state_pair_obeyed, address_pair_sent, address_pair_obeyed, bank_sent, bank_packet, bank_answered, bank_silent}
use Rattle.demands.proofs.Demand3.{demand_3}
use Rattle.demands.proofs.Feeding.{good_possible, good_states, good_lengths, good_sheet, ran, by_outcome}
use Rattle.demands.proofs.Sent.{levels_length, one_sent, holds_after, last_of_some, at_first_of, gap_passed, some, first_empty, sent_first, from_first, later_sent, later_holds_after}

-- ---- HOST TO MODULE

-- On the wire: bytes, clocked out into a receiver that holds nothing, none of their edges but the first a pause, are heard as exactly their
-- packets, each at its last edge, and those left over are held.
pub heard_as_packets : (r : Receiver) (n : ℕ) (bytes times : List ℕ) → r ≡ emptied r → Bytes bytes → length times ≡ 8 * length bytes → Later r times
    → hearing r n (edges_of times (levels_of bytes)) ≡ heard_as r times (spelled n [] bytes)
heard_as_packets = wire_law

-- Whatever they mean, and whether they mean anything: the effects of these packets in order, each at its last edge.
as_packets : (b : Board) (sheets : Sheets) (r : Receiver) (taken : ℕ) (ps : List Noted)
    → through b sheets r ps (λ a. whole_of a sheets taken []) ≡ packets_obeyed b sheets r taken ps
unfolding through packets_obeyed Runs.whole_of
as_packets b sheets r taken [] = refl
as_packets b sheets r taken (p ∷ ps) =
    ap (story_with (packet_effect b sheets p.packet) p.after) (as_packets (packet_effect b sheets p.packet).board sheets r taken ps)

pub any_bytes : (b : Board) (sheets : Sheets) (n : ℕ) (bytes times : List ℕ) → HoldsNothing b → Bytes bytes → length times ≡ 8 * length bytes
    → Unpaused b.kept.receiver times
    → whole_of b sheets n (edges_of times (levels_of bytes)) ≡ bytes_obeyed b sheets n bytes times
any_bytes b sheets n bytes times hold small long unpaused =
    let r = b.kept.receiver in
    let es = edges_of times (levels_of bytes) in
    let told = heard_as r times (spelled n [] bytes) in
    let heard : hearing r n es ≡ told = wire_law r n bytes times hold small long (unpaused_later r times unpaused) in
    let count : length es ≡ 8 * length bytes = edges_length times (levels_of bytes) (long ∙ sym (levels_length bytes)) ∙ long in
    let no_bit = ap (λ (q : Receiver). q.count) hold in
    ap (whole_of b sheets n) (sym (append-nil es)) ∙ whole_by_packets es b sheets n [] (edges_steady r times (levels_of bytes) no_bit unpaused (levels_small bytes))
    ∙ ap (λ (h : Hearing). through b sheets h.receiver h.packets (λ a. whole_of a sheets (n + length es) [])) heard
    ∙ ap (λ (k : ℕ). through b sheets told.receiver told.packets (λ a. whole_of a sheets (n + k) [])) count
    ∙ as_packets b sheets told.receiver (n + 8 * length bytes) told.packets

pub demand_2 : (b : Board) (sheets : Sheets) (n : ℕ) (ss : List Sending) → HoldsNothing b → AllSent b.kept.receiver ss
    → whole_of b sheets n (recording_of ss) ≡ obeyed b sheets n ss
unfolding recording_of obeyed_from AllSentBy Runs.whole_of
demand_2 b sheets n [] hold sent = refl
demand_2 b sheets n (s ∷ ss) hold sent =
    let next = (obeying b sheets s).board in
    let idle = holds_after b sheets n s hold sent.0 in
    one_sent b sheets n s hold sent.0 (recording_of ss)
    ∙ ap (story_with (obeying b sheets s) (n + edge_count s))
    (demand_2 next sheets (n + edge_count s) ss (rw idle refl) (rw idle sent.1))

-- a receiver that holds nothing is one on which they begin afresh
afresh : (b : Board) (ss : List Sending) → HoldsNothing b → BegunAfresh b ss
afresh b [] hold = tt
afresh b (s ∷ ss) hold = inl hold

-- Where a packet's first edge may be a pause, the same: only a held half is dropped by one. If the very first edge is a pause, any
-- possible record does: what the receiver holds is dropped too.
pub demand_2_with_pauses : (b : Board) (sheets : Sheets) (n : ℕ) (ss : List Sending) → BegunAfresh b ss → AllSentLater b.kept.receiver ss
    → whole_of b sheets n (recording_of ss) ≡ obeyed_later b sheets n ss
unfolding recording_of obeyed_from AllSentBy Runs.whole_of
demand_2_with_pauses b sheets n [] hold sent = refl
demand_2_with_pauses b sheets n (s ∷ ss) hold sent =
    let e = obeying (at_first b s) sheets s in
    let idle = later_holds_after b sheets n s hold sent.0 in
    later_sent b sheets n s hold sent.0 (recording_of ss)
    ∙ ap (story_with e (n + edge_count s)) (demand_2_with_pauses e.board sheets (n + edge_count s) ss (afresh e.board ss (rw idle refl)) (rw idle sent.1))

-- The first packet after a gap that makes no edge a pause but its first, and the others without one.
pub begun_later : (b : Board) (sheets : Sheets) (n : ℕ) (s : Sending) (ss : List Sending)
    → NothingHeldAt b (first_of b.kept.receiver.last s.times) → SentBy Later b.kept.receiver s
    → AllSent (idle_at (last_of b.kept.receiver.last s.times)) ss
    → whole_of b sheets n (recording_of (s ∷ ss)) ≡ obeyed (at_first b s) sheets n (s ∷ ss)
unfolding recording_of AllSentBy
begun_later b sheets n s ss hold sent on =
    let same = last_of_some (at_first b s).kept.receiver.last b.kept.receiver.last s.times (some b sheets n s hold sent) in
    from_first b sheets n s hold sent (recording_of ss)
    ∙ demand_2 (at_first b s) sheets n (s ∷ ss) (first_empty b sheets n s hold sent) (sent_first b sheets n s hold sent, rw same on)

-- And fed to the module in any pieces, of which each call is known by the feed's promise alone (demand 3), they are obeyed so.
pub obeyed_in_pieces : (b : Board) (sheets : Sheets) (ss : List Sending) → Good b sheets → BegunAfresh b ss → AllSentLater b.kept.receiver ss
    → (rooms : ℕ → List ℕ) → LongRooms rooms → (pieces : List (List Edge)) → flatten pieces ≡ recording_of ss
    → (spares : Bool) (s : Story) → Feeds spares sheets rooms b pieces s → s ≡ obeyed_later b sheets 0 ss
obeyed_in_pieces b sheets ss good hold sent rooms long pieces cut spares s fed =
    (demand_3 spares good rooms long (recording_of ss) pieces cut).same s fed ∙ demand_2_with_pauses b sheets 0 ss hold sent

-- A possible record with no held bit and no held byte is one whose receiver holds nothing.
pub holding_nothing : (b : Board) → module_possible b.kept ≡ true → b.kept.receiver.count ≡ 0 → b.kept.receiver.held ≡ 0 → HoldsNothing b
unfolding bytes_possible
holding_nothing b possible count held =
    let r = b.kept.receiver in
    let heard = (apart b.kept possible).heard in
    let bits : r.bits ≡ 0 = omega (arith, rw count at (bits_lt r heard)) in
    let bytes : (eqb r.first 0 && eqb r.second 0) ≡ true = rw held at (bytes_part r heard) in
    empty r bits count (eqb-true _ _ (and_left (eqb r.first 0) (eqb r.second 0) bytes)) (eqb-true _ _ (and_right (eqb r.first 0) (eqb r.second 0) bytes)) held
  where
    made : (last start started bits count first second held : ℕ) → bits ≡ 0 → count ≡ 0 → first ≡ 0 → second ≡ 0 → held ≡ 0
        → ◌≡◌ {A = Receiver} (record { last = last; start = start; started = started; bits = bits; count = count; first = first; second = second; held = held })
        (record { last = last; start = start; started = started; bits = 0; count = 0; first = 0; second = 0; held = 0 })
    made last start started bits count first second held p q r s t = rw (p, q, r, s, t)

    empty : (r : Receiver) → r.bits ≡ 0 → r.count ≡ 0 → r.first ≡ 0 → r.second ≡ 0 → r.held ≡ 0 → r ≡ emptied r
    empty r = made r.last r.start r.started r.bits r.count r.first r.second r.held

-- ---- PAIRS, low half first, 16 edges each, no edge a pause but the very first. A half held
-- before does not matter: the low half takes its place.

sets : (states : List ℕ) (number : ℕ) (on : Bool) → length states ≡ 4096 → number ≤ 32767 → Sets states (with_long states number on) number on
sets states number on long small =
    record {
      its_own = λ named. set_reads 4096 states number on named (omega arith);
      no_other = λ named m other. others_stay 4096 states number on named (omega arith) m other;
      all = λ none m from to. rw none (long_all states long on m from (omega arith));
    }

module _ (b : Board) (sheets : Sheets) (good : Good b sheets) (n : ℕ) (low high : List ℕ) (hold : NothingHeldAt b (first_of b.kept.receiver.last low))
    (times : PairTimes b low high) where
  -- both packets, from the first edge's board; the gap before it leaves nothing else
  begun : (halves : Halves) → PairSent b.kept.receiver halves low high
      → whole_of b sheets n (recording_of (pair_sent halves low high)) ≡ obeyed (at_first_of b low) sheets n (pair_sent halves low high)
  begun halves sent = begun_later b sheets n (record { command = halves.low; times = low }) (record { command = halves.high; times = high } ∷ []) hold sent.0 sent.1

  abbrev after_both : Board → Story
  after_both a = ended a (n + 32) 0

  left : (change : Module → Module) (states : List ℕ)
      → ◌≡◌ {A = Story} (ended (left_with (at_first_of b low) (last_time (at_first_of b low) low high) change states) (n + 32) 0)
      (ended (left_with b (last_time b low high) change states) (n + 32) 0)
  left change states = ap after_both (gap_passed b low (omega (arith, times.0.timed)) (λ t. last_of t high) change states)

  pub state_pair : (number : ℕ) (on : Bool) → number ≤ 32767 → StateSet b sheets n low high number on
  state_pair number on small =
      record {
        set = sets b.states number on (good_states good) small;
        story =
            begun (long_halves number on) (state_pair_sent number on small b.kept.receiver low high times.0 times.1)
            ∙ state_pair_obeyed number on small (at_first_of b low) sheets n low high ∙ left (stateson_set b.states number on) (with_long b.states number on);
      }

  -- of an address: nothing but the address is another
  pub address_pair : (address : ℕ) → address < 65536
      → whole_of b sheets n (recording_of (pair_sent (address_halves address) low high))
      ≡ ended (left_with b (last_time b low high) (addressing address) b.states) (n + 32) 0
  address_pair address small =
      begun (address_halves address) (address_pair_sent address small b.kept.receiver low high times.0 times.1)
      ∙ address_pair_obeyed address small (at_first_of b low) sheets n low high ∙ left (addressing address) b.states

-- and so through the feed, in any pieces: of each call only the feed's promise is known
module _ (b : Board) (sheets : Sheets) (good : Good b sheets) (low high : List ℕ) (hold : NothingHeldAt b (first_of b.kept.receiver.last low))
    (times : PairTimes b low high) (rooms : ℕ → List ℕ) (long : LongRooms rooms) (pieces : List (List Edge)) (spares : Bool) (s : Story)
    (fed : Feeds spares sheets rooms b pieces s) where
  pub state_pair_in_pieces : (number : ℕ) (on : Bool) → number ≤ 32767 → flatten pieces ≡ recording_of (pair_sent (long_halves number on) low high)
      → Sets b.states s.board.states number on × (s ≡ ended (left_with b (last_time b low high) (stateson_set b.states number on) (with_long b.states number on)) 32 0)
  state_pair_in_pieces number on small cut =
      let one = state_pair b sheets good 0 low high hold times number on small in
      let told = (demand_3 spares good rooms long _ pieces cut).same s fed ∙ one.story in
      (rw told one.set, told)

  pub address_pair_in_pieces : (address : ℕ) → address < 65536 → flatten pieces ≡ recording_of (pair_sent (address_halves address) low high)
      → s ≡ ended (left_with b (last_time b low high) (addressing address) b.states) 32 0
  address_pair_in_pieces address small cut =
      (demand_3 spares good rooms long _ pieces cut).same s fed ∙ address_pair b sheets good 0 low high hold times address small

-- ---- MODULE TO HOST

-- the receiver's test: over a reply's data bytes and its checksum the CRC is 0
pub checked_by_crc : (cells : List ℕ) → crc_of (data_of (body_of cells) ++ (checksum_of (body_of cells) ∷ [])) ≡ 0
checked_by_crc = no_rest

-- the number that it goes by is CV 897, and "0 counts as module 1"
pub zero_counts_as_1 : (s : Settings) → s.number ≡ 0 → effective_number s ≡ 1
unfolding effective_number
zero_counts_as_1 s e = rw e

module _ (b : Board) (sheets : Sheets) (good : Good b sheets) (n number bank : ℕ) (from : 1 ≤ number) (to : number ≤ 3)
    (small : bank < 256) (times : List ℕ) (hold : NothingHeldAt b (first_of b.kept.receiver.last times))
    (two : TwoBytesLater b.kept.receiver times) where
  asked : whole_of b sheets n (recording_of (bank_asked number bank times)) ≡ obeyed (at_first_of b times) sheets n (bank_asked number bank times)
  unfolding AllSentBy
  asked = begun_later b sheets n (record { command = BankRead number bank; times = times }) [] hold (bank_sent number bank from to small b.kept.receiver times two) tt

  bank_left : after_bank (at_first_of b times) n times ≡ after_bank b n times
  bank_left = ap (λ (a : Board). ended a (n + 16) 0) (gap_passed b times (omega (arith, two.timed)) (λ t. t) unchanged b.states)

  same_settings : (at_first_of b times).kept.settings ≡ b.kept.settings
  same_settings = gap_settings b.kept (first_of b.kept.receiver.last times)

  -- its own number, a bank whose size is not 0
  pub bank_told : number ≡ effective_number b.kept.settings → (size_of sheets.sizes bank ≡ 0 → ⊥) → BankTold b sheets n number bank times
  bank_told own some =
      let bytes = reply_of (bank_cells b.store sheets bank) in
      record {
        packet = bank_packet number bank from to small;
        story =
            asked ∙ bank_answered number bank from to small (at_first_of b times) sheets n times (rw same_settings own) some
            ∙ ap (answering (n + 16) bytes) bank_left;
        read =
            λ room answer after wide r.
            bank_read_back b.store sheets bank (good_lengths good) (good_sheet good) small [] room answer after wide
            (rw (take-append_seam bytes (drop (length bytes) [])) r);
      }

  -- another number, or a bank whose size is 0: nothing is answered
  pub bank_not_told : (number ≡ effective_number b.kept.settings → size_of sheets.sizes bank ≡ 0)
      → whole_of b sheets n (recording_of (bank_asked number bank times)) ≡ after_bank b n times
  bank_not_told none = asked ∙ bank_silent number bank from to small (at_first_of b times) sheets n times (rw same_settings none) ∙ bank_left

-- its own number is one that the encoder has room for
own_number : (b : Board) (sheets : Sheets) → Good b sheets
    → (1 ≤ effective_number b.kept.settings) × (effective_number b.kept.settings ≤ 3)
own_number b sheets good =
    (omega (arith, number_from b.kept.settings), number_to b.kept.settings (apart b.kept (good_possible good)).set_up)

-- SO, by the effective number, every bank whose size is not 0:
pub own_bank_told : (b : Board) (sheets : Sheets) → Good b sheets → (n bank : ℕ) → bank < 256 → (size_of sheets.sizes bank ≡ 0 → ⊥)
    → (times : List ℕ) → NothingHeldAt b (first_of b.kept.receiver.last times) → TwoBytesLater b.kept.receiver times
    → BankTold b sheets n (effective_number b.kept.settings) bank times
own_bank_told b sheets good n bank small some times hold two =
    let own = own_number b sheets good in
    bank_told b sheets good n (effective_number b.kept.settings) bank own.0 own.1 small times hold two refl some

-- the edge of the first answer, and whether there is one
abbrev first_edge : List Answered → ℕ
first_edge [] = 0
first_edge (a ∷ others) = a.after

abbrev some_answer : List Answered → ℕ
some_answer [] = 0
some_answer (a ∷ others) = 1

-- AND OF THE TWO ENTRIES. The feed, known by its promise, is handed that read; it acknowledges it with a reply of l bytes; the reader,
-- known by its promise, is handed the first l bytes of the feed's room: its answer is that bank's leading cells.
-- a story that begins with an answer at an edge comes of a call that acknowledged there
answered_at : (b : Board) (room : List ℕ) (sheets : Sheets) (es : List Edge) (reply : List ℕ) (rest : Story) (a : Answer)
    → story_after (edge_rule sheets) 0 es [] (answer_says b room a) ≡ answering (0 + 16) reply rest → (l : ℕ) × (a ≡ Acknowledged 16 l)
unfolding story_at answer_says Runs.whole_of
answered_at b room sheets es reply rest (Refused number) h = let z : ◌≡◌ {A = ℕ} 0 1 = ap (λ (s : Story). some_answer s.answers) h in absurd (omega arith)
answered_at b room sheets es reply rest (BadEdge number edges) h = let z : ◌≡◌ {A = ℕ} 0 1 = ap (λ (s : Story). some_answer s.answers) h in absurd (omega arith)
answered_at b room sheets es reply rest (Silent edges) h = let z : ◌≡◌ {A = ℕ} 0 1 = ap (λ (s : Story). some_answer s.answers) h in absurd (omega arith)
answered_at b room sheets es reply rest (Acknowledged edges l) h =
    let z : 0 + edges ≡ 16 = ap (λ (s : Story). first_edge s.answers) h in
    let e : edges ≡ 16 = omega arith in
    (l, ap (λ (k : ℕ). Acknowledged k l) e)

abbrev first_reply : List Answered → List ℕ
first_reply [] = []
first_reply (a ∷ others) = a.reply

module _ (b : Board) (sheets : Sheets) (good : Good b sheets) (bank : ℕ) (small : bank < 256) (some : size_of sheets.sizes bank ≡ 0 → ⊥) (times : List ℕ)
    (hold : NothingHeldAt b (first_of b.kept.receiver.last times)) (two : TwoBytesLater b.kept.receiver times)
    (room : List ℕ) (long : 84 ≤ length room) (o : FeedOutcome) where
  abbrev asked_of : List Edge
  asked_of = recording_of (bank_asked (effective_number b.kept.settings) bank times)

  -- it is acknowledged, at its last edge, the sixteenth
  pub bank_acknowledged : FeedPromise b sheets room (times_in asked_of) (levels_in asked_of) o → (l : ℕ) × (o.answer ≡ Acknowledged 16 l)
  bank_acknowledged fed =
      let told = (own_bank_told b sheets good 0 bank small some times hold two).story in
      let call = by_outcome (ran good room long asked_of o fed) 0 [] in
      let same : whole_of b sheets 0 (asked_of ++ []) ≡ whole_of b sheets 0 asked_of = ap (whole_of b sheets 0) (append-nil asked_of) in
      answered_at o.board o.room sheets asked_of _ _ o.answer (sym call ∙ same ∙ told)

  module _ (fed : FeedPromise b sheets room (times_in asked_of) (levels_in asked_of) o) (j l : ℕ) (acknowledged : o.answer ≡ Acknowledged j l) where
    -- what stands in the feed's room is the reply of that bank's cells, 40 of them at most
    pub bank_replied : take l o.room ≡ reply_of (bank_cells b.store sheets bank)
    unfolding story_at answer_says
    bank_replied =
        let told = (own_bank_told b sheets good 0 bank small some times hold two).story in
        let call = by_outcome (ran good room long asked_of o fed) 0 [] in
        let same : whole_of b sheets 0 (asked_of ++ []) ≡ whole_of b sheets 0 asked_of = ap (whole_of b sheets 0) (append-nil asked_of) in
        let noted-so : whole_of b sheets 0 (asked_of ++ []) ≡ answering (0 + j) (take l o.room) (whole_of o.board sheets (0 + j) (drop j asked_of ++ [])) = call ∙ rw acknowledged refl in
        let one : answering (0 + j) (take l o.room) (whole_of o.board sheets (0 + j) (drop j asked_of ++ [])) ≡ answering (0 + 16) (reply_of (bank_cells b.store sheets bank)) (after_bank b 0 times) = sym noted-so ∙ same ∙ told in
        ap (λ (s : Story). first_reply s.answers) one

    pub bank_cells_at_most_40 : length (bank_cells b.store sheets bank) ≤ 40
    bank_cells_at_most_40 =
        let held = good_lengths good in
        rw (bank_length b.store sheets bank held (good_sheet good)) (leading_at_most sheets (good_sheet good) bank)

    -- what lies past the reply stays, in the feed's room, and past the cells in the reader's
    pub bank_read_by_host : (cells : List ℕ) → 40 ≤ length cells → (answer : R.BankRead) (after : List ℕ) → ReadBankPromise (take l o.room) cells answer after
        → ReadAsKept b.store sheets bank cells answer after
    bank_read_by_host cells wide answer after r =
        (own_bank_told b sheets good 0 bank small some times hold two).read cells answer after wide (rw bank_replied at r)
