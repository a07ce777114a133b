-- THE THREE DEMANDS: a record for each, whose fields are the demand's sentences in order. This is the page that a doubter opens first;
-- proofs/Demands.antt shows that all three hold. Of an entry nothing is known here but its promise, which its contract cites and which
-- the crate `entries` shows to be what the entry gives; that every entry ends, and does nothing undefined, is what "proved" means.
use Rattle.std.specs.Prelude.{ℕ, ◌*◌, ◌≤◌, ◌<◌, Bool, true, false, ◌↔◌, ◌≡◌, length, take, drop, Some, Result}
use mathlib.Core.List.{List, [], ◌∷◌, flatten}
use Rattle.bits.specs.Bits.{Bytes}
use Rattle.refusals.specs.declared.Refusal.{Refusal}
use Rattle.line.specs.declared.packet.Packet.{Packet}
use Rattle.line.specs.declared.receiver.Receiver.{Receiver}
use Rattle.line.specs.declared.receiver.Heard as Given
use Rattle.line.specs.Line as Heard
use Rattle.line.specs.Line.{no_packet, emptied, quiet, receiver_possible, EdgePromise, edge_as, WholeAnswer}
use Rattle.line.specs.Wire.{Edge, edges_of, levels_of, Later, Unpaused}
use Rattle.command.specs.declared.Command.{Command}
use Rattle.command.specs.declared.pairs.Halves.{Halves}
use Rattle.command.specs.Pairs.{Paired, address_halves, long_halves, pair_refusal, paired, LongStatePromise}
use Rattle.command.specs.Meaning.{meaning_of}
use Rattle.command.specs.Saying.{has_room, UnreadZero, ThreeBytes}
use Rattle.states.specs.States.{with_long}
use Rattle.store.specs.Sheet.{Sheets, size_of}
use Rattle.store.specs.Store.{bank_cells}
use Rattle.cells.specs.Settings.{effective_number}
use Rattle.bank.specs.Reply.{reply_of, at_front}
use Rattle.host.specs.Encode.{Encoded, encoded_of, encoded_as, EncodePromise}
use Rattle.host.specs.ReadBank.{BankRead, read_as, ReadBankPromise, OtherChecksum, NoShape}
use Rattle.host.specs.ReadBank as Bank
use Rattle.board.specs.declared.record.Module.{Module}
use Rattle.board.specs.Board.{Board, module_possible}
use Rattle.module.specs.declared.feeding.Fed.{Fed}
use Rattle.module.specs.Application.{Kept, kept_as, Restart, restart, RestartPromise, PostPromise, StatusPromise, WaitPromise}
use Rattle.module.specs.Feed.{Acknowledged, FeedOutcome, paper_of, fed_as, FeedPromise}
use Rattle.module.specs.Whole.{Story, whole_of}
use Rattle.running.specs.Running.{ended}
use Rattle.firmware.specs.declared.Outcome as Firmware
use Rattle.firmware.specs.InPlace.{InPlace, in_place, EdgeInPlacePromise}
use Rattle.lines.specs.declared.Lines.{Lines}
use Rattle.lines.specs.declared.Untaken.{Untaken}
use Rattle.lines.specs.Taken.{AfterBlock, leaving, given_as, WritePromise}
use Rattle.demands.specs.Rows.{Among, FeedRow, RestartRow, PostRow, StatusRow, WaitRow, WriteRow}
use Rattle.running.specs.Pieces.{cut_at}
use Rattle.demands.specs.Pieces.{Good, LongRooms, times_in, levels_in, Feeds, FedAsTheWhole}
use Rattle.demands.specs.Sending.{recording_of, Sending, HoldsNothing, AllSent, obeyed, first_of, NothingHeldAt, BegunAfresh}
use Rattle.demands.specs.Sending.{AllSentLater, obeyed_later, bytes_obeyed, pair_sent, TwoBytesLater, PairTimes, last_time, left_with}
use Rattle.demands.specs.Sending.{Sets, addressing, stateson_set, bank_asked, after_bank}
use Rattle.demands.specs.Told.{HeardAsSaid, ReadAsKept, BankTold}

-- DEMAND 1. Any recording, any reply bytes, any lent buffers, any record: every entry ends, refuses by the table of document 01 and by
-- nothing else, and leaves what that table says. A bank reply never writes more than forty cells.
pub record Demand1 : Type 0 where
  -- "Every entry has a promise that determines result, record and each lent byte, for refusals too": no two outcomes keep one
  pub feed_determined : (b : Board) (sheets : Sheets) (room times levels : List ℕ) (o q : FeedOutcome)
      → FeedPromise b sheets room times levels o → FeedPromise b sheets room times levels q → o ≡ q
  pub restart_determined : (m : Module) (states : List ℕ) (r q : Restart) → RestartPromise m states r → RestartPromise m states q → r ≡ q
  pub post_determined : (m : Module) (message : List ℕ) (a q : Kept) → PostPromise m message a → PostPromise m message q → a ≡ q
  pub status_determined : (m : Module) (number value : ℕ) (a q : Kept) → StatusPromise m number value a → StatusPromise m number value q
      → a ≡ q
  pub wait_determined : (m : Module) (on : Bool) (a q : Kept) → WaitPromise m on a → WaitPromise m on q → a ≡ q
  pub edge_determined : (r : Receiver) (time level : ℕ) (a q : Heard.EdgeAnswer) → EdgePromise r time level a → EdgePromise r time level q
      → a ≡ q
  pub in_place_determined : (r : Receiver) (time level : ℕ) (p q : InPlace) → EdgeInPlacePromise r time level p
      → EdgeInPlacePromise r time level q → p ≡ q
  pub write_determined : (b : Board) (sheets : Sheets) (room out input : List ℕ) (l q : AfterBlock)
      → WritePromise b sheets room out input l → WritePromise b sheets room out input q → l ≡ q
  pub long_determined : (number : ℕ) (on : Bool) (a q : Paired) → LongStatePromise number on a → LongStatePromise number on q → a ≡ q
  pub encode_determined : (c : Command) (a q : Encoded) → EncodePromise c a → EncodePromise c q → a ≡ q
  pub read_bank_determined : (reply room : List ℕ) (a q : BankRead) (after then : List ℕ)
      → ReadBankPromise reply room a after → ReadBankPromise reply room q then → (a ≡ q) × (after ≡ then)
  -- the code gives a `Result`, which with the lent bytes at exit is said as such an outcome (`kept_as` and its like): of these too no two
  -- keep a promise (of an edge, both with the clause that a packet which is there has bytes)
  pub feed_decided : (b : Board) (sheets : Sheets) (room times levels : List ℕ) (a q : Result Fed Refusal)
      → (states store after states' store' after' : List ℕ) → FeedPromise b sheets room times levels (fed_as b.kept a states store after)
      → FeedPromise b sheets room times levels (fed_as b.kept q states' store' after')
      → (a ≡ q) × (states ≡ states') × (store ≡ store') × (after ≡ after')
  pub restart_decided : (m : Module) (states : List ℕ) (a q : Result Module Refusal) (after then : List ℕ)
      → RestartPromise m states (restart (kept_as m a) after) → RestartPromise m states (restart (kept_as m q) then)
      → (a ≡ q) × (after ≡ then)
  pub post_decided : (m : Module) (message : List ℕ) (a q : Result Module Refusal) → PostPromise m message (kept_as m a)
      → PostPromise m message (kept_as m q) → a ≡ q
  pub status_decided : (m : Module) (number value : ℕ) (a q : Result Module Refusal) → StatusPromise m number value (kept_as m a)
      → StatusPromise m number value (kept_as m q) → a ≡ q
  pub wait_decided : (m : Module) (on : Bool) (a q : Result Module Refusal) → WaitPromise m on (kept_as m a)
      → WaitPromise m on (kept_as m q) → a ≡ q
  pub edge_decided : (r : Receiver) (time level : ℕ) (a q : Result Given.Heard Refusal) → WholeAnswer a → WholeAnswer q
      → EdgePromise r time level (edge_as r a) → EdgePromise r time level (edge_as r q) → a ≡ q
  pub write_decided : (b : Board) (sheets : Sheets) (room out input : List ℕ) (a q : Result Lines Untaken)
      → (states store after text states' store' after' text' : List ℕ)
      → WritePromise b sheets room out input (leaving (given_as b.kept a) states store after text)
      → WritePromise b sheets room out input (leaving (given_as b.kept q) states' store' after' text')
      → (a ≡ q) × (states ≡ states') × (store ≡ store') × (after ≡ after') × (text ≡ text')
  pub long_decided : (number : ℕ) (on : Bool) (a q : Result Halves Refusal) → LongStatePromise number on (paired a)
      → LongStatePromise number on (paired q) → a ≡ q
  pub encode_decided : (c : Command) (a q : Result Packet Refusal) → EncodePromise c (encoded_as a) → EncodePromise c (encoded_as q) → a ≡ q
  pub read_bank_decided : (reply room : List ℕ) (a q : Result ℕ Refusal) (after then : List ℕ)
      → ReadBankPromise reply room (read_as a) after → ReadBankPromise reply room (read_as q) then → (a ≡ q) × (after ≡ then)
  -- "Numbers given back when we say no": an outcome keeps the promise with a number exactly if that number's row says so, with no earlier
  -- row of that entry holding; and the row says what is left ("All" means record and buffers stay)
  pub feed_rows : (b : Board) (sheets : Sheets) (room times levels : List ℕ) (k : ℕ) (o : FeedOutcome)
      → (FeedPromise b sheets room times levels o × ((paper_of o.answer).number ≡ k)) ↔ FeedRow b sheets room times levels k o
  pub restart_rows : (m : Module) (states : List ℕ) (k : ℕ) (r : Restart)
      → (RestartPromise m states r × (r.given.refusal ≡ k)) ↔ RestartRow m states k r
  pub post_rows : (m : Module) (message : List ℕ) (k : ℕ) (a : Kept) → (PostPromise m message a × (a.refusal ≡ k)) ↔ PostRow m message k a
  pub status_rows : (m : Module) (number value k : ℕ) (a : Kept)
      → (StatusPromise m number value a × (a.refusal ≡ k)) ↔ StatusRow m number value k a
  pub wait_rows : (m : Module) (on : Bool) (k : ℕ) (a : Kept) → (WaitPromise m on a × (a.refusal ≡ k)) ↔ WaitRow m on k a
  -- (`lines::write` is the bench's and no entry that document 01 names: after 12, 4, 5 it has two causes of its own, which give no number
  -- of the table)
  pub write_rows_lem : (b : Board) (sheets : Sheets) (room out input : List ℕ) (l : AfterBlock)
      → WritePromise b sheets room out input l ↔ WriteRow b sheets room out input l
  -- of an edge on a receiver 12, 2, 3 and no other, and they leave it; in its place the same
  pub edge_12 : (r : Receiver) (time level : ℕ) (a : Heard.EdgeAnswer) → EdgePromise r time level a
      → (a.refusal ≡ 12) ↔ (receiver_possible r ≡ false)
  pub edge_2 : (r : Receiver) (time level : ℕ) (a : Heard.EdgeAnswer) → EdgePromise r time level a
      → (a.refusal ≡ 2) ↔ ((receiver_possible r ≡ true) × (1 < level))
  pub edge_3 : (r : Receiver) (time level : ℕ) (a : Heard.EdgeAnswer) → EdgePromise r time level a
      → (a.refusal ≡ 3) ↔ ((receiver_possible r ≡ true) × (level ≤ 1) × (time < r.last))
  pub edge_no_other : (r : Receiver) (time level : ℕ) (a : Heard.EdgeAnswer) → EdgePromise r time level a
      → Among a.refusal (0 ∷ 12 ∷ 2 ∷ 3 ∷ [])
  pub edge_leaves : (r : Receiver) (time level : ℕ) (a : Heard.EdgeAnswer) → EdgePromise r time level a → (a.refusal ≡ 0 → ⊥)
      → a.heard ≡ quiet r
  pub in_place_12 : (r : Receiver) (time level : ℕ) (o : Firmware.Outcome) (after : Receiver)
      → EdgeInPlacePromise r time level (in_place o after)
      → (o.refusal ≡ 12) ↔ (receiver_possible r ≡ false)
  pub in_place_2 : (r : Receiver) (time level : ℕ) (o : Firmware.Outcome) (after : Receiver)
      → EdgeInPlacePromise r time level (in_place o after)
      → (o.refusal ≡ 2) ↔ ((receiver_possible r ≡ true) × (1 < level))
  pub in_place_3 : (r : Receiver) (time level : ℕ) (o : Firmware.Outcome) (after : Receiver)
      → EdgeInPlacePromise r time level (in_place o after)
      → (o.refusal ≡ 3) ↔ ((receiver_possible r ≡ true) × (level ≤ 1) × (time < r.last))
  pub in_place_no_other : (r : Receiver) (time level : ℕ) (o : Firmware.Outcome) (after : Receiver)
      → EdgeInPlacePromise r time level (in_place o after)
      → Among o.refusal (0 ∷ 12 ∷ 2 ∷ 3 ∷ [])
  pub in_place_leaves : (r : Receiver) (time level : ℕ) (o : Firmware.Outcome) (after : Receiver)
      → EdgeInPlacePromise r time level (in_place o after)
      → (o.refusal ≡ 0 → ⊥) → (after ≡ r) × (o.packet ≡ no_packet)
  -- of the host 8 and no other ("and none on refusal"); 4, 9, 10 and no other, which leave the room
  pub long_8 : (number : ℕ) (on : Bool) (a : Paired) → LongStatePromise number on a → (pair_refusal a ≡ 8) ↔ (32767 < number)
  pub long_no_other : (number : ℕ) (on : Bool) (a : Paired) → LongStatePromise number on a → Among (pair_refusal a) (0 ∷ 8 ∷ [])
  pub encode_8 : (c : Command) (a : Encoded) → EncodePromise c a → (a.refusal ≡ 8) ↔ (has_room c ≡ false)
  pub encode_no_other : (c : Command) (a : Encoded) → EncodePromise c a → Among a.refusal (0 ∷ 8 ∷ [])
  pub encode_none : (c : Command) (a : Encoded) → EncodePromise c a → a.refusal ≡ 8 → a.packet ≡ no_packet
  pub read_bank_4 : (reply room after : List ℕ) → ReadBankPromise reply room (Bank.Refused 4) after ↔ ((length room < 40) × (after ≡ room))
  pub read_bank_9 : (reply room after : List ℕ)
      → ReadBankPromise reply room (Bank.Refused 9) after ↔ ((40 ≤ length room) × NoShape reply × (after ≡ room))
  pub read_bank_10 : (reply room after : List ℕ)
      → ReadBankPromise reply room (Bank.Refused 10) after ↔ ((40 ≤ length room) × OtherChecksum reply × (after ≡ room))
  pub read_bank_no_other : (reply room after : List ℕ) (x : ℕ) → ReadBankPromise reply room (Bank.Refused x) after
      → Among x (4 ∷ 9 ∷ 10 ∷ [])
  -- "No entry leaves a record that 12 refuses unless it was given one."
  pub feed_possible : (b : Board) (sheets : Sheets) (room times levels : List ℕ) (o : FeedOutcome)
      → FeedPromise b sheets room times levels o
      → module_possible b.kept ≡ true → module_possible o.board.kept ≡ true
  pub restart_possible : (m : Module) (states : List ℕ) (r : Restart) → RestartPromise m states r → module_possible m ≡ true
      → module_possible r.given.kept ≡ true
  pub post_possible : (m : Module) (message : List ℕ) (a : Kept) → PostPromise m message a → length message ≡ 4 → module_possible m ≡ true
      → module_possible a.kept ≡ true
  pub status_possible : (m : Module) (number value : ℕ) (a : Kept) → StatusPromise m number value a → module_possible m ≡ true
      → module_possible a.kept ≡ true
  pub wait_possible : (m : Module) (on : Bool) (a : Kept) → WaitPromise m on a → module_possible m ≡ true → module_possible a.kept ≡ true
  pub write_possible : (b : Board) (sheets : Sheets) (room out input : List ℕ) → Bytes input → (l : AfterBlock)
      → WritePromise b sheets room out input l
      → module_possible b.kept ≡ true → module_possible l.given.kept ≡ true
  pub edge_possible : (r : Receiver) (time level : ℕ) (a : Heard.EdgeAnswer) → EdgePromise r time level a
      → receiver_possible r ≡ true → receiver_possible a.heard.receiver ≡ true
  pub in_place_possible : (r : Receiver) (time level : ℕ) (o : Firmware.Outcome) (after : Receiver)
      → EdgeInPlacePromise r time level (in_place o after)
      → receiver_possible r ≡ true → receiver_possible after ≡ true
  -- "Each reply is at most 84 bytes"; "A reply writes its own bytes and no further"; lent lists keep their lengths
  pub reply_at_most_84 : (b : Board) (sheets : Sheets) (room times levels : List ℕ) (o : FeedOutcome)
      → FeedPromise b sheets room times levels o
      → (paper_of o.answer).length ≤ 84
  pub past_reply : (b : Board) (sheets : Sheets) (room times levels : List ℕ) (o : FeedOutcome) → FeedPromise b sheets room times levels o
      → drop (paper_of o.answer).length o.room ≡ drop (paper_of o.answer).length room
  pub lengths_stay : (b : Board) (sheets : Sheets) (room times levels : List ℕ) (o : FeedOutcome) → FeedPromise b sheets room times levels o
      → (length o.board.states ≡ length b.states) × (length o.board.store ≡ length b.store) × (length o.room ≡ length room)
  -- forty cells is the most that a bank reply ever writes: at most 40 are read, and what lies past them stays
  pub at_most_40_cells : (reply room after : List ℕ) (n : ℕ) → ReadBankPromise reply room (Bank.Cells n) after
      → (n ≤ 40) × (drop n after ≡ drop n room) × (length after ≡ length room)

-- a read of a bank by the module's own number, as edges
abbrev pub bank_recording : Board → ℕ → List ℕ → List Edge
bank_recording b bank times = recording_of (bank_asked (effective_number b.kept.settings) bank times)

-- DEMAND 2. Module and host do what RCN-600 and the S-9.4.3 draft say, as fixed in document 01; what the host encodes the module reads
-- as the same command; what the module sends for a bank, the host reads back as that bank's leading cells, and it takes no other shape.
pub record Demand2 : Type 0 where
  -- "reads as the same command", at its last edge; "packets of that form come back byte for byte"
  pub same_command : (c : Command) → (encoded_of c).refusal ≡ 0 → (r : Receiver) → r ≡ emptied r → (n : ℕ) (ts : List ℕ)
      → length ts ≡ 8 * (encoded_of c).packet.length → Later r ts → HeardAsSaid c r n ts
  pub byte_for_byte : (c : Command) (a : Encoded) → EncodePromise c a → (q : Packet) → ThreeBytes q → UnreadZero q → meaning_of q ≡ Some c
      → a ≡ record { refusal = 0; packet = q }
  -- any bytes on the line, no edge being a pause: the effects of the packets that they spell (document 01's tables, `packet_effect`), in
  -- order, each at its last edge; what means nothing does nothing
  pub any_bytes : (b : Board) (sheets : Sheets) (n : ℕ) (bytes times : List ℕ) → HoldsNothing b → Bytes bytes
      → length times ≡ 8 * length bytes
      → Unpaused b.kept.receiver times → whole_of b sheets n (edges_of times (levels_of bytes)) ≡ bytes_obeyed b sheets n bytes times
  -- commands that the encoder accepts, no edge being a pause: exactly their effects in order, each answer at its packet's last edge
  pub obeyed_in_order : (b : Board) (sheets : Sheets) (n : ℕ) (ss : List Sending) → HoldsNothing b → AllSent b.kept.receiver ss
      → whole_of b sheets n (recording_of ss) ≡ obeyed b sheets n ss
  -- where no edge is a pause but a packet's first (if the very first is one, any record does); through the feed, in any pieces
  pub obeyed_with_pauses : (b : Board) (sheets : Sheets) (n : ℕ) (ss : List Sending) → BegunAfresh b ss
      → AllSentLater b.kept.receiver ss
      → whole_of b sheets n (recording_of ss) ≡ obeyed_later b sheets n ss
  pub obeyed_in_pieces : (b : Board) (sheets : Sheets) (ss : List Sending) → Good b sheets → BegunAfresh b ss
      → AllSentLater b.kept.receiver ss
      → (rooms : ℕ → List ℕ) → LongRooms rooms → (pieces : List (List Edge)) → flatten pieces ≡ recording_of ss
      → (spares : Bool) (s : Story) → Feeds spares sheets rooms b pieces s → s ≡ obeyed_later b sheets 0 ss
  -- the two halves of number n set state n and no other, of 0 all, and the number of states on that is kept (C-05); those of an address,
  -- that address; through the feed, in any pieces
  pub state_pair : (b : Board) (sheets : Sheets) → Good b sheets → (low high : List ℕ)
      → NothingHeldAt b (first_of b.kept.receiver.last low)
      → PairTimes b low high → (rooms : ℕ → List ℕ) → LongRooms rooms → (pieces : List (List Edge)) (spares : Bool) (s : Story)
      → Feeds spares sheets rooms b pieces s → (number : ℕ) (on : Bool) → number ≤ 32767
      → flatten pieces ≡ recording_of (pair_sent (long_halves number on) low high)
      → Sets b.states s.board.states number on
      × (s ≡ ended (left_with b (last_time b low high) (stateson_set b.states number on) (with_long b.states number on)) 32 0)
  pub address_pair : (b : Board) (sheets : Sheets) → Good b sheets → (low high : List ℕ)
      → NothingHeldAt b (first_of b.kept.receiver.last low)
      → PairTimes b low high → (rooms : ℕ → List ℕ) → LongRooms rooms → (pieces : List (List Edge)) (spares : Bool) (s : Story)
      → Feeds spares sheets rooms b pieces s → (address : ℕ) → address < 65536
      → flatten pieces ≡ recording_of (pair_sent (address_halves address) low high)
      → s ≡ ended (left_with b (last_time b low high) (addressing address) b.states) 32 0
  -- every bank whose size is not 0, asked by 0x0C, 0x0D, 0x0E of the module's own number, is answered with its reply; of another number,
  -- or with size 0, nothing is answered
  pub bank_told : (b : Board) (sheets : Sheets) → Good b sheets → (n bank : ℕ) → bank < 256 → (size_of sheets.sizes bank ≡ 0 → ⊥)
      → (times : List ℕ)
      → NothingHeldAt b (first_of b.kept.receiver.last times) → TwoBytesLater b.kept.receiver times
      → BankTold b sheets n (effective_number b.kept.settings) bank times
  pub bank_not_told : (b : Board) (sheets : Sheets) → Good b sheets → (n number bank : ℕ) → 1 ≤ number → number ≤ 3 → bank < 256
      → (times : List ℕ)
      → NothingHeldAt b (first_of b.kept.receiver.last times) → TwoBytesLater b.kept.receiver times
      → (number ≡ effective_number b.kept.settings → size_of sheets.sizes bank ≡ 0)
      → whole_of b sheets n (recording_of (bank_asked number bank times)) ≡ after_bank b n times
  -- of the two entries: the feed acknowledges it at its sixteenth edge; what it acknowledges it with is the reply of the bank's cells,
  -- 40 at most; and the reader, given those bytes, answers these cells
  pub bank_replied : (b : Board) (sheets : Sheets) → Good b sheets → (bank : ℕ) → bank < 256 → (size_of sheets.sizes bank ≡ 0 → ⊥)
      → (times : List ℕ)
      → NothingHeldAt b (first_of b.kept.receiver.last times) → TwoBytesLater b.kept.receiver times
      → (room : List ℕ) → 84 ≤ length room → (o : FeedOutcome)
      → FeedPromise b sheets room (times_in (bank_recording b bank times)) (levels_in (bank_recording b bank times)) o
      → (l : ℕ) × (o.answer ≡ Acknowledged 16 l) × (take l o.room ≡ reply_of (bank_cells b.store sheets bank))
      × (length (bank_cells b.store sheets bank) ≤ 40)
      × ((cells : List ℕ) → 40 ≤ length cells → (answer : BankRead) (after : List ℕ) → ReadBankPromise (take l o.room) cells answer after
      → ReadAsKept b.store sheets bank cells answer after)
  -- "The host's reader takes exactly that language": n cells for the reply of those n cells alone
  pub no_other_shape : (reply room : List ℕ) (cells : List ℕ)
      → ReadBankPromise reply room (Bank.Cells (length cells)) (at_front cells room) ↔ ((40 ≤ length room) × (length cells ≤ 40)
      × (reply ≡ reply_of cells))

-- DEMAND 3. Cut a recording anywhere: fed piece by piece, the module ends with the same record, cells, states and answers at the same
-- clock edges as the definition of the whole recording says. That definition knows no pieces.
pub record Demand3 : Type 0 where
  pub any_pieces : (spares : Bool) (b : Board) (sheets : Sheets) → Good b sheets → (rooms : ℕ → List ℕ) → LongRooms rooms
      → (recording : List Edge) (pieces : List (List Edge)) → flatten pieces ≡ recording
      → FedAsTheWhole spares b sheets rooms recording pieces
  -- a recording as it is given, two lists (as far as the shorter goes), cut at any places
  pub cut_anywhere : (spares : Bool) (b : Board) (sheets : Sheets) → Good b sheets → (rooms : ℕ → List ℕ) → LongRooms rooms
      → (times levels ks : List ℕ)
      → FedAsTheWhole spares b sheets rooms (edges_of times levels) (cut_at ks (edges_of times levels))
