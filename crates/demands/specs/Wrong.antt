-- THE TABLE OF WRONG OUTCOMES: for each entry what goes in and what a wrong program would give, two rows at least for each promise.
-- A row is right in all but the one point that its comment names. The theorem that each is rejected by its entry's promise is in
-- proofs/Wrong.antt.
use Rattle.std.specs.Prelude.{ℕ, ◌-◌, ◌*◌, Bool, true, false, List, [], ◌∷◌, ◌++◌, ◌≡◌, length, replicate, Option, Some, None}
use Rattle.line.specs.declared.receiver.Receiver.{Receiver}
use Rattle.line.specs.Line.{EdgeAnswer}
use Rattle.line.specs.Line.{no_packet, packet_of2, packet_of3, fresh_receiver, idle_at, holding, with_bits, at_time, quiet, refusing}
use Rattle.line.specs.Wire.{levels_of}
use Rattle.command.specs.declared.Command.{Command}
use Rattle.command.specs.declared.Command.TheVariants.{ActualSpeed, Load, AddressLow, AddressHigh, LongLow, LongHigh, WriteByte}
use Rattle.command.specs.declared.Command.TheVariants.{PositionHigh, PositionLow}
use Rattle.command.specs.declared.pairs.Halves.{Halves}
use Rattle.command.specs.Pairs.{Paired, Pair, Refused as Unpaired, address_halves, LongStatePromise}
use Rattle.crc.specs.Crc.{crc_of}
use Rattle.drive.specs.declared.Drive.{Drive}
use Rattle.drive.specs.Drive.{restarted, with_actual, with_load, with_address, with_functions}
use Rattle.position.specs.declared.Position.{Position}
use Rattle.position.specs.Position.{position_at}
use Rattle.cells.specs.declared.settings.Settings.{Settings}
use Rattle.cells.specs.Settings.{settings}
use Rattle.bidi.specs.Bidi.{fresh_bidi, with_queue, with_statuses, registered_now}
use Rattle.host.specs.Encode.{Encoded, EncodePromise}
use Rattle.host.specs.ReadBank.{BankRead, Cells, Refused as Unread, ReadBankPromise}
use Rattle.board.specs.declared.record.Module.{Module}
use Rattle.board.specs.declared.record.Half.TheVariants.{StateHalf, PositionHalf}
use Rattle.board.specs.Board.{Board, board_of, fresh_module, with_receiver, with_half, with_drive, with_position, with_settings, with_bidi, with_states_on}
use Rattle.counts.specs.Counts.{Counts, On, Refused as Uncounted, ShownPromise, CheckedPromise}
use Rattle.module.specs.Application.{Kept, Restart, keeping, restart, RestartPromise, PostPromise, StatusPromise, WaitPromise}
use Rattle.module.specs.Feed.{Answer as Given, Refused, BadEdge, Silent, Acknowledged, FeedOutcome, ending, FeedPromise}
use Rattle.module.specs.Bench.{zeros, bench, sized, bench_sheets, bit_times}
use Rattle.firmware.specs.InPlace.{InPlace, in_place, EdgeInPlacePromise}
use Rattle.lines.specs.Taken.{Refused as Untaken, BitsHeld, NoRoomForText, Text, AfterBlock, leaving, untaken, WritePromise}
use Rattle.line.specs.Line.{EdgePromise}
use Rattle.store.specs.Sheet.{zero_store, Sheets}
use Rattle.view.specs.View.{ViewRefusalPromise, ViewPromise}
use Rattle.demands.specs.Examples.{clock_marked, clock_at, byte_unmarked, two_zeros, fixed_as, other_fixed, fives}

-- what goes into an entry, and what a wrong program gives and leaves
pub data Wrong : Type 0 where
  feed : (b : Board) (sheets : Sheets) (room times levels : List ℕ) (given : FeedOutcome) → Wrong
  restarting : (m : Module) (states : List ℕ) (given : Restart) → Wrong
  post : (m : Module) (message : List ℕ) (given : Kept) → Wrong
  status : (m : Module) (number value : ℕ) (given : Kept) → Wrong
  wait : (m : Module) (on : Bool) (given : Kept) → Wrong
  edge : (r : Receiver) (time level : ℕ) (given : EdgeAnswer) → Wrong
  edge_in_place : (r : Receiver) (time level : ℕ) (given : InPlace) → Wrong
  lines : (b : Board) (sheets : Sheets) (room out input : List ℕ) (given : AfterBlock) → Wrong
  encode : (c : Command) (given : Encoded) → Wrong
  long_state : (number : ℕ) (on : Bool) (given : Paired) → Wrong
  address : (number : ℕ) (given : Halves) → Wrong
  checksum : (bytes : List ℕ) (given : ℕ) → Wrong
  read : (reply room : List ℕ) (given : BankRead) (then : List ℕ) → Wrong
  shown : (m : Module) (given : Counts) → Wrong
  check : (m : Module) (states : List ℕ) (given : Counts) → Wrong
  refuse_view : (store : List ℕ) (sheets : Sheets) (given : ℕ) → Wrong
  view : (store : List ℕ) (sheets : Sheets) (bank : ℕ) (given : List ℕ) → Wrong

-- the entry's promise does not hold of it
abbrev pub Rejected : Wrong → Type 0
Rejected (feed b sheets room times levels given) = FeedPromise b sheets room times levels given → ⊥
Rejected (restarting m states given) = RestartPromise m states given → ⊥
Rejected (post m message given) = PostPromise m message given → ⊥
Rejected (status m number value given) = StatusPromise m number value given → ⊥
Rejected (wait m on given) = WaitPromise m on given → ⊥
Rejected (edge r time level given) = EdgePromise r time level given → ⊥
Rejected (edge_in_place r time level given) = EdgeInPlacePromise r time level given → ⊥
Rejected (lines b sheets room out input given) = WritePromise b sheets room out input given → ⊥
Rejected (encode c given) = EncodePromise c given → ⊥
Rejected (long_state number on given) = LongStatePromise number on given → ⊥
Rejected (address number given) = given ≡ address_halves number → ⊥
Rejected (checksum bytes given) = given ≡ crc_of bytes → ⊥
Rejected (read reply room given then) = ReadBankPromise reply room given then → ⊥
Rejected (shown m given) = ShownPromise m given → ⊥
Rejected (check m states given) = CheckedPromise m states given → ⊥
Rejected (refuse_view store sheets given) = ViewRefusalPromise store sheets given → ⊥
Rejected (view store sheets bank given) = ViewPromise store sheets bank given → ⊥

-- every row is rejected, of one part of the table and of all its parts
abbrev pub AllRejected : List Wrong → Type 0
AllRejected [] = Unit
AllRejected (w ∷ ws) = Rejected w × AllRejected ws

abbrev pub EveryPartRejected : List (List Wrong) → Type 0
EveryPartRejected [] = Unit
EveryPartRejected (part ∷ parts) = AllRejected part × EveryPartRejected parts

-- ---- `module::feed`: the bench's board and a reply room of 84, fed bus bytes at 100 µs a bit

abbrev pub fed : List ℕ → FeedOutcome → Wrong
fed bytes given = feed bench bench_sheets (zeros 84) (bit_times (8 * length bytes) 0) (levels_of bytes) given

-- the bench's board with its last edge at that time, nothing held, and with such a store
abbrev pub bench_at : ℕ → List ℕ → Board
bench_at time store = board_of (with_receiver fresh_module (idle_at time)) (zeros 4096) store

-- an impossible record: a load of 128
abbrev pub overloaded : Module
overloaded = with_drive fresh_module (with_load restarted 128)

-- a 7 in the third cell of bank 0, CV 902
abbrev pub seven_stored : List ℕ
seven_stored = 0 ∷ 0 ∷ 7 ∷ zeros 10237

-- 7F 85 07 writes 7 to CV 902, and is acknowledged at its 24th edge, at 2,300 µs
abbrev pub after_write : FeedOutcome → Wrong
after_write given = fed (0x7F ∷ 0x85 ∷ 0x07 ∷ []) given

abbrev pub wrong_writes : List Wrong
wrong_writes =
    -- it is not acknowledged; it is acknowledged and not stored; it is stored one cell late, or in two cells
    after_write (ending (bench_at 2300 seven_stored) (zeros 84) (Silent 24))
    ∷ after_write (ending (bench_at 2300 zero_store) (zeros 84) (Acknowledged 24 0))
    ∷ after_write (ending (bench_at 2300 (0 ∷ 0 ∷ 0 ∷ 7 ∷ zeros 10236)) (zeros 84) (Acknowledged 24 0))
    ∷ after_write (ending (bench_at 2300 (0 ∷ 0 ∷ 7 ∷ 7 ∷ zeros 10236)) (zeros 84) (Acknowledged 24 0))
    -- the store has grown by a byte; the count is one short; a reply is told of; the receiver did not move on
    ∷ after_write (ending (bench_at 2300 (0 ∷ 0 ∷ 7 ∷ zeros 10238)) (zeros 84) (Acknowledged 24 0))
    ∷ after_write (ending (bench_at 2300 seven_stored) (zeros 84) (Acknowledged 23 0))
    ∷ after_write (ending (bench_at 2300 seven_stored) (zeros 84) (Acknowledged 24 4))
    ∷ after_write (ending (board_of fresh_module (zeros 4096) seven_stored) (zeros 84) (Acknowledged 24 0))
    ∷ []

-- 0C FE gives 8E 01 8E 01 8F 9A 8F 00, and is acknowledged at its 16th edge, at 1,500 µs
abbrev pub after_bank_read : List ℕ → ℕ → Wrong
after_bank_read room bytes = fed (0x0C ∷ 0xFE ∷ []) (ending (bench_at 1500 zero_store) room (Acknowledged 16 bytes))

-- the bench's board after 24 80
abbrev pub speeding : Board
speeding = board_of (with_receiver (with_drive fresh_module (with_actual restarted 0x80)) (idle_at 1500)) (zeros 4096) zero_store

abbrev pub wrong_replies : List Wrong
wrong_replies =
    -- a byte behind the reply is written; the checksum is 0; the last group is left out; the length is that of the room
    after_bank_read (0x8E ∷ 0x01 ∷ 0x8E ∷ 0x01 ∷ 0x8F ∷ 0x9A ∷ 0x8F ∷ 0x00 ∷ 0x01 ∷ zeros 75) 8
    ∷ after_bank_read (0x8E ∷ 0x01 ∷ 0x8E ∷ 0x01 ∷ 0x8F ∷ 0x00 ∷ 0x8F ∷ 0x00 ∷ zeros 76) 8
    ∷ after_bank_read (0x8E ∷ 0x01 ∷ 0x8E ∷ 0x01 ∷ zeros 80) 4
    ∷ after_bank_read (0x8E ∷ 0x01 ∷ 0x8E ∷ 0x01 ∷ 0x8F ∷ 0x9A ∷ 0x8F ∷ 0x00 ∷ zeros 76) 84
    -- 24 80, a speed, is acknowledged; it is refused; it is not stored
    ∷ fed (0x24 ∷ 0x80 ∷ []) (ending speeding (zeros 84) (Acknowledged 16 0))
    ∷ fed (0x24 ∷ 0x80 ∷ []) (ending bench (zeros 84) (Refused 12))
    ∷ fed (0x24 ∷ 0x80 ∷ []) (ending (bench_at 1500 zero_store) (zeros 84) (Silent 16))
    ∷ []

-- the bench's board with bank 1 selected and a 7 in that bank's third cell; and once it has answered a call
abbrev pub bank_one : ℕ → Board
bank_one time =
    board_of (with_receiver (with_settings fresh_module (settings 1 0 1)) (idle_at time)) (zeros 4096) (zeros 42 ++ (7 ∷ zeros 10197))

abbrev pub called : ℕ → Board
called time = board_of (with_receiver (with_bidi fresh_module (registered_now fresh_bidi)) (idle_at time)) (zeros 4096) zero_store

-- "ERRORS THAT LOOK RIGHT", each as what it would give
abbrev pub wrong_looks : List Wrong
wrong_looks =
    -- "Taking the CRC over headers"
    after_bank_read (0x8E ∷ 0x01 ∷ 0x8E ∷ 0x01 ∷ 0x8F ∷ 0xCA ∷ 0x8F ∷ 0x00 ∷ zeros 76) 8
    -- "Using CV 1021 for 0x0C": bank 1 is selected, and its third cell is 7; asked for bank 0, bank 1's cells come
    ∷ feed (bank_one 0) (sized 3 3) (zeros 84) (bit_times 16 0) (levels_of (0x0C ∷ 0x00 ∷ []))
    (ending (bank_one 1500) (0x8F ∷ 0x00 ∷ 0x8F ∷ 0x00 ∷ 0x8F ∷ 0x07 ∷ 0x8E ∷ 0x01 ∷ 0x8F ∷ 0x30 ∷ 0x8F ∷ 0x00
    ∷ zeros 72) (Acknowledged 16 12))
    -- "Keeping a low half over a 0x00": state 128 goes on
    ∷ fed (0x6E ∷ 0x80 ∷ 0x00 ∷ 0x00 ∷ 0x6F ∷ 0x01 ∷ [])
    (ending (board_of (with_receiver fresh_module (idle_at 4700)) (zeros 16 ++ (1 ∷ zeros 4079)) zero_store) (zeros 84) (Silent 48))
    -- "Acknowledging a write to CV 900 in bank 0", stored or not
    ∷ fed (0x7F ∷ 0x83 ∷ 0x05 ∷ []) (ending (bench_at 2300 (5 ∷ zeros 10239)) (zeros 84) (Acknowledged 24 0))
    ∷ fed (0x7F ∷ 0x83 ∷ 0x05 ∷ []) (ending (bench_at 2300 zero_store) (zeros 84) (Acknowledged 24 0))
    -- "Letting an unforced empty call be answered each time": the second of two
    ∷ feed (called 0) bench_sheets (zeros 84) (bit_times 16 0) (levels_of (0x01 ∷ 0x01 ∷ []))
    (ending (called 1500) (0x81 ∷ 0x00 ∷ 0x81 ∷ 0x00 ∷ zeros 80) (Acknowledged 16 4))
    ∷ []

-- ---- commands, one or two to a row: what the locomotive is told, the states, the CVs, BiDi

-- the bench's record, states and store after n edges at 100 µs, the last of which ends a packet
abbrev pub bench_left : ℕ → Module → List ℕ → List ℕ → Board
bench_left edges m states store = board_of (with_receiver m (idle_at (100 * edges - 100))) states store

-- bytes that are not acknowledged, and the record and the states then; what the locomotive is then told
abbrev pub unanswered : List ℕ → Module → List ℕ → Wrong
unanswered bytes m states =
    fed bytes (ending (bench_left (8 * length bytes) m states zero_store) (zeros 84) (Silent (8 * length bytes)))

abbrev pub told : List ℕ → Drive → Wrong
told bytes d = unanswered bytes (with_drive fresh_module d) (zeros 4096)

-- the states then, and how many are on (C-05)
abbrev pub set : List ℕ → ℕ → List ℕ → Wrong
set bytes number states = unanswered bytes (with_states_on fresh_module number) states

abbrev pub wrong_told : List Wrong
wrong_told =
    -- the wanted speed goes to the actual one; a speed loses its direction; a load is not stored; a load with bit 7 set is stored
    told (0x25 ∷ 0x80 ∷ []) (with_actual restarted 0x80)
    ∷ told (0x24 ∷ 0x81 ∷ []) (with_actual restarted 0x01)
    ∷ told (0x26 ∷ 0x7F ∷ []) restarted
    ∷ told (0x26 ∷ 0x81 ∷ []) (with_load restarted 1)
    -- the address has its halves exchanged; bit 4 of 0x60 is F4 and not F0; 0x61 begins at F6; F28 is left out
    ∷ told (0x5E ∷ 0x34 ∷ 0x5F ∷ 0x12 ∷ []) (with_address restarted 0x12 0x34)
    ∷ told (0x60 ∷ 0x10 ∷ []) (with_functions restarted 0 5 0x10)
    ∷ told (0x61 ∷ 0x01 ∷ []) (with_functions restarted 6 8 0x01)
    ∷ told (0x63 ∷ 0xFF ∷ []) (with_functions restarted 21 7 0x7F)
    -- 0x6C with bit 1 clear leaves the functions on
    ∷ told (0x61 ∷ 0x01 ∷ 0x6C ∷ 0x01 ∷ []) (record { actual = 0; wanted = 0; load = 0; address = 0; functions = 32; control = 1 })
    -- state 1 is bit 0; all short states set bit 0 of byte 0 too, or byte 16 too; put off, they stay on; 129 is 128
    ∷ set (0x6D ∷ 0x81 ∷ []) 1 (1 ∷ zeros 4095)
    ∷ set (0x6D ∷ 0x80 ∷ []) 127 (replicate 16 255 ++ zeros 4080)
    ∷ set (0x6D ∷ 0x80 ∷ []) 127 (254 ∷ (replicate 16 255 ++ zeros 4079))
    ∷ set (0x6D ∷ 0x80 ∷ 0x6D ∷ 0x00 ∷ []) 0 (254 ∷ (replicate 15 255 ++ zeros 4080))
    ∷ set (0x6E ∷ 0x81 ∷ 0x6F ∷ 0x01 ∷ []) 1 (zeros 16 ++ (1 ∷ zeros 4079))
    ∷ []

-- one packet of three bytes: the settings, the store and the answer that come of it
abbrev pub asked : List ℕ → Settings → List ℕ → Given → Wrong
asked bytes s store given = fed bytes (ending (bench_left 24 (with_settings fresh_module s) (zeros 4096) store) (zeros 84) given)

abbrev pub wrong_cvs : List Wrong
wrong_cvs =
    -- CV 897 takes 4; CV 1020 is written from the line; CV 1021 is not; CV 898 is; CV 940, module 2's, is
    asked (0x7F ∷ 0x80 ∷ 0x04 ∷ []) (settings 4 0 0) zero_store (Acknowledged 24 0)
    ∷ asked (0x7F ∷ 0xFB ∷ 0x01 ∷ []) (settings 1 1 0) zero_store (Acknowledged 24 0)
    ∷ asked (0x7F ∷ 0xFC ∷ 0x05 ∷ []) (settings 1 0 0) zero_store (Silent 24)
    ∷ asked (0x7F ∷ 0x81 ∷ 0x00 ∷ []) (settings 1 0 0) zero_store (Acknowledged 24 0)
    ∷ asked (0x7F ∷ 0xAB ∷ 0x00 ∷ []) (settings 1 0 0) zero_store (Acknowledged 24 0)
    -- a verify that is true is not acknowledged, of a cell and of CV 898; one that is not true is
    ∷ asked (0x77 ∷ 0x85 ∷ 0x00 ∷ []) (settings 1 0 0) zero_store (Silent 24)
    ∷ asked (0x77 ∷ 0x81 ∷ 0x00 ∷ []) (settings 1 0 0) zero_store (Silent 24)
    ∷ asked (0x77 ∷ 0x85 ∷ 0x01 ∷ []) (settings 1 0 0) zero_store (Acknowledged 24 0)
    -- 1111 1010 writes 1 to bit 2: it is not done; it goes to bit 1; 1110 1010 asks for it, and is told true of a cell of 0
    ∷ asked (0x7B ∷ 0x85 ∷ 0xFA ∷ []) (settings 1 0 0) zero_store (Silent 24)
    ∷ asked (0x7B ∷ 0x85 ∷ 0xFA ∷ []) (settings 1 0 0) (0 ∷ 0 ∷ 2 ∷ zeros 10237) (Acknowledged 24 0)
    ∷ asked (0x7B ∷ 0x85 ∷ 0xEA ∷ []) (settings 1 0 0) zero_store (Acknowledged 24 0)
    ∷ []

-- an edge that is taken and completes nothing
abbrev pub taken : Receiver → EdgeAnswer
taken r = record { refusal = 0; heard = quiet r }

-- C-02: the thirteen first bytes from 0x70 to 0x7F that begin no CV packet
abbrev pub wrong_openers : List Wrong
wrong_openers =
    -- 70 has two bytes, so that 02 begins a packet; 6F and 80 have three
    fed (0x70 ∷ 0x01 ∷ 0x02 ∷ [])
    (ending (board_of (with_receiver fresh_module (holding (idle_at 2300) 0x02 0 1)) (zeros 4096) zero_store) (zeros 84) (Silent 24))
    ∷ fed (0x6F ∷ 0x01 ∷ 0x02 ∷ []) (ending (bench_at 2300 zero_store) (zeros 84) (Silent 24))
    ∷ fed (0x80 ∷ 0x01 ∷ 0x02 ∷ []) (ending (bench_at 2300 zero_store) (zeros 84) (Silent 24))
    -- the write behind 71 7F 85 is lost, as if 71 had two bytes; 71 7F 85 itself is acknowledged
    ∷ fed (0x71 ∷ 0x7F ∷ 0x85 ∷ 0x7F ∷ 0x85 ∷ 0x07 ∷ []) (ending (bench_at 4700 zero_store) (zeros 84) (Silent 48))
    ∷ fed (0x71 ∷ 0x7F ∷ 0x85 ∷ []) (ending (bench_at 2300 zero_store) (zeros 84) (Acknowledged 24 0))
    -- a held half is kept: state 128 goes on; 7C 07 08 resets: the speed is gone
    ∷ set (0x6E ∷ 0x80 ∷ 0x70 ∷ 0x01 ∷ 0x02 ∷ 0x6F ∷ 0x01 ∷ []) 1 (zeros 16 ++ (1 ∷ zeros 4079))
    ∷ told (0x24 ∷ 0x80 ∷ 0x7C ∷ 0x07 ∷ 0x08 ∷ []) restarted
    -- row 12: 70 01 held is refused; 6F 01 is taken, and 80 01
    ∷ edge (holding (idle_at 0) 0x70 0x01 2) 100 1 (refusing 12 (holding (idle_at 0) 0x70 0x01 2))
    ∷ edge (holding (idle_at 0) 0x6F 0x01 2) 100 1 (taken (with_bits (at_time (holding (idle_at 0) 0x6F 0x01 2) 100) 1 1))
    ∷ edge (holding (idle_at 0) 0x80 0x01 2) 100 1 (taken (with_bits (at_time (holding (idle_at 0) 0x80 0x01 2) 100) 1 1))
    ∷ []

-- two legal messages
abbrev pub message : List ℕ
message = 0x83 ∷ 0x01 ∷ 0x83 ∷ 0x02 ∷ []

abbrev pub other_message : List ℕ
other_message = 0x80 ∷ 0x04 ∷ 0x80 ∷ 0x0F ∷ []

-- statuses 1 and 2, two messages, and a packet of two bytes: what is kept then, and the reply
abbrev pub talking : ℕ → List ℕ → Bool → Module
talking queued queue registered =
    with_bidi fresh_module (record { status0 = 1; status1 = 2; registered = registered; queued = queued; queue = queue })

abbrev pub two_messages : List ℕ
two_messages = message ++ (other_message ++ zeros 24)

abbrev pub calling : ℕ → ℕ → Module → List ℕ → Wrong
calling first second m reply =
    feed (board_of (talking 2 two_messages false) (zeros 4096) zero_store) bench_sheets (zeros 84) (bit_times 16 0)
    (levels_of (first ∷ second ∷ []))
    (ending (bench_left 16 m (zeros 4096) zero_store) (reply ++ zeros 80) (Acknowledged 16 4))

abbrev pub wrong_calls : List Wrong
wrong_calls =
    -- forced: the statuses are exchanged; number 2 gives them too; a message leaves the queue; the call does not register
    calling 0x01 0x05 (talking 2 two_messages true) (0x8A ∷ 0x02 ∷ 0x8A ∷ 0x01 ∷ [])
    ∷ calling 0x01 0x15 (talking 2 two_messages true) (0x8A ∷ 0x01 ∷ 0x8A ∷ 0x02 ∷ [])
    ∷ calling 0x01 0x05 (talking 1 (other_message ++ zeros 28) true) (0x8A ∷ 0x01 ∷ 0x8A ∷ 0x02 ∷ [])
    ∷ calling 0x01 0x05 (talking 2 two_messages false) (0x8A ∷ 0x01 ∷ 0x8A ∷ 0x02 ∷ [])
    -- not forced: the newest message goes first; the oldest stays in the queue; the freed bytes are not 0
    ∷ calling 0x01 0x01 (talking 1 (message ++ zeros 28) true) other_message
    ∷ calling 0x01 0x01 (talking 2 two_messages true) message
    ∷ calling 0x01 0x01 (talking 1 (other_message ++ (other_message ++ zeros 24)) true) message
    -- a call of module 2 is answered, and one of nobody
    ∷ calling 0x01 0x02 (talking 1 (other_message ++ zeros 28) true) message
    ∷ calling 0x01 0x00 (talking 1 (other_message ++ zeros 28) true) message
    -- 0F AA, CV 939: the next CV, module 2's, is read; 0F 82, CV 899: a common CV is answered
    ∷ calling 0x0F 0xAA (talking 2 two_messages false) (0x8F ∷ 0x00 ∷ 0x8F ∷ 0x00 ∷ [])
    ∷ calling 0x0F 0x82 (talking 2 two_messages false) (0x8F ∷ 0x00 ∷ 0x8F ∷ 0x00 ∷ [])
    ∷ []

-- one bit is held, of an edge at 0
abbrev pub one_bit : Board
one_bit = board_of (with_receiver fresh_module (with_bits (idle_at 0) 1 1)) (zeros 4096) zero_store

abbrev pub wrong_refusals : List Wrong
wrong_refusals =
    -- an impossible record is taken; a reply room of 83 is taken; 5 is given where 4 comes first; bank 0 of one cell is taken
    feed (board_of overloaded (zeros 4096) zero_store) bench_sheets (zeros 84) [] []
    (ending (board_of overloaded (zeros 4096) zero_store) (zeros 84) (Silent 0))
    ∷ feed bench bench_sheets (zeros 83) [] [] (ending bench (zeros 83) (Silent 0))
    ∷ feed bench (sized 1 40) (zeros 83) [] [] (ending bench (zeros 83) (Refused 5))
    ∷ feed bench (sized 1 40) (zeros 84) [] [] (ending bench (zeros 84) (Silent 0))
    -- lists of two lengths are taken as far as the shorter goes
    ∷ feed bench bench_sheets (zeros 84) (0 ∷ 100 ∷ []) (1 ∷ []) (ending one_bit (zeros 84) (Silent 1))
    -- the second of two edges is bad: it is counted; the first is forgotten
    ∷ feed bench bench_sheets (zeros 84) (0 ∷ 100 ∷ []) (1 ∷ 2 ∷ []) (ending one_bit (zeros 84) (BadEdge 2 2))
    ∷ feed bench bench_sheets (zeros 84) (0 ∷ 100 ∷ []) (1 ∷ 2 ∷ []) (ending bench (zeros 84) (BadEdge 2 1))
    -- one edge, bad in both ways: 3 is given where 2 comes first
    ∷ feed (bench_at 50 zero_store) bench_sheets (zeros 84) (0 ∷ []) (2 ∷ []) (ending (bench_at 50 zero_store) (zeros 84) (BadEdge 3 0))
    ∷ []

-- ---- the application's entries, on a fresh record or on one that has selected bank 3 and holds a message

abbrev pub busy_with : ℕ → List ℕ → Module
busy_with queued queue = with_bidi (with_settings fresh_module (settings 2 1 3)) (registered_now (with_queue fresh_bidi queued queue))

abbrev pub busy : Module
busy = busy_with 1 (message ++ zeros 28)

abbrev pub full : Module
full = with_bidi fresh_module (with_queue fresh_bidi 8 (replicate 32 0x83))

abbrev pub wrong_asked : List Wrong
wrong_asked =
    -- a restart: the states stay; CV 1021 is forgotten; WAIT stays; states of 4,095 bytes are taken; an impossible record is mended
    restarting fresh_module (replicate 4096 1) (restart (keeping 0 fresh_module) (replicate 4096 1))
    ∷ restarting busy (zeros 4096) (restart (keeping 0 (with_settings fresh_module (settings 2 0 0))) (zeros 4096))
    ∷ restarting busy (zeros 4096) (restart (keeping 0 (with_settings fresh_module (settings 2 1 3))) (zeros 4096))
    ∷ restarting fresh_module (zeros 4095) (restart (keeping 0 fresh_module) (zeros 4095))
    ∷ restarting overloaded (zeros 4096) (restart (keeping 0 fresh_module) (zeros 4096))
    -- a post: the message is lost; it comes before the older one; the ninth is taken; an illegal one is told as a full queue
    ∷ post fresh_module message (keeping 0 fresh_module)
    ∷ post busy other_message (keeping 0 (busy_with 2 (other_message ++ (message ++ zeros 24))))
    ∷ post full message (keeping 0 full)
    ∷ post full (0x81 ∷ 0x20 ∷ 0x83 ∷ 0x02 ∷ []) (keeping 7 full)
    -- a status: it goes to the other one; bit 2 of status 0 is taken; number 2 counts as 1
    ∷ status fresh_module 0 0x03 (keeping 0 (with_bidi fresh_module (with_statuses fresh_bidi 0 0x03)))
    ∷ status fresh_module 0 0x04 (keeping 0 (with_bidi fresh_module (with_statuses fresh_bidi 0x04 0)))
    ∷ status fresh_module 2 0x01 (keeping 0 (with_bidi fresh_module (with_statuses fresh_bidi 0 0x01)))
    -- WAIT: put on, it stays off; put off, it stays on; CV 1020 becomes 2
    ∷ wait fresh_module true (keeping 0 fresh_module)
    ∷ wait busy false (keeping 0 busy)
    ∷ wait fresh_module true (keeping 0 (with_settings fresh_module (settings 1 2 0)))
    ∷ []

-- messages that are not legal, or are, on a fresh record: each is taken, or refused, against the list of document 01
abbrev pub queues : List ℕ → Wrong
queues m = post fresh_module m (keeping 0 (with_bidi fresh_module (with_queue fresh_bidi 1 (m ++ zeros 28))))

abbrev pub wrong_messages : List Wrong
wrong_messages =
    -- taken: 80 with 1; 81 with 32, with 96, with kind 8; 82 with kind 29; 85 with 8; 86
    queues (0x80 ∷ 0x01 ∷ 0x83 ∷ 0x00 ∷ [])
    ∷ queues (0x81 ∷ 0x20 ∷ 0x83 ∷ 0x00 ∷ [])
    ∷ queues (0x81 ∷ 0x60 ∷ 0x83 ∷ 0x00 ∷ [])
    ∷ queues (0x81 ∷ 0x08 ∷ 0x83 ∷ 0x00 ∷ [])
    ∷ queues (0x82 ∷ 0x1D ∷ 0x83 ∷ 0x00 ∷ [])
    ∷ queues (0x85 ∷ 0x08 ∷ 0x83 ∷ 0x00 ∷ [])
    ∷ queues (0x86 ∷ 0x00 ∷ 0x83 ∷ 0x00 ∷ [])
    -- taken: 88 with 16; 88 without 89; 89 first; 88 second
    ∷ queues (0x88 ∷ 0x10 ∷ 0x89 ∷ 0x00 ∷ [])
    ∷ queues (0x88 ∷ 0x00 ∷ 0x83 ∷ 0x00 ∷ [])
    ∷ queues (0x89 ∷ 0x00 ∷ 0x83 ∷ 0x00 ∷ [])
    ∷ queues (0x83 ∷ 0x00 ∷ 0x88 ∷ 0x00 ∷ [])
    -- refused by 6: 85 with 7; 82 with kind 28; 88 with 15 before 89
    ∷ post fresh_module (0x85 ∷ 0x07 ∷ 0x83 ∷ 0x00 ∷ []) (keeping 6 fresh_module)
    ∷ post fresh_module (0x82 ∷ 0x1C ∷ 0x83 ∷ 0x00 ∷ []) (keeping 6 fresh_module)
    ∷ post fresh_module (0x88 ∷ 0x0F ∷ 0x89 ∷ 0xFF ∷ []) (keeping 6 fresh_module)
    ∷ []

-- ---- one edge on a receiver, by value and in its place: six bits of 1, the first at 100; and 7F 85, complete at 1,500, with seven bits
-- of a third byte

abbrev pub six_bits : Receiver
six_bits = with_bits (clock_at 600 100) 0x3F 6

abbrev pub nearly_whole : Receiver
nearly_whole = with_bits (at_time (holding (idle_at 1500) 0x7F 0x85 2) 2200) 0x07 7

-- an edge that goes on: the time of the last edge is another, and the bits
abbrev pub going_on : Receiver → ℕ → ℕ → ℕ → EdgeAnswer
going_on r time bits count = taken (with_bits (at_time r time) bits count)

abbrev pub wrong_edges : List Wrong
wrong_edges =
    -- a bit goes below those held; 7,999 µs is a pause; 8,000 is none; equal times are refused; level 2 counts as 1
    edge six_bits 700 0 (going_on six_bits 700 0x7E 7)
    ∷ edge six_bits 8099 1 (taken (with_bits (idle_at 8099) 1 1))
    ∷ edge six_bits 8100 1 (going_on six_bits 8100 0x7F 7)
    ∷ edge six_bits 600 1 (refusing 3 six_bits)
    ∷ edge six_bits 700 2 (going_on six_bits 700 0x7F 7)
    -- the packet is lost; its bytes stay held; eight held bits are taken; a refused edge moves the time
    ∷ edge nearly_whole 2300 0 (taken (idle_at 2300))
    ∷ edge nearly_whole 2300 0
    (record { refusal = 0; heard = record { receiver = holding (idle_at 2300) 0x7F 0x85 2; packet = packet_of3 0x7F 0x85 0x07 } })
    ∷ edge (with_bits (idle_at 0) 0 8) 100 1 (going_on (with_bits (idle_at 0) 0 8) 100 1 1)
    ∷ edge six_bits 500 1 (refusing 3 (at_time six_bits 500))
    -- in its place: the receiver stays as it was; no packet comes; a packet of two; the right edge is refused
    ∷ edge_in_place nearly_whole 2300 0 (in_place (record { refusal = 0; packet = packet_of3 0x7F 0x85 0x07 }) nearly_whole)
    ∷ edge_in_place nearly_whole 2300 0 (in_place (record { refusal = 0; packet = no_packet }) (idle_at 2300))
    ∷ edge_in_place nearly_whole 2300 0 (in_place (record { refusal = 0; packet = packet_of2 0x7F 0x85 }) (idle_at 2300))
    ∷ edge_in_place nearly_whole 2300 0 (in_place (record { refusal = 12; packet = no_packet }) nearly_whole)
    ∷ []

-- ---- C-03, the clock: sixBits of above; seven bits of 1, the first at 0; the bench's board with a low half held and any receiver

abbrev pub seven_bits : Receiver
seven_bits = with_bits (clock_at 600 0) 0x7F 7

-- the bench's board with such a record and receiver
abbrev pub bench_with : Module → Receiver → Board
bench_with m r = board_of (with_receiver m r) (zeros 4096) zero_store

abbrev pub half_held : Receiver → Board
half_held = bench_with (with_half fresh_module StateHalf 0x80)

abbrev pub wrong_clocks : List Wrong
wrong_clocks =
    -- the old reading: 7,999 µs after the last edge goes on, though it is 8,499 after the start
    edge six_bits 8599 1 (going_on six_bits 8599 0x7F 7)
    -- the start is not moved by a byte; it is moved by a bit; it is kept over a pause; the first edge starts the clock at 0, or doesn't
    -- mark it
    ∷ edge seven_bits 700 1 (taken (record { last = 700; start = 0; started = 1; bits = 0; count = 0; first = 0xFF; second = 0; held = 1 }))
    ∷ edge six_bits 700 1 (taken (with_bits (idle_at 700) 0x7F 7))
    ∷ edge six_bits 8100 1 (taken (with_bits (clock_at 8100 100) 1 1))
    ∷ edge fresh_receiver 6000 1 (taken (with_bits (clock_at 6000 0) 1 1))
    ∷ edge fresh_receiver 6000 1 (taken (with_bits (clock_marked 6000 6000 0) 1 1))
    -- a fresh receiver's first edge at 9,000 counts as a pause: its start is right, but a held half is dropped (a record set so)
    ∷ feed (half_held fresh_receiver) bench_sheets (zeros 84) (9000 ∷ []) (1 ∷ [])
    (ending (board_of (with_receiver fresh_module (with_bits (idle_at 9000) 1 1)) (zeros 4096) zero_store) (zeros 84) (Silent 1))
    -- a held half outlives a pause
    ∷ feed (half_held (idle_at 1500)) bench_sheets (zeros 84) (9500 ∷ []) (1 ∷ [])
    (ending (half_held (with_bits (idle_at 9500) 1 1)) (zeros 84) (Silent 1))
    -- any other mark than 1 counts as none; it stays as it is
    ∷ edge (clock_marked 600 600 255) 8599 1 (taken (with_bits (idle_at 8599) 1 1))
    ∷ edge (clock_marked 600 600 255) 8599 1 (taken (with_bits (clock_marked 8599 600 255) 1 1))
    -- a start after the last edge is taken; a bit held without a start is, and a byte; a start without the mark is judged
    ∷ edge (clock_at 600 601) 700 1 (taken (with_bits (clock_at 700 601) 1 1))
    ∷ edge (with_bits (clock_marked 600 0 0) 1 1) 700 1 (taken (with_bits (idle_at 700) 3 2))
    ∷ edge (byte_unmarked 600) 700 1 (taken (with_bits (holding (idle_at 700) 0x24 0 1) 1 1))
    ∷ edge (clock_marked 600 601 0) 700 1 (refusing 12 (clock_marked 600 601 0))
    -- a restart lets the clock run on; a byte without times does not start it
    ∷ restarting (with_receiver fresh_module (idle_at 100)) (zeros 4096)
    (restart (keeping 0 (with_receiver fresh_module (idle_at 0))) (zeros 4096))
    ∷ lines bench bench_sheets (zeros 84) (replicate 384 7) (0x24 ∷ [])
    (leaving (record { kept = with_receiver fresh_module (byte_unmarked 0); answer = Text 0 }) (zeros 4096) zero_store (zeros 84)
    (replicate 384 7))
    -- in its place: the start is not moved by a byte
    ∷ edge_in_place seven_bits 700 1 (in_place (record { refusal = 0; packet = no_packet })
    (record { last = 700; start = 0; started = 1; bits = 0; count = 0; first = 0xFF; second = 0; held = 1 }))
    ∷ []

-- ---- `lines::write`: 77 85 08 and a byte of the next packet, on the bench's board, with room for the text of four bytes

abbrev pub written : List ℕ → List ℕ → Wrong
written text rest =
    lines bench bench_sheets (zeros 84) (replicate 768 7) (0x77 ∷ 0x85 ∷ 0x08 ∷ 0x24 ∷ [])
    (leaving (record { kept = with_receiver fresh_module (holding (idle_at 0) 0x24 0 1); answer = Text (length text) })
    (zeros 4096) zero_store (zeros 84) (text ++ rest))

abbrev pub wrong_lines : List Wrong
wrong_lines =
    -- the verify is told as acknowledged; a line for each byte; a byte behind the text is written
    written (65 ∷ 67 ∷ 75 ∷ 10 ∷ []) (replicate 764 7)
    ∷ written (45 ∷ 10 ∷ 45 ∷ 10 ∷ 45 ∷ 10 ∷ 45 ∷ 10 ∷ []) (replicate 760 7)
    ∷ written (45 ∷ 10 ∷ []) (0 ∷ replicate 765 7)
    -- held bits are refused by 12; too little room for text by 4; each is given where the table's own 5 comes first; such a room is taken;
    -- a right call is refused
    ∷ lines one_bit bench_sheets (zeros 84) (zeros 256) [] (untaken one_bit (zeros 84) (zeros 256) (Untaken 12))
    ∷ lines bench bench_sheets (zeros 84) (zeros 255) [] (untaken bench (zeros 84) (zeros 255) (Untaken 4))
    ∷ lines one_bit (sized 1 40) (zeros 84) [] [] (untaken one_bit (zeros 84) [] BitsHeld)
    ∷ lines bench (sized 1 40) (zeros 84) [] [] (untaken bench (zeros 84) [] NoRoomForText)
    ∷ lines bench bench_sheets (zeros 84) (zeros 255) [] (untaken bench (zeros 84) (zeros 255) (Text 0))
    ∷ lines bench bench_sheets (zeros 84) (zeros 256) [] (untaken bench (zeros 84) (zeros 256) (Untaken 4))
    -- the byte of the next packet is forgotten
    ∷ lines bench bench_sheets (zeros 84) (replicate 768 7) (0x77 ∷ 0x85 ∷ 0x08 ∷ 0x24 ∷ [])
    (leaving (record { kept = with_receiver fresh_module (idle_at 0); answer = Text 2 }) (zeros 4096) zero_store (zeros 84)
    (45 ∷ 10 ∷ replicate 766 7))
    ∷ []

-- ---- the host's encoder, and the two halves of a long state

abbrev pub saying : ℕ → ℕ → Encoded
saying first second = record { refusal = 0; packet = packet_of2 first second }

abbrev pub wrong_encodings : List Wrong
wrong_encodings =
    -- a speed: no packet; the other speed's; refused. A load of 128 has a packet; CV 897 is said as V = 1; a refusal with a packet
    encode (ActualSpeed 0x80) (record { refusal = 0; packet = no_packet })
    ∷ encode (ActualSpeed 0x80) (saying 0x25 0x80)
    ∷ encode (ActualSpeed 0x80) (record { refusal = 8; packet = no_packet })
    ∷ encode (Load 128) (saying 0x26 0x80)
    ∷ encode (WriteByte 897 3) (record { refusal = 0; packet = packet_of3 0x7F 0x81 0x03 })
    ∷ encode (Load 128) (record { refusal = 8; packet = packet_of2 0x26 0x80 })
    -- 300 is 2·128 + 44: halved at bit 8; off for on; 32,768 has halves, and 32,767 has none
    ∷ long_state 300 true (Pair (record { low = LongLow 44 true; high = LongHigh 1 }))
    ∷ long_state 300 true (Pair (record { low = LongLow 44 false; high = LongHigh 2 }))
    ∷ long_state 32768 true (Pair (record { low = LongLow 0 true; high = LongHigh 0 }))
    ∷ long_state 32767 true (Unpaired 8)
    -- address 300 is 256 + 44: its halves exchanged; halved at bit 7
    ∷ address 300 (record { low = AddressLow 1; high = AddressHigh 44 })
    ∷ address 300 (record { low = AddressLow 44; high = AddressHigh 2 })
    -- the checksum of 01 is 5E: the high bit first (the table of 0x31), and a start that is not 0
    ∷ checksum (0x01 ∷ []) 0x31
    ∷ checksum (0x01 ∷ []) 0x00
    -- C-04, that of 01 01 is 9A: the index without the exclusive or; entry 5F of the table one bit off
    ∷ checksum (0x01 ∷ 0x01 ∷ []) 0x5E
    ∷ checksum (0x01 ∷ 0x01 ∷ []) 0x9B
    -- four lanes of 126 bytes, 01 and zeros, joined as if 126 zeros changed nothing
    ∷ checksum (0x01 ∷ zeros 503) 0x19
    ∷ []

-- ---- C-12: bytes that are not acknowledged, and the position then
abbrev pub locating : List ℕ → Option Position → Wrong
locating bytes p = unanswered bytes (with_position fresh_module p) (zeros 4096)

-- the bench's board with such a receiver, a high half held, and such a position
abbrev pub high_held : Receiver → Option Position → Board
high_held r p = bench_with (with_half (with_position fresh_module p) PositionHalf 3) r

-- a record, handed to the feed without an edge, and with what it answers
abbrev pub handed : Module → Given → Wrong
handed m given =
    feed (board_of m (zeros 4096) zero_store) bench_sheets (zeros 84) [] [] (ending (board_of m (zeros 4096) zero_store) (zeros 84) given)

abbrev pub wrong_positions : List Wrong
wrong_positions =
    -- 0x89 acts on another kind of half; on none; over a 0x00
    locating (0x5E ∷ 0x03 ∷ 0x89 ∷ 0x07 ∷ []) (Some (position_at 775 false))
    ∷ locating (0x6E ∷ 0x03 ∷ 0x89 ∷ 0x07 ∷ []) (Some (position_at 775 false))
    ∷ locating (0x89 ∷ 0x07 ∷ []) (Some (position_at 7 false))
    ∷ locating (0x88 ∷ 0x03 ∷ 0x00 ∷ 0x00 ∷ 0x89 ∷ 0x07 ∷ []) (Some (position_at 775 false))
    -- a half of another kind outlives it, or it one of another kind: each kind has a place of its own
    ∷ set (0x6E ∷ 0x80 ∷ 0x88 ∷ 0x03 ∷ 0x6F ∷ 0x01 ∷ []) 1 (zeros 16 ++ (1 ∷ zeros 4079))
    ∷ locating (0x88 ∷ 0x03 ∷ 0x5E ∷ 0x34 ∷ 0x89 ∷ 0x07 ∷ []) (Some (position_at 775 false))
    -- 88 10 is held; it is read by its lower four bits; it keeps the half before it; 88 0F is not held
    ∷ unanswered (0x88 ∷ 0x10 ∷ []) (with_half fresh_module PositionHalf 0x10) (zeros 4096)
    ∷ locating (0x88 ∷ 0x13 ∷ 0x89 ∷ 0x07 ∷ []) (Some (position_at 775 false))
    ∷ locating (0x88 ∷ 0x03 ∷ 0x88 ∷ 0x10 ∷ 0x89 ∷ 0x07 ∷ []) (Some (position_at 775 false))
    ∷ unanswered (0x88 ∷ 0x0F ∷ []) fresh_module (zeros 4096)
    -- the extended mark is in bit 4, so that bit 3 is one of the address or is not read; it is set though bit 3 is 0; the bytes are
    -- exchanged
    ∷ locating (0x88 ∷ 0x0B ∷ 0x89 ∷ 0x07 ∷ []) (Some (position_at 2823 false))
    ∷ locating (0x88 ∷ 0x0B ∷ 0x89 ∷ 0x07 ∷ []) (Some (position_at 775 false))
    ∷ locating (0x88 ∷ 0x03 ∷ 0x89 ∷ 0x07 ∷ []) (Some (position_at 775 true))
    ∷ locating (0x88 ∷ 0x03 ∷ 0x89 ∷ 0x07 ∷ []) (Some (position_at 1795 false))
    -- it is not heard; it is heard and a second one is not; it is acknowledged; the half stays held
    ∷ locating (0x88 ∷ 0x03 ∷ 0x89 ∷ 0x07 ∷ []) None
    ∷ locating (0x88 ∷ 0x03 ∷ 0x89 ∷ 0x07 ∷ 0x88 ∷ 0x0C ∷ 0x89 ∷ 0x01 ∷ []) (Some (position_at 775 false))
    ∷ fed (0x88 ∷ 0x03 ∷ 0x89 ∷ 0x07 ∷ [])
    (ending (bench_left 32 (with_position fresh_module (Some (position_at 775 false))) (zeros 4096) zero_store) (zeros 84) (Acknowledged 32 0))
    ∷ unanswered (0x88 ∷ 0x03 ∷ 0x89 ∷ 0x07 ∷ []) (with_half (with_position fresh_module (Some (position_at 775 false))) PositionHalf 3)
    (zeros 4096)
    -- a pause keeps the half; a pause forgets the position
    ∷ feed (high_held (idle_at 1500) None) bench_sheets (zeros 84) (9500 ∷ []) (1 ∷ [])
    (ending (high_held (with_bits (idle_at 9500) 1 1) None) (zeros 84) (Silent 1))
    ∷ feed (high_held (idle_at 1500) (Some (position_at 775 false))) bench_sheets (zeros 84) (9500 ∷ []) (1 ∷ [])
    (ending (board_of (with_receiver fresh_module (with_bits (idle_at 9500) 1 1)) (zeros 4096) zero_store) (zeros 84) (Silent 1))
    -- a restart keeps the position; a post forgets it
    ∷ restarting (with_position fresh_module (Some (position_at 775 false))) (zeros 4096)
    (restart (keeping 0 (with_position fresh_module (Some (position_at 775 false)))) (zeros 4096))
    ∷ post (with_position fresh_module (Some (position_at 775 false))) (0x80 ∷ 0x00 ∷ 0x80 ∷ 0x00 ∷ [])
    (keeping 0 (with_bidi fresh_module (with_queue fresh_bidi 1 (0x80 ∷ 0x00 ∷ 0x80 ∷ 0x00 ∷ zeros 28))))
    -- row 12: 2,048 and a held 16 pass, 2,047 and a held 15 don't
    ∷ handed (with_position fresh_module (Some (position_at 2048 false))) (Silent 0)
    ∷ handed (with_position fresh_module (Some (position_at 2047 false))) (Refused 12)
    ∷ handed (with_half fresh_module PositionHalf 16) (Silent 0)
    ∷ handed (with_half fresh_module PositionHalf 15) (Refused 12)
    -- the encoder: 16 has a packet, 15 has none; the low half is said by 0x88
    ∷ encode (PositionHigh 16) (saying 0x88 0x10)
    ∷ encode (PositionHigh 15) (record { refusal = 8; packet = no_packet })
    ∷ encode (PositionLow 7) (saying 0x88 0x07)
    ∷ []

-- ---- C-05: bytes to the bench's board with such a number of states on kept, and these states; the number and the states then
abbrev pub switching : ℕ → List ℕ → List ℕ → ℕ → List ℕ → Wrong
switching before states bytes after then =
    let edges = 8 * length bytes in
    feed (board_of (with_states_on fresh_module before) states zero_store) bench_sheets (zeros 84) (bit_times edges 0) (levels_of bytes)
    (ending (bench_left edges (with_states_on fresh_module after) then zero_store) (zeros 84) (Silent edges))

-- state 1 alone; states 1 to 127; state 200 alone
abbrev pub state_one : List ℕ
state_one = 2 ∷ zeros 4095

abbrev pub short_states : List ℕ
short_states = 254 ∷ (replicate 15 255 ++ zeros 4080)

abbrev pub state200 : List ℕ
state200 = zeros 25 ++ (1 ∷ zeros 4070)

abbrev pub wrong_numbers : List Wrong
wrong_numbers =
    -- one state is not counted; one that is on already counts twice, one that is off already counts down; putting off counts up
    switching 0 (zeros 4096) (0x6D ∷ 0x81 ∷ []) 0 state_one
    ∷ switching 1 state_one (0x6D ∷ 0x81 ∷ []) 2 state_one
    ∷ switching 0 (zeros 4096) (0x6D ∷ 0x01 ∷ []) 65535 (zeros 4096)
    ∷ switching 1 state_one (0x6D ∷ 0x01 ∷ []) 2 (zeros 4096)
    -- a long state is not counted
    ∷ switching 0 (zeros 4096) (0x6E ∷ 0xC8 ∷ 0x6F ∷ 0x01 ∷ []) 0 state200
    -- the short broadcast sets and does not move; it moves by 127 whatever was on; it counts bit 0 of byte 0, or forgets state 127
    ∷ switching 1 state200 (0x6D ∷ 0x00 ∷ []) 0 state200
    ∷ switching 1 state_one (0x6D ∷ 0x80 ∷ []) 128 short_states
    ∷ switching 0 (1 ∷ zeros 4095) (0x6D ∷ 0x80 ∷ []) 126 short_states
    ∷ switching 0 (zeros 4096) (0x6D ∷ 0x80 ∷ []) 128 short_states
    ∷ switching 0 (zeros 4096) (0x6D ∷ 0x80 ∷ []) 126 short_states
    -- the long broadcast moves a wrong number and does not set it; it counts bit 0 of byte 0
    ∷ switching 5 (zeros 4096) (0x6E ∷ 0x80 ∷ 0x6F ∷ 0x00 ∷ []) 32772 (254 ∷ replicate 4095 255)
    ∷ switching 0 (zeros 4096) (0x6E ∷ 0x80 ∷ 0x6F ∷ 0x00 ∷ []) 32768 (254 ∷ replicate 4095 255)
    -- the number stops at 65,535; it stops at 0; it is kept modulo 32,768; a wrong one is put right by a state's command
    ∷ switching 65535 (zeros 4096) (0x6D ∷ 0x81 ∷ []) 65535 state_one
    ∷ switching 0 state_one (0x6D ∷ 0x01 ∷ []) 0 (zeros 4096)
    ∷ switching 32767 (zeros 4096) (0x6D ∷ 0x81 ∷ []) 0 state_one
    ∷ switching 5 (zeros 4096) (0x6D ∷ 0x81 ∷ []) 1 state_one
    -- a restart keeps it; a post, a status, WAIT forget it; another entry than the check refuses a wrong one
    ∷ restarting (with_states_on fresh_module 5) (zeros 4096) (restart (keeping 0 (with_states_on fresh_module 5)) (zeros 4096))
    ∷ post (with_states_on fresh_module 5) (0x80 ∷ 0x00 ∷ 0x80 ∷ 0x00 ∷ [])
    (keeping 0 (with_bidi fresh_module (with_queue fresh_bidi 1 (0x80 ∷ 0x00 ∷ 0x80 ∷ 0x00 ∷ zeros 28))))
    ∷ status (with_states_on fresh_module 5) 0 0x01 (keeping 0 (with_bidi fresh_module (with_statuses fresh_bidi 0x01 0)))
    ∷ wait (with_states_on fresh_module 5) true (keeping 0 (with_settings fresh_module (settings 1 1 0)))
    ∷ handed (with_states_on fresh_module 5) (Refused 12)
    -- the entry for a display: it refuses a wrong number; it gives 0 for the number kept; it takes an impossible record; F28 is not counted;
    -- F0 is not; the states' number stands for the functions' too
    ∷ shown (with_states_on fresh_module 65535) (Uncounted 12)
    ∷ shown (with_states_on fresh_module 5) (On 0 0)
    ∷ shown overloaded (On 0 0)
    ∷ shown (with_drive fresh_module (with_functions restarted 28 1 1)) (On 0 0)
    ∷ shown (with_drive fresh_module (with_functions restarted 0 1 1)) (On 0 0)
    ∷ shown (with_states_on fresh_module 5) (On 5 5)
    ∷ []

-- wrong answers of the check entry: over states that are all off, with bit 0 of byte 0 alone, with every byte 255
abbrev pub wrong_checks : List Wrong
wrong_checks =
    -- a true number is refused; a wrong one passes, or gives what was counted
    check fresh_module (zeros 4096) (Uncounted 12)
    ∷ check (with_states_on fresh_module 1) (zeros 4096) (On 1 0)
    ∷ check (with_states_on fresh_module 1) (zeros 4096) (On 0 0)
    -- 12 for the number comes before 4; 4 before the record's 12; other lengths pass
    ∷ check (with_states_on fresh_module 1) (zeros 4095) (Uncounted 12)
    ∷ check overloaded (zeros 4095) (Uncounted 4)
    ∷ check fresh_module (zeros 4095) (On 0 0)
    ∷ check fresh_module (zeros 4097) (On 0 0)
    -- an impossible record passes; F28 is not counted
    ∷ check overloaded (zeros 4096) (On 0 0)
    ∷ check (with_drive fresh_module (with_functions restarted 28 1 1)) (zeros 4096) (On 0 0)
    -- bit 0 of byte 0 is counted: a true number is refused, and a wrong one passes
    ∷ check fresh_module (1 ∷ zeros 4095) (Uncounted 12)
    ∷ check (with_states_on fresh_module 1) (1 ∷ zeros 4095) (On 1 0)
    ∷ check (with_states_on fresh_module 32768) (replicate 4096 255) (On 32768 0)
    ∷ check (with_states_on fresh_module 32767) (replicate 4096 255) (Uncounted 12)
    ∷ []

-- ---- C-13: sheets lent to the feed with no edge; bank 254 selected, and a packet; the bank view

abbrev pub lent_sheets : Sheets → Given → Wrong
lent_sheets sheets given = feed bench sheets (zeros 84) [] [] (ending bench (zeros 84) given)

-- the bench's board with bank 254 selected, at a time, with such a store
abbrev pub in_fixed : ℕ → List ℕ → Board
in_fixed time store = board_of (with_receiver (with_settings fresh_module (settings 1 0 254)) (idle_at time)) (zeros 4096) store

-- a store with 1 and 2 in the old places of bank 254
abbrev pub old_places : List ℕ
old_places = zeros 10160 ++ (1 ∷ 2 ∷ zeros 78)

-- three bytes, of which the last edge comes at 2,300 µs, in bank 254, with the other good sheet
abbrev pub heard_in_fixed : List ℕ → List ℕ → List ℕ → Given → Wrong
heard_in_fixed bytes store then given =
    feed (in_fixed 0 store) (fixed_as other_fixed) (zeros 84) (bit_times 24 0) (levels_of bytes) (ending (in_fixed 2300 then) (zeros 84) given)

abbrev pub wrong_fixed : List Wrong
wrong_fixed =
    -- byte 1 is not asked; it is asked before the length; other lengths pass; a good sheet is refused
    lent_sheets (fixed_as (0 ∷ 10 ∷ zeros 38)) (Silent 0)
    ∷ lent_sheets (fixed_as (0 ∷ 10 ∷ zeros 37)) (Refused 5)
    ∷ lent_sheets (fixed_as (0 ∷ 11 ∷ zeros 37)) (Silent 0)
    ∷ lent_sheets (fixed_as (0 ∷ 11 ∷ zeros 39)) (Silent 0)
    ∷ lent_sheets (fixed_as other_fixed) (Refused 5)
    -- CV 901 verifies as what the store holds there, or not as 11; CV 900 verifies as the sheet's byte; CV 902 does
    ∷ heard_in_fixed (0x77 ∷ 0x84 ∷ 0x02 ∷ []) old_places old_places (Acknowledged 24 0)
    ∷ heard_in_fixed (0x77 ∷ 0x84 ∷ 0x0B ∷ []) old_places old_places (Silent 24)
    ∷ heard_in_fixed (0x77 ∷ 0x83 ∷ 0x07 ∷ []) old_places old_places (Acknowledged 24 0)
    ∷ heard_in_fixed (0x77 ∷ 0x85 ∷ 0x09 ∷ []) old_places old_places (Acknowledged 24 0)
    -- a write reaches the store's old place, unsaid; one is acknowledged
    ∷ heard_in_fixed (0x7F ∷ 0x84 ∷ 0x0B ∷ []) zero_store (zeros 10161 ++ (11 ∷ zeros 78)) (Silent 24)
    ∷ heard_in_fixed (0x7F ∷ 0x84 ∷ 0x0B ∷ []) zero_store zero_store (Acknowledged 24 0)
    -- the bench's writer: byte 1 is not asked, the length is not
    ∷ lines bench (fixed_as (0 ∷ 10 ∷ zeros 38)) (zeros 84) (zeros 256) [] (untaken bench (zeros 84) (zeros 256) (Text 0))
    ∷ lines bench (fixed_as (0 ∷ 11 ∷ zeros 37)) (zeros 84) (zeros 256) [] (untaken bench (zeros 84) (zeros 256) (Text 0))
    -- the view's check: a refusal's cause passes; 5 before 4; what is right is refused
    ∷ refuse_view zero_store (fixed_as (0 ∷ 10 ∷ zeros 38)) 0
    ∷ refuse_view zero_store (fixed_as (0 ∷ 10 ∷ zeros 37)) 5
    ∷ refuse_view (zeros 10241) bench_sheets 0
    ∷ refuse_view zero_store bench_sheets 5
    -- 254 viewed from the store; a view of 40 where the size is less, of the sheet and of the store
    ∷ view old_places (fixed_as other_fixed) 254 (1 ∷ 2 ∷ [])
    ∷ view fives (fixed_as other_fixed) 254 other_fixed
    ∷ view fives (sized 39 2) 0 (replicate 40 5)
    -- one cell late, of the store and of the sheet; from the bank before; one cell short; none
    ∷ view fives bench_sheets 0 (replicate 39 5 ++ (7 ∷ []))
    ∷ view fives (fixed_as other_fixed) 254 (11 ∷ 9 ∷ [])
    ∷ view fives (sized 39 2) 1 (5 ∷ 5 ∷ [])
    ∷ view fives (sized 39 2) 1 (7 ∷ [])
    ∷ view fives bench_sheets 0 []
    -- a refused view gives cells; one of size 0 does
    ∷ view fives (fixed_as (0 ∷ 10 ∷ zeros 38)) 0 (replicate 40 5)
    ∷ view fives bench_sheets 2 (0 ∷ [])
    ∷ []

-- ---- the host's reader, whose promise is the language: the reply of two cells, 1 and 2, in a room of forty 7s and one more

abbrev pub one_two : List ℕ
one_two = 0x8F ∷ 0x01 ∷ 0x8F ∷ 0x02 ∷ 0x8E ∷ 0x01 ∷ 0x8E ∷ 0x01 ∷ 0x8F ∷ 0x5A ∷ 0x8F ∷ 0x00 ∷ []

abbrev pub read_two : BankRead → List ℕ → Wrong
read_two given then = read one_two (replicate 41 7) given then

abbrev pub wrong_reads : List Wrong
wrong_reads =
    -- the end group counts as cells; the count is one short; a byte behind the cells is written; headers are copied; nothing is
    read_two (Cells 4) (1 ∷ 2 ∷ 1 ∷ 1 ∷ replicate 37 7)
    ∷ read_two (Cells 1) (1 ∷ replicate 40 7)
    ∷ read_two (Cells 2) (1 ∷ 2 ∷ 0 ∷ replicate 38 7)
    ∷ read_two (Cells 2) (0x8F ∷ 0x8F ∷ replicate 39 7)
    ∷ read_two (Cells 2) (replicate 41 7)
    -- a right reply is refused, by 9 and by 10; the room has grown
    ∷ read_two (Unread 9) (replicate 41 7)
    ∷ read_two (Unread 10) (replicate 41 7)
    ∷ read_two (Cells 2) (1 ∷ 2 ∷ replicate 40 7)
    -- "Ending a bank at the first 8F c 8F 00": two cells of 0 look like the checksum of nothing, with bytes behind it
    ∷ read two_zeros (replicate 41 7) (Unread 9) (replicate 41 7)
    ∷ read two_zeros (replicate 41 7) (Cells 0) (replicate 41 7)
    -- a room of 39 is taken
    ∷ read one_two (replicate 39 7) (Cells 2) (1 ∷ 2 ∷ replicate 37 7)
    ∷ []

-- THE TABLE, in its parts
abbrev pub wrongs : List (List Wrong)
wrongs =
    wrong_writes ∷ wrong_replies ∷ wrong_looks ∷ wrong_told ∷ wrong_cvs ∷ wrong_openers ∷ wrong_calls ∷ wrong_refusals
    ∷ wrong_asked ∷ wrong_messages ∷ wrong_edges ∷ wrong_clocks ∷ wrong_positions ∷ wrong_numbers ∷ wrong_checks
    ∷ wrong_fixed ∷ wrong_lines
    ∷ wrong_encodings ∷ wrong_reads ∷ []
