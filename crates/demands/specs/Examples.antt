-- THE EXAMPLES: the rows of document 01, "Examples at the edges", that are marked M, its "Errors that look right", the
-- bench's three lines, and the examples of document 02's requests. A row about the line is a whole recording, into a fresh
-- module (of `hear` one with a message posted) with buffers of their true size; what a row asks is the equation that `Holds` gives
-- for it. The theorem on all rows is in proofs/Examples.antt.
use Rattle.std.specs.Prelude.{ℕ, zero, suc, ◌+◌, ◌-◌, ◌*◌, true, false, List, [], ◌∷◌, ◌++◌, map, ◌≡◌, length, replicate, Option, Some, None}
use Rattle.crc.specs.Crc.{crc_of}
use Rattle.line.specs.declared.receiver.Receiver.{Receiver}
use Rattle.line.specs.Line.{idle_at, with_bits, holding, answer_of}
use Rattle.line.specs.Wire.{edges_of, levels_of}
use Rattle.position.specs.declared.Position.{Position}
use Rattle.position.specs.Position.{position_at}
use Rattle.store.specs.Sheet.{zero_store, Sheets, sheets_of}
use Rattle.view.specs.View.{ViewRefusalPromise, ViewPromise}
use Rattle.bank.specs.Reply.{checksum_of}
use Rattle.host.specs.ReadBank.{BankRead, Cells, Reads}
use Rattle.board.specs.declared.record.Half.TheVariants.{AddressHalf, StateHalf, PositionHalf}
use Rattle.board.specs.declared.record.Module.{Module}
use Rattle.board.specs.Board.{Board, fresh_module, with_half, with_drive, with_position, with_states_on}
use Rattle.counts.specs.Counts.{Counts, Refused, On, ShownPromise, CheckedPromise}
use Rattle.drive.specs.Drive.{restarted, with_load, with_functions}
use Rattle.module.specs.Application.{Kept, keeping, post_of, restart_of}
use Rattle.module.specs.Bench.{zeros, bench, sized, bench_sheets, bit_times, edges_of_bytes, after_bytes}
use Rattle.module.specs.Feed.{paper_of, feed_of}
use Rattle.module.specs.Whole.{Answered, Story, whole_of}
use Rattle.reactions.specs.Reactions.{receiving, with_kept}
use Rattle.running.specs.Running.{ended}
use Rattle.lines.specs.Lines.{bench_text}

-- what becomes of the bench's board, of edges
abbrev pub after_edges : List ℕ → List ℕ → Story
after_edges times levels = whole_of bench bench_sheets 0 (edges_of times levels)

-- an acknowledgement after so many edges, with these reply bytes
infix 4 ◌at◌
abbrev pub ◌at◌ : List ℕ → ℕ → Answered
reply at edge = record { after = edge; reply = reply }

-- one legal message, posted n times: what the last post gave
abbrev pub posted : ℕ → Kept
posted zero = keeping 0 fresh_module
posted (suc n) = post_of (posted n).kept (0x83 ∷ 0x01 ∷ 0x83 ∷ 0x02 ∷ [])

-- the kinds of rows
pub data Example : Type 0 where
  -- edges, as times and levels: what the receiver then holds; and of edges that end at a bad one the number, the count of those
  -- before, and what the receiver then holds
  hold : (times levels : List ℕ) (held : Receiver) → Example
  end : (times levels : List ℕ) (number count : ℕ) (held : Receiver) → Example
  -- edges: the states then; the actual speed then
  set_by : (times levels states : List ℕ) → Example
  told : (times levels : List ℕ) (actual : ℕ) → Example
  -- bytes: their answers, all of them, each with its edge; the states then; the cells of the store then; and with these sizes the
  -- answers, and the lengths of the replies
  answer : (bytes : List ℕ) (answers : List Answered) → Example
  set : (bytes states : List ℕ) → Example
  write : (bytes cells : List ℕ) → Example
  answer_with : (sheets : Sheets) (bytes : List ℕ) (answers : List Answered) → Example
  reply_lengths : (sheets : Sheets) (bytes lengths : List ℕ) → Example
  -- bytes that do nothing: they are not answered, and then nothing is held, and the board is as it was but for its last edge's time
  nothing : (bytes : List ℕ) → Example
  -- C-12. Bytes that are not answered, and then the position is this one, and all else is as `nothing` says; edges: the position then; a
  -- message, posted, and then bytes: their answers, and the position then; a record, restarted, and what it is then
  locate : (bytes : List ℕ) (position : Option Position) → Example
  locate_by : (times levels : List ℕ) (position : Option Position) → Example
  hear : (message bytes : List ℕ) (answers : List Answered) (position : Option Position) → Example
  restart : (before after : Module) → Example
  -- a record, handed to the feed without an edge: with which number it is refused, 0 for none
  refuse_record : (m : Module) (number : ℕ) → Example
  -- C-05. The bench's board with such a number of states on kept, then bytes: the number then, and what the check entry gives then; a
  -- record and states, handed to the check entry; a record, handed to the entry for a display
  count_after : (before : ℕ) (bytes : List ℕ) (after : ℕ) → Example
  check_after : (before : ℕ) (bytes : List ℕ) (given : Counts) → Example
  check : (m : Module) (states : List ℕ) (given : Counts) → Example
  shown : (m : Module) (given : Counts) → Example
  -- C-13. Sheets, lent to the feed without an edge: with which number they are refused, 0 for none; a store and sheets: what the view's check
  -- gives, and the view of a bank
  refuse_sheets : (sheets : Sheets) (number : ℕ) → Example
  refuse_view : (store : List ℕ) (sheets : Sheets) (number : ℕ) → Example
  view : (store : List ℕ) (sheets : Sheets) (bank : ℕ) (part : List ℕ) → Example
  -- a receiver, handed an edge at the time of its last: with which number it is refused, 0 for none
  refuse : (held : Receiver) (number : ℕ) → Example
  -- bytes: the text that the bench writes
  text : (bytes lines : List ℕ) → Example
  -- the CRC of bytes; the checksum of a reply's groups; what the reader makes of a reply, and its room then; the refusal of the nth
  -- post
  checksum : (bytes : List ℕ) (is : ℕ) → Example
  checksum_of_groups : (groups : List ℕ) (is : ℕ) → Example
  read : (reply room : List ℕ) (given : BankRead) (then : List ℕ) → Example
  post : (nth refusal : ℕ) → Example

-- the bench's board with such a number kept, after bytes
abbrev pub numbered_after : ℕ → List ℕ → Board
numbered_after before bytes = (whole_of (with_kept bench (with_states_on fresh_module before)) bench_sheets 0 (edges_of_bytes bytes)).board

abbrev pub Holds : Example → Type 0
Holds (hold times levels held) = (after_edges times levels).board.kept.receiver ≡ held
Holds (end times levels number count held) =
    ((after_edges times levels).number ≡ number) × ((after_edges times levels).taken ≡ count)
    × ((after_edges times levels).board.kept.receiver ≡ held)
Holds (set_by times levels states) = (after_edges times levels).board.states ≡ states
Holds (told times levels actual) = (after_edges times levels).board.kept.drive.actual ≡ actual
Holds (answer bytes answers) = (after_bytes bytes).answers ≡ answers
Holds (set bytes states) = (after_bytes bytes).board.states ≡ states
Holds (write bytes cells) = (after_bytes bytes).board.store ≡ cells
Holds (answer_with sheets bytes answers) = (whole_of bench sheets 0 (edges_of_bytes bytes)).answers ≡ answers
Holds (reply_lengths sheets bytes lengths) =
    map (λ (a : Answered). length a.reply) (whole_of bench sheets 0 (edges_of_bytes bytes)).answers ≡ lengths
Holds (nothing bytes) =
    after_bytes bytes ≡ ended (receiving bench (idle_at (100 * (8 * length bytes) - 100))) (8 * length bytes) 0
Holds (locate bytes position) =
    after_bytes bytes
    ≡ ended (receiving (with_kept bench (with_position fresh_module position)) (idle_at (100 * (8 * length bytes) - 100))) (8 * length bytes) 0
Holds (locate_by times levels position) = (after_edges times levels).board.kept.position ≡ position
Holds (hear message bytes answers position) =
    let s = whole_of (with_kept bench (post_of fresh_module message).kept) bench_sheets 0 (edges_of_bytes bytes) in
    (s.answers ≡ answers) × (s.board.kept.position ≡ position)
Holds (restart before after) = (restart_of before (zeros 4096)).given ≡ keeping 0 after
Holds (refuse_record m number) = (paper_of (feed_of (with_kept bench m) bench_sheets (zeros 84) [] []).answer).number ≡ number
Holds (count_after before bytes after) = (numbered_after before bytes).kept.stateson ≡ after
Holds (check_after before bytes given) = CheckedPromise (numbered_after before bytes).kept (numbered_after before bytes).states given
Holds (check m states given) = CheckedPromise m states given
Holds (shown m given) = ShownPromise m given
Holds (refuse_sheets sheets number) = (paper_of (feed_of bench sheets (zeros 84) [] []).answer).number ≡ number
Holds (refuse_view store sheets number) = ViewRefusalPromise store sheets number
Holds (view store sheets bank part) = ViewPromise store sheets bank part
Holds (refuse held number) = (answer_of held held.last 0).refusal ≡ number
Holds (text bytes lines) = bench_text bytes ≡ lines
Holds (checksum bytes is) = crc_of bytes ≡ is
Holds (checksum_of_groups groups is) = checksum_of groups ≡ is
Holds (read reply room given then) = Reads reply room given then
Holds (post nth refusal) = (posted nth).refusal ≡ refusal

-- seven edges, 100 µs apart, and an eighth at that time; their levels spell CB
abbrev pub eight_edges : ℕ → List ℕ
eight_edges last = 0 ∷ 100 ∷ 200 ∷ 300 ∷ 400 ∷ 500 ∷ 600 ∷ last ∷ []

abbrev pub levels_of_cb : List ℕ
levels_of_cb = 1 ∷ 1 ∷ 0 ∷ 1 ∷ 0 ∷ 0 ∷ 1 ∷ 1 ∷ []

-- a receiver that holds nothing, with such a clock: its last edge, the start, the mark; and with the mark 1
abbrev pub clock_marked : ℕ → ℕ → ℕ → Receiver
clock_marked last start mark =
    record { last = last; start = start; started = mark; bits = 0; count = 0; first = 0; second = 0; held = 0 }

abbrev pub clock_at : ℕ → ℕ → Receiver
clock_at last start = clock_marked last start 1

-- a byte held without a start
abbrev pub byte_unmarked : ℕ → Receiver
byte_unmarked last = record { last = last; start = 0; started = 0; bits = 0; count = 0; first = 0x24; second = 0; held = 1 }

abbrev pub three_bits : Receiver
three_bits = with_bits (clock_at 100 0) 6 3

-- the reply of two cells of 0
abbrev pub two_zeros : List ℕ
two_zeros = 0x8F ∷ 0x00 ∷ 0x8F ∷ 0x00 ∷ 0x8E ∷ 0x01 ∷ 0x8E ∷ 0x01 ∷ 0x8F ∷ 0x9A ∷ 0x8F ∷ 0x00 ∷ []

-- a write of CV 902, a verify of it that is not true, a read of it and the next
abbrev pub bench_bytes : List ℕ
bench_bytes = 0x7F ∷ 0x85 ∷ 0x07 ∷ 0x77 ∷ 0x85 ∷ 0x08 ∷ 0x0F ∷ 0x85 ∷ []

-- its three lines in bytes, each with its end (10): "ACK", "-", "ACK 8F 07 8F 00"
abbrev pub bench_lines : List ℕ
bench_lines =
    65 ∷ 67 ∷ 75 ∷ 10
    ∷ 45 ∷ 10
    ∷ 65 ∷ 67 ∷ 75 ∷ 32 ∷ 56 ∷ 70 ∷ 32 ∷ 48 ∷ 55 ∷ 32 ∷ 56 ∷ 70 ∷ 32 ∷ 48 ∷ 48 ∷ 10
    ∷ []

-- ---- THE TABLE of document 01, in parts, so that each is proved alone and a request brings one more.

-- "Edges, bits, pauses", and rows 2 and 3 of the table of refusals
abbrev pub edge_rows : List Example
edge_rows =
    -- "edges at 0, 100, .. 600 and then 8,599 make one byte; with the last at 8,600 the seven bits are lost"; C-03: "The seven bits in
    -- document 01 ending in an edge at 8,599 are now lost too"; 7,999 is the last that makes a byte
    hold (eight_edges 8599) levels_of_cb (with_bits (idle_at 8599) 1 1)
    ∷ hold (eight_edges 8600) levels_of_cb (with_bits (idle_at 8600) 1 1)
    ∷ hold (eight_edges 7999) levels_of_cb (holding (idle_at 7999) 0xCB 0 1)
    ∷ hold (eight_edges 8000) levels_of_cb (with_bits (idle_at 8000) 1 1)
    -- 2 comes before 3; the three bits before the bad edge are held
    ∷ end (0 ∷ 100 ∷ 100 ∷ 99 ∷ 200 ∷ []) (0 ∷ 1 ∷ 1 ∷ 0 ∷ 1 ∷ []) 3 3 three_bits
    ∷ end (0 ∷ 100 ∷ 100 ∷ 99 ∷ 200 ∷ []) (0 ∷ 1 ∷ 1 ∷ 2 ∷ 1 ∷ []) 2 3 three_bits
    ∷ []

-- "Commands": states and their halves
abbrev pub state_rows : List Example
state_rows =
    -- "6E 80, 00 00, 6F 01 does nothing; without the 00 00, state 128 is on" (bit 0 of byte 16); of the errors that look right this
    -- is "Keeping a low half over a 0x00"
    answer (0x6E ∷ 0x80 ∷ 0x00 ∷ 0x00 ∷ 0x6F ∷ 0x01 ∷ []) []
    ∷ set (0x6E ∷ 0x80 ∷ 0x00 ∷ 0x00 ∷ 0x6F ∷ 0x01 ∷ []) (zeros 4096)
    ∷ set (0x6E ∷ 0x80 ∷ 0x6F ∷ 0x01 ∷ []) (zeros 16 ++ (1 ∷ zeros 4079))
    -- "All long states on leaves byte 0 at 254, the others at 255; all short states on does so for bytes 0 to 15"
    ∷ set (0x6E ∷ 0x80 ∷ 0x6F ∷ 0x00 ∷ []) (254 ∷ replicate 4095 255)
    ∷ set (0x6D ∷ 0x80 ∷ []) (254 ∷ (replicate 15 255 ++ zeros 4080))
    ∷ []

-- "Cells": writes that are done and writes that are not
abbrev pub write_rows : List Example
write_rows =
    -- "7F 80 03 yes, 7F 80 04 no" (CV 897)
    answer (0x7F ∷ 0x80 ∷ 0x03 ∷ []) (([] at 24) ∷ [])
    ∷ answer (0x7F ∷ 0x80 ∷ 0x04 ∷ []) []
    -- "7F 84 01 in bank 0 no (CV 901)"
    ∷ answer (0x7F ∷ 0x84 ∷ 0x01 ∷ []) []
    -- of the errors that look right "Acknowledging a write to CV 900 in bank 0", or storing it
    ∷ answer (0x7F ∷ 0x83 ∷ 0x05 ∷ []) []
    ∷ write (0x7F ∷ 0x83 ∷ 0x05 ∷ []) zero_store
    ∷ []

-- "BiDi (001)": bank replies
abbrev pub bank_rows : List Example
bank_rows =
    -- "0C FE gives 8E 01 8E 01 8F 9A 8F 00"
    answer (0x0C ∷ 0xFE ∷ []) ((0x8E ∷ 0x01 ∷ 0x8E ∷ 0x01 ∷ 0x8F ∷ 0x9A ∷ 0x8F ∷ 0x00 ∷ [] at 16) ∷ [])
    -- "sizes 2, 38, 39, 40 give replies of 12, 84, 84, 84 bytes"
    ∷ reply_lengths (sized 2 38) (0x0C ∷ 0x00 ∷ 0x0C ∷ 0x01 ∷ []) (12 ∷ 84 ∷ [])
    ∷ reply_lengths (sized 39 40) (0x0C ∷ 0x00 ∷ 0x0C ∷ 0x01 ∷ []) (84 ∷ 84 ∷ [])
    -- of the errors that look right "Ending a bank at the first 8F c 8F 00": two cells of 0 look like the checksum of nothing, and are
    -- two cells
    ∷ answer_with (sized 2 2) (0x0C ∷ 0x00 ∷ []) ((two_zeros at 16) ∷ [])
    ∷ read two_zeros (replicate 40 7) (Cells 2) (0 ∷ 0 ∷ replicate 38 7)
    -- of the errors that look right "Using CV 1021 for 0x0C": bank 1 is chosen, its CV 902 is set to 7; 0C 00 still reads bank 0, and
    -- 0C 01 finds the 7
    ∷ answer_with (sized 3 3) (0x7F ∷ 0xFC ∷ 0x01 ∷ 0x7F ∷ 0x85 ∷ 0x07 ∷ 0x0C ∷ 0x00 ∷ 0x0C ∷ 0x01 ∷ [])
    (([] at 24)
    ∷ ([] at 48)
    ∷ (0x8F ∷ 0x00 ∷ 0x8F ∷ 0x00 ∷ 0x8F ∷ 0x00 ∷ 0x8E ∷ 0x01 ∷ 0x8F ∷ 0x5E ∷ 0x8F ∷ 0x00 ∷ [] at 64)
    ∷ (0x8F ∷ 0x00 ∷ 0x8F ∷ 0x00 ∷ 0x8F ∷ 0x07 ∷ 0x8E ∷ 0x01 ∷ 0x8F ∷ 0x30 ∷ 0x8F ∷ 0x00 ∷ [] at 80)
    ∷ [])
    ∷ []

-- the checksum
abbrev pub checksum_rows : List Example
checksum_rows =
    -- "CRC of 01 is 5E"
    checksum (0x01 ∷ []) 0x5E
    -- of the errors that look right "Taking the CRC over headers": 8E 01 8E 01 has the checksum of 01 01 and not of its four bytes
    ∷ checksum (0x01 ∷ 0x01 ∷ []) 0x9A
    ∷ checksum_of_groups (0x8E ∷ 0x01 ∷ 0x8E ∷ 0x01 ∷ []) 0x9A
    -- C-04: 01 and zeros, 508 bytes, of which the code sums four lanes of 127; and one byte less, and one more
    ∷ checksum (0x01 ∷ zeros 507) 0x01
    ∷ checksum (0x01 ∷ zeros 506) 0x19
    ∷ checksum (0x01 ∷ zeros 508) 0x5E
    ∷ []

-- "BiDi (001)": calls, reads of a CV, posts
abbrev pub call_rows : List Example
call_rows =
    -- "0F AA at module 1 (CV 939): second half 8E 02"
    answer (0x0F ∷ 0xAA ∷ []) ((0x8F ∷ 0x00 ∷ 0x8E ∷ 0x02 ∷ [] at 16) ∷ [])
    -- "a ninth post gives 7"
    ∷ post 8 0
    ∷ post 9 7
    -- of the errors that look right "Letting an unforced empty call be answered each time"
    ∷ answer (0x01 ∷ 0x01 ∷ 0x01 ∷ 0x01 ∷ []) ((0x81 ∷ 0x00 ∷ 0x81 ∷ 0x00 ∷ [] at 16) ∷ [])
    -- a forced call counts as the first; and it is answered each time
    ∷ answer (0x01 ∷ 0x05 ∷ 0x01 ∷ 0x01 ∷ 0x01 ∷ 0x05 ∷ [])
    ((0x8A ∷ 0x00 ∷ 0x8A ∷ 0x00 ∷ [] at 16) ∷ (0x8A ∷ 0x00 ∷ 0x8A ∷ 0x00 ∷ [] at 48) ∷ [])
    ∷ []

-- "Bench program", its three lines: "ACK", "-", "ACK 8F 07 8F 00"
abbrev pub bench_rows : List Example
bench_rows =
    answer bench_bytes (([] at 24) ∷ (0x8F ∷ 0x07 ∷ 0x8F ∷ 0x00 ∷ [] at 64) ∷ [])
    ∷ text bench_bytes bench_lines
    ∷ []

-- ---- Document 02.

-- C-02: "every first byte from 0x70 to 0x7F is a three-byte packet; the thirteen others are taken whole, never acknowledged, and drop
-- a held half"
abbrev pub old_decoder_rows : List Example
old_decoder_rows =
    -- after 70 01 two bytes are held, after 70 01 02 none; 7E is the last of the thirteen
    hold (bit_times 16 0) (levels_of (0x70 ∷ 0x01 ∷ [])) (holding (idle_at 1500) 0x70 0x01 2)
    ∷ nothing (0x70 ∷ 0x01 ∷ 0x02 ∷ [])
    ∷ nothing (0x7E ∷ 0xFF ∷ 0xFF ∷ [])
    -- 7C 07 08, the reset that source 002, D.5, tells of, does nothing: a state that is on stays on, a cell stays written
    ∷ nothing (0x7C ∷ 0x07 ∷ 0x08 ∷ [])
    ∷ set (0x6D ∷ 0x81 ∷ 0x7C ∷ 0x07 ∷ 0x08 ∷ []) (2 ∷ zeros 4095)
    ∷ answer (0x7F ∷ 0x85 ∷ 0x07 ∷ 0x7C ∷ 0x07 ∷ 0x08 ∷ 0x77 ∷ 0x85 ∷ 0x07 ∷ []) (([] at 24) ∷ ([] at 72) ∷ [])
    -- the neighbours 0x6F and 0x80 still have two
    ∷ nothing (0x6F ∷ 0x01 ∷ [])
    ∷ nothing (0x80 ∷ 0x01 ∷ [])
    -- a held half, of a state and of an address, is dropped: neither is set
    ∷ nothing (0x6E ∷ 0x80 ∷ 0x70 ∷ 0x01 ∷ 0x02 ∷ 0x6F ∷ 0x01 ∷ [])
    ∷ nothing (0x5E ∷ 0x34 ∷ 0x7E ∷ 0x01 ∷ 0x02 ∷ 0x5F ∷ 0x12 ∷ [])
    -- what looks like a write in one of the thirteen is none, and the write after it is acknowledged, once
    ∷ answer (0x71 ∷ 0x7F ∷ 0x85 ∷ 0x7F ∷ 0x85 ∷ 0x07 ∷ []) (([] at 48) ∷ [])
    -- the bench writes one line for each of the two: "-", "ACK"
    ∷ text (0x71 ∷ 0x7F ∷ 0x85 ∷ 0x7F ∷ 0x85 ∷ 0x07 ∷ []) (45 ∷ 10 ∷ 65 ∷ 67 ∷ 75 ∷ 10 ∷ [])
    -- row 12: two held bytes, at both ends of the sixteen
    ∷ refuse (holding (idle_at 0) 0x6F 0x01 2) 12
    ∷ refuse (holding (idle_at 0) 0x70 0x01 2) 0
    ∷ refuse (holding (idle_at 0) 0x7F 0x01 2) 0
    ∷ refuse (holding (idle_at 0) 0x80 0x01 2) 12
    ∷ []

-- two packets of two bytes at 100 µs a bit, the second so long after the last edge of the first
abbrev pub gapped : ℕ → List ℕ
gapped gap = bit_times 16 0 ++ bit_times 16 (1500 + gap)

-- C-03: "The clock now starts at the edge that completes a byte or, with no byte since restart or pause, at the first edge; an edge
-- 8,000 µs or more after that start clears everything held and is bit 0"
abbrev pub pause_rows : List Example
pause_rows =
    -- "With a byte complete at 1,000 and single bits from 6,000 on, the edge at 9,000 begins afresh and one at 8,999 doesn't"
    hold (bit_times 8 300 ++ (6000 ∷ 7000 ∷ 8999 ∷ [])) (levels_of_cb ++ (1 ∷ 0 ∷ 1 ∷ []))
    (record { last = 8999; start = 1000; started = 1; bits = 5; count = 3; first = 0xCB; second = 0; held = 1 })
    ∷ hold (bit_times 8 300 ++ (6000 ∷ 7000 ∷ 9000 ∷ [])) (levels_of_cb ++ (1 ∷ 0 ∷ 1 ∷ [])) (with_bits (idle_at 9000) 1 1)
    -- the first edge of all at 6,000 starts the clock, and so does a pause
    ∷ hold (6000 ∷ 13999 ∷ []) (1 ∷ 1 ∷ []) (with_bits (clock_at 13999 6000) 3 2)
    ∷ hold (6000 ∷ 14000 ∷ []) (1 ∷ 1 ∷ []) (with_bits (idle_at 14000) 1 1)
    ∷ hold (6000 ∷ 14000 ∷ 21999 ∷ []) (1 ∷ 1 ∷ 1 ∷ []) (with_bits (clock_at 21999 14000) 3 2)
    ∷ hold (6000 ∷ 14000 ∷ 22000 ∷ []) (1 ∷ 1 ∷ 1 ∷ []) (with_bits (idle_at 22000) 1 1)
    -- a held half by the same clock: 6E 80, then 6F 01, its eighth edge 7,999 µs after 6E 80 or 8,000
    ∷ set_by (gapped 7299) (levels_of (0x6E ∷ 0x80 ∷ 0x6F ∷ 0x01 ∷ [])) (zeros 16 ++ (1 ∷ zeros 4079))
    ∷ set_by (gapped 7300) (levels_of (0x6E ∷ 0x80 ∷ 0x6F ∷ 0x01 ∷ [])) (zeros 4096)
    -- and its first edge 8,000 after: 6F 01 is heard whole, and finds no half
    ∷ set_by (gapped 8000) (levels_of (0x6E ∷ 0x80 ∷ 0x6F ∷ 0x01 ∷ [])) (zeros 4096)
    -- a pause inside a byte: 24 11 is lost when it begins 7,300 to 7,999 µs after the last byte, and heard before and after that
    ∷ told (gapped 7299) (levels_of (0x00 ∷ 0x00 ∷ 0x24 ∷ 0x11 ∷ [])) 0x11
    ∷ told (gapped 7300) (levels_of (0x00 ∷ 0x00 ∷ 0x24 ∷ 0x11 ∷ [])) 0
    ∷ told (gapped 7500) (levels_of (0x00 ∷ 0x00 ∷ 0x24 ∷ 0x11 ∷ [])) 0
    ∷ told (gapped 7999) (levels_of (0x00 ∷ 0x00 ∷ 0x24 ∷ 0x11 ∷ [])) 0
    ∷ told (gapped 8000) (levels_of (0x00 ∷ 0x00 ∷ 0x24 ∷ 0x11 ∷ [])) 0x11
    -- row 12: "bits or bytes held without a start"; without one its value plays no part
    ∷ refuse (with_bits (clock_marked 600 0 0) 0 1) 12
    ∷ refuse (byte_unmarked 600) 12
    ∷ refuse (clock_marked 600 601 0) 0
    -- "and a start after the last edge", by any mark but 0
    ∷ refuse (clock_marked 600 601 1) 12
    ∷ refuse (clock_marked 600 600 1) 0
    ∷ refuse (clock_marked 600 601 255) 12
    ∷ refuse (with_bits (clock_marked 600 600 255) 0 1) 0
    ∷ []

-- C-12: "the position sent by another board: 0x88 followed directly by 0x89 on the line. The record gains the last position heard (bits A10
-- to A0 and the extended mark) and a third kind of held half, with data over 15 ignored. The same dropping rules apply."
abbrev pub position_rows : List Example
position_rows =
    -- 88 03 89 07: 256·3 + 7; with the extended mark; the least and the greatest of both kinds
    locate (0x88 ∷ 0x03 ∷ 0x89 ∷ 0x07 ∷ []) (Some (position_at 775 false))
    ∷ locate (0x88 ∷ 0x0B ∷ 0x89 ∷ 0x07 ∷ []) (Some (position_at 775 true))
    ∷ locate (0x88 ∷ 0x00 ∷ 0x89 ∷ 0x00 ∷ []) (Some (position_at 0 false))
    ∷ locate (0x88 ∷ 0x07 ∷ 0x89 ∷ 0xFF ∷ []) (Some (position_at 2047 false))
    ∷ locate (0x88 ∷ 0x08 ∷ 0x89 ∷ 0x00 ∷ []) (Some (position_at 0 true))
    ∷ locate (0x88 ∷ 0x0F ∷ 0x89 ∷ 0xFF ∷ []) (Some (position_at 2047 true))
    -- data over 15 mean nothing, and drop the half before them, of whatever kind
    ∷ nothing (0x88 ∷ 0x10 ∷ 0x89 ∷ 0x07 ∷ [])
    ∷ nothing (0x88 ∷ 0x03 ∷ 0x88 ∷ 0x10 ∷ 0x89 ∷ 0x07 ∷ [])
    ∷ nothing (0x6E ∷ 0x80 ∷ 0x88 ∷ 0x10 ∷ 0x6F ∷ 0x01 ∷ [])
    -- another command between; 0x89 alone, or after a half of another kind; a second half of another kind
    ∷ nothing (0x88 ∷ 0x03 ∷ 0x00 ∷ 0x00 ∷ 0x89 ∷ 0x07 ∷ [])
    ∷ nothing (0x89 ∷ 0x07 ∷ [])
    ∷ nothing (0x5E ∷ 0x03 ∷ 0x89 ∷ 0x07 ∷ [])
    ∷ nothing (0x6E ∷ 0x03 ∷ 0x89 ∷ 0x07 ∷ [])
    ∷ nothing (0x6E ∷ 0x80 ∷ 0x88 ∷ 0x03 ∷ 0x6F ∷ 0x01 ∷ [])
    ∷ nothing (0x5E ∷ 0x34 ∷ 0x88 ∷ 0x03 ∷ 0x5F ∷ 0x12 ∷ [])
    -- a first half of another kind between
    ∷ nothing (0x88 ∷ 0x03 ∷ 0x5E ∷ 0x34 ∷ 0x89 ∷ 0x07 ∷ [])
    ∷ nothing (0x88 ∷ 0x03 ∷ 0x6E ∷ 0x80 ∷ 0x89 ∷ 0x07 ∷ [])
    -- the first bytes beside these two: 87 holds nothing, 8A is no low half
    ∷ nothing (0x87 ∷ 0x03 ∷ 0x89 ∷ 0x07 ∷ [])
    ∷ nothing (0x88 ∷ 0x03 ∷ 0x8A ∷ 0x07 ∷ [])
    -- a new high half takes the place of the old, and a new position that of the old; 0x89 uses its half up; what is heard stays
    ∷ locate (0x88 ∷ 0x03 ∷ 0x88 ∷ 0x04 ∷ 0x89 ∷ 0x07 ∷ []) (Some (position_at 1031 false))
    ∷ locate (0x88 ∷ 0x03 ∷ 0x89 ∷ 0x07 ∷ 0x88 ∷ 0x0C ∷ 0x89 ∷ 0x01 ∷ []) (Some (position_at 1025 true))
    ∷ locate (0x88 ∷ 0x03 ∷ 0x89 ∷ 0x07 ∷ 0x89 ∷ 0x08 ∷ []) (Some (position_at 775 false))
    ∷ locate (0x88 ∷ 0x03 ∷ 0x89 ∷ 0x07 ∷ 0x88 ∷ 0x10 ∷ []) (Some (position_at 775 false))
    -- a gap that is no pause, and one that is, inside 0x89 or before it
    ∷ locate_by (gapped 7299) (levels_of (0x88 ∷ 0x03 ∷ 0x89 ∷ 0x07 ∷ [])) (Some (position_at 775 false))
    ∷ locate_by (gapped 7300) (levels_of (0x88 ∷ 0x03 ∷ 0x89 ∷ 0x07 ∷ [])) None
    ∷ locate_by (gapped 8000) (levels_of (0x88 ∷ 0x03 ∷ 0x89 ∷ 0x07 ∷ [])) None
    -- "A board also hears its own message": posted, and given as the answer to a call, it is not heard yet; when its bytes stand in the
    -- recording, it is
    ∷ hear (0x88 ∷ 0x03 ∷ 0x89 ∷ 0x07 ∷ []) (0x01 ∷ 0x01 ∷ []) ((0x88 ∷ 0x03 ∷ 0x89 ∷ 0x07 ∷ [] at 16) ∷ []) None
    ∷ hear (0x88 ∷ 0x03 ∷ 0x89 ∷ 0x07 ∷ []) (0x01 ∷ 0x01 ∷ 0x88 ∷ 0x03 ∷ 0x89 ∷ 0x07 ∷ [])
    ((0x88 ∷ 0x03 ∷ 0x89 ∷ 0x07 ∷ [] at 16) ∷ []) (Some (position_at 775 false))
    -- "Restart forgets the position."
    ∷ restart (with_position fresh_module (Some (position_at 775 true))) fresh_module
    -- row 12: an address over 2,047, a held half of this kind over 15
    ∷ refuse_record (with_position fresh_module (Some (position_at 2047 true))) 0
    ∷ refuse_record (with_position fresh_module (Some (position_at 2048 false))) 12
    ∷ refuse_record (with_half fresh_module PositionHalf 15) 0
    ∷ refuse_record (with_half fresh_module PositionHalf 16) 12
    ∷ refuse_record (with_half fresh_module StateHalf 16) 0
    ∷ refuse_record (with_half fresh_module AddressHalf 255) 0
    ∷ []

-- C-05: "Keep the number of long states 1 to 32767 that are on in the module's record, true after each 0x6D, 0x6F, both kinds of broadcast
-- and restart."
abbrev pub number_rows : List Example
number_rows =
    -- one state: on, on again, off, off again; off where it never was on; the last short one, the first that only the long form reaches, the
    -- last
    count_after 0 (0x6D ∷ 0x81 ∷ []) 1
    ∷ count_after 0 (0x6D ∷ 0x81 ∷ 0x6D ∷ 0x81 ∷ []) 1
    ∷ count_after 0 (0x6D ∷ 0x81 ∷ 0x6D ∷ 0x01 ∷ []) 0
    ∷ count_after 0 (0x6D ∷ 0x81 ∷ 0x6D ∷ 0x01 ∷ 0x6D ∷ 0x01 ∷ []) 0
    ∷ count_after 0 (0x6D ∷ 0x01 ∷ []) 0
    ∷ count_after 0 (0x6D ∷ 0xFF ∷ []) 1
    ∷ count_after 0 (0x6E ∷ 0x80 ∷ 0x6F ∷ 0x01 ∷ []) 1
    ∷ count_after 0 (0x6E ∷ 0xFF ∷ 0x6F ∷ 0xFF ∷ []) 1
    -- both forms set the same state, and a low half that was dropped sets none
    ∷ count_after 0 (0x6D ∷ 0x85 ∷ 0x6E ∷ 0x85 ∷ 0x6F ∷ 0x00 ∷ []) 1
    ∷ count_after 0 (0x6E ∷ 0x85 ∷ 0x00 ∷ 0x00 ∷ 0x6F ∷ 0x00 ∷ []) 0
    -- 6D 80 gives 127, then 6D 00 gives 0; over states that are on, or off, already
    ∷ count_after 0 (0x6D ∷ 0x80 ∷ []) 127
    ∷ count_after 0 (0x6D ∷ 0x80 ∷ 0x6D ∷ 0x00 ∷ []) 0
    ∷ count_after 0 (0x6D ∷ 0x81 ∷ 0x6D ∷ 0x82 ∷ 0x6D ∷ 0x80 ∷ []) 127
    ∷ count_after 0 (0x6D ∷ 0x00 ∷ []) 0
    -- states 1, 2 and 200: 6D 00 leaves 1; state 127 goes, 128 stays, and 6D 80 beside 128 gives 128
    ∷ count_after 0 (0x6D ∷ 0x81 ∷ 0x6D ∷ 0x82 ∷ 0x6E ∷ 0xC8 ∷ 0x6F ∷ 0x01 ∷ []) 3
    ∷ count_after 0 (0x6D ∷ 0x81 ∷ 0x6D ∷ 0x82 ∷ 0x6E ∷ 0xC8 ∷ 0x6F ∷ 0x01 ∷ 0x6D ∷ 0x00 ∷ []) 1
    ∷ count_after 0 (0x6D ∷ 0xFF ∷ 0x6D ∷ 0x00 ∷ []) 0
    ∷ count_after 0 (0x6E ∷ 0x80 ∷ 0x6F ∷ 0x01 ∷ 0x6D ∷ 0x00 ∷ []) 1
    ∷ count_after 0 (0x6E ∷ 0x80 ∷ 0x6F ∷ 0x01 ∷ 0x6D ∷ 0x80 ∷ []) 128
    -- 6E 80 6F 00 gives 32,767, one state less is 32,766, and 6E 00 6F 00 gives 0
    ∷ count_after 0 (0x6E ∷ 0x80 ∷ 0x6F ∷ 0x00 ∷ []) 32767
    ∷ count_after 0 (0x6E ∷ 0x80 ∷ 0x6F ∷ 0x00 ∷ 0x6D ∷ 0x01 ∷ []) 32766
    ∷ count_after 0 (0x6E ∷ 0x80 ∷ 0x6F ∷ 0x00 ∷ 0x6E ∷ 0x00 ∷ 0x6F ∷ 0x00 ∷ []) 0
    -- a wrong number moves by the difference modulo 65,536: 65,534 to 65,535 and 65,535 to 0 by one state more, and back by one less; 32,767 to
    -- 32,768; 65,408 to 65,535 and 65,409 to 0 by 127 more; 5 stays where none goes off
    ∷ count_after 65534 (0x6D ∷ 0x81 ∷ []) 65535
    ∷ count_after 65535 (0x6D ∷ 0x81 ∷ []) 0
    ∷ count_after 65535 (0x6D ∷ 0x81 ∷ 0x6D ∷ 0x01 ∷ []) 65535
    ∷ count_after 32767 (0x6D ∷ 0x81 ∷ []) 32768
    ∷ count_after 65408 (0x6D ∷ 0x80 ∷ []) 65535
    ∷ count_after 65409 (0x6D ∷ 0x80 ∷ []) 0
    ∷ count_after 5 (0x6D ∷ 0x00 ∷ []) 5
    -- a long broadcast sets it, and so does a restart; the numbers beside 0 are single states, and a high half without its low one is none
    ∷ count_after 5 (0x6E ∷ 0x80 ∷ 0x6F ∷ 0x00 ∷ []) 32767
    ∷ count_after 5 (0x6E ∷ 0x00 ∷ 0x6F ∷ 0x00 ∷ []) 0
    ∷ count_after 5 (0x6E ∷ 0x81 ∷ 0x6F ∷ 0x00 ∷ []) 6
    ∷ count_after 5 (0x6E ∷ 0x80 ∷ 0x6F ∷ 0x01 ∷ []) 6
    ∷ count_after 5 (0x6E ∷ 0x80 ∷ 0x00 ∷ 0x00 ∷ 0x6F ∷ 0x00 ∷ []) 5
    ∷ count_after 5 (0x6F ∷ 0x00 ∷ []) 5
    ∷ restart (with_states_on fresh_module 5) fresh_module
    -- a wrong number does not make a record impossible: the feed takes it
    ∷ refuse_record (with_states_on fresh_module 65535) 0
    -- the check entry: a true number, a wrong one; how many of F0 to F28 are on
    ∷ check_after 0 (0x6D ∷ 0x80 ∷ []) (On 127 0)
    ∷ check_after 65535 (0x6D ∷ 0x81 ∷ []) (Refused 12)
    ∷ check_after 0 (0x60 ∷ 0x1F ∷ 0x61 ∷ 0xFF ∷ 0x62 ∷ 0xFF ∷ 0x63 ∷ 0xFF ∷ []) (On 0 29)
    ∷ check_after 0 (0x60 ∷ 0x10 ∷ 0x63 ∷ 0x80 ∷ []) (On 0 2)
    ∷ check_after 0 (0x60 ∷ 0x1F ∷ 0x6C ∷ 0x00 ∷ []) (On 0 0)
    ∷ check_after 0 (0x6D ∷ 0x81 ∷ 0x60 ∷ 0x03 ∷ []) (On 1 2)
    -- bit 0 of byte 0 plays no part; state 1 alone, state 32767 alone; all, and one less and one more than all
    ∷ check fresh_module (1 ∷ zeros 4095) (On 0 0)
    ∷ check (with_states_on fresh_module 1) (1 ∷ zeros 4095) (Refused 12)
    ∷ check (with_states_on fresh_module 1) (2 ∷ zeros 4095) (On 1 0)
    ∷ check (with_states_on fresh_module 1) (zeros 4095 ++ (128 ∷ [])) (On 1 0)
    ∷ check (with_states_on fresh_module 32767) (254 ∷ replicate 4095 255) (On 32767 0)
    ∷ check (with_states_on fresh_module 32767) (replicate 4096 255) (On 32767 0)
    ∷ check (with_states_on fresh_module 32766) (replicate 4096 255) (Refused 12)
    ∷ check (with_states_on fresh_module 32768) (replicate 4096 255) (Refused 12)
    -- 12, then 4, then 12 for the number; each alone
    ∷ check (with_states_on fresh_module 1) (zeros 4095) (Refused 4)
    ∷ check (with_states_on fresh_module 1) (zeros 4097) (Refused 4)
    ∷ check (with_drive fresh_module (with_load restarted 128)) (zeros 4095) (Refused 12)
    ∷ check (with_drive fresh_module (with_load restarted 128)) (zeros 4096) (Refused 12)
    ∷ check fresh_module (zeros 4095) (Refused 4)
    ∷ check (with_states_on fresh_module 1) (zeros 4096) (Refused 12)
    -- the entry for a display: by the record alone
    ∷ shown (with_states_on fresh_module 65535) (On 65535 0)
    ∷ shown (with_states_on (with_drive fresh_module (with_functions restarted 0 5 31)) 7) (On 7 5)
    ∷ shown (with_drive fresh_module (with_load restarted 128)) (Refused 12)
    ∷ []

-- C-13: the bench's size sheet with another fixed sheet; and one that is as far from the bench's as a good one can be
abbrev pub fixed_as : List ℕ → Sheets
fixed_as fixed = sheets_of bench_sheets.sizes fixed

abbrev pub other_fixed : List ℕ
other_fixed = 7 ∷ 11 ∷ replicate 38 9

-- a size of 40 wherever one may be
abbrev pub all_forty : Sheets
all_forty = sheets_of (replicate 251 40 ++ (0 ∷ 0 ∷ 0 ∷ 2 ∷ 40 ∷ [])) (0 ∷ 11 ∷ zeros 38)

-- a bank of fives, and the first cell of the next bank
abbrev pub fives : List ℕ
fives = replicate 40 5 ++ (7 ∷ zeros 10199)

-- C-13: "Bank 254 moves to a 40-byte sheet that the caller lends beside the store; its byte 1 must be 11, else refusal 5; a sheet of another
-- length is refused with 4. Give a bank view .."
abbrev pub fixed_rows : List Example
fixed_rows =
    -- in bank 254 (7F FC FE) 77 84 0B yes (CV 901), 77 83 0B no (CV 900); other bytes, and the cell behind, no
    answer (0x7F ∷ 0xFC ∷ 0xFE ∷ 0x77 ∷ 0x84 ∷ 0x0B ∷ []) (([] at 24) ∷ ([] at 48) ∷ [])
    ∷ answer (0x7F ∷ 0xFC ∷ 0xFE ∷ 0x77 ∷ 0x83 ∷ 0x0B ∷ []) (([] at 24) ∷ [])
    ∷ answer (0x7F ∷ 0xFC ∷ 0xFE ∷ 0x77 ∷ 0x83 ∷ 0x00 ∷ 0x77 ∷ 0x84 ∷ 0x0A ∷ 0x77 ∷ 0x85 ∷ 0x00 ∷ []) (([] at 24) ∷ [])
    -- bit by bit: bit 0 of 11 is 1, and bit 2 is not; nor is any bit of CV 900 0 or 1
    ∷ answer (0x7F ∷ 0xFC ∷ 0xFE ∷ 0x7B ∷ 0x84 ∷ 0xE8 ∷ 0x7B ∷ 0x84 ∷ 0xEA ∷ 0x7B ∷ 0x83 ∷ 0xE0 ∷ 0x7B ∷ 0x83 ∷ 0xE8 ∷ [])
    (([] at 24) ∷ ([] at 48) ∷ [])
    -- with another good sheet the same: CV 900 does not verify as its 7, nor CV 902 as its 9; 0F 83 and 0F 84; the bank's reply
    ∷ answer_with (fixed_as other_fixed) (0x7F ∷ 0xFC ∷ 0xFE ∷ 0x77 ∷ 0x83 ∷ 0x07 ∷ 0x77 ∷ 0x84 ∷ 0x0B ∷ 0x77 ∷ 0x85 ∷ 0x09 ∷ [])
    (([] at 24) ∷ ([] at 72) ∷ [])
    ∷ answer_with (fixed_as other_fixed) (0x7F ∷ 0xFC ∷ 0xFE ∷ 0x0F ∷ 0x83 ∷ 0x0F ∷ 0x84 ∷ [])
    (([] at 24) ∷ (0x8E ∷ 0x01 ∷ 0x8F ∷ 0x0B ∷ [] at 40) ∷ (0x8F ∷ 0x0B ∷ 0x8E ∷ 0x01 ∷ [] at 56) ∷ [])
    ∷ answer_with (fixed_as other_fixed) (0x0C ∷ 0xFE ∷ []) ((0x8E ∷ 0x01 ∷ 0x8E ∷ 0x01 ∷ 0x8F ∷ 0x9A ∷ 0x8F ∷ 0x00 ∷ [] at 16) ∷ [])
    -- nothing in it is written, by byte or by bit
    ∷ answer (0x7F ∷ 0xFC ∷ 0xFE ∷ 0x7F ∷ 0x84 ∷ 0x0B ∷ 0x7B ∷ 0x84 ∷ 0xF8 ∷ []) (([] at 24) ∷ [])
    ∷ write (0x7F ∷ 0xFC ∷ 0xFE ∷ 0x7F ∷ 0x84 ∷ 0x07 ∷ []) zero_store
    -- byte 1 of 10 gives 5, and so does 12; 39 and 41 bytes give 4, also where the size sheet breaks its rule; else none
    ∷ refuse_sheets (fixed_as (0 ∷ 10 ∷ zeros 38)) 5
    ∷ refuse_sheets (fixed_as (0 ∷ 12 ∷ zeros 38)) 5
    ∷ refuse_sheets (fixed_as (0 ∷ 11 ∷ zeros 37)) 4
    ∷ refuse_sheets (fixed_as (0 ∷ 11 ∷ zeros 39)) 4
    ∷ refuse_sheets (fixed_as []) 4
    ∷ refuse_sheets (sheets_of (zeros 256) (0 ∷ 11 ∷ zeros 37)) 4
    ∷ refuse_sheets (sheets_of (zeros 256) (0 ∷ 11 ∷ zeros 38)) 5
    ∷ refuse_sheets (fixed_as other_fixed) 0
    -- the view's check: 4 for each of the three, before 5
    ∷ refuse_view zero_store bench_sheets 0
    ∷ refuse_view (zeros 10239) bench_sheets 4
    ∷ refuse_view (zeros 10241) bench_sheets 4
    ∷ refuse_view zero_store (sheets_of (zeros 255) (0 ∷ 11 ∷ zeros 38)) 4
    ∷ refuse_view zero_store (sheets_of (zeros 257) (0 ∷ 11 ∷ zeros 38)) 4
    ∷ refuse_view zero_store (fixed_as (0 ∷ 10 ∷ zeros 37)) 4
    ∷ refuse_view zero_store (fixed_as (0 ∷ 11 ∷ zeros 39)) 4
    ∷ refuse_view zero_store (fixed_as (0 ∷ 10 ∷ zeros 38)) 5
    ∷ refuse_view zero_store (fixed_as (0 ∷ 12 ∷ zeros 38)) 5
    ∷ refuse_view zero_store (sheets_of (zeros 256) (0 ∷ 11 ∷ zeros 38)) 5
    -- the view of 254 has 2 bytes, of bank 0 with size 40 has 40, with 39 one less; of the next bank; of a bank with size 0 none
    ∷ view fives (fixed_as other_fixed) 254 (7 ∷ 11 ∷ [])
    ∷ view fives bench_sheets 0 (replicate 40 5)
    ∷ view fives (sized 39 2) 0 (replicate 39 5)
    ∷ view fives (sized 39 2) 1 (7 ∷ 0 ∷ [])
    ∷ view fives bench_sheets 2 []
    ∷ view fives bench_sheets 255 []
    -- bank 255, the store's last: its cells stand behind the old places of bank 254
    ∷ view (zeros 10160 ++ (replicate 40 1 ++ replicate 40 2)) all_forty 255 (replicate 40 2)
    ∷ view (zeros 10160 ++ (replicate 40 1 ++ replicate 40 2)) all_forty 254 (0 ∷ 11 ∷ [])
    -- a refused one is empty
    ∷ view fives (fixed_as (0 ∷ 10 ∷ zeros 38)) 0 []
    ∷ view fives (fixed_as (0 ∷ 10 ∷ zeros 38)) 254 []
    ∷ view fives (fixed_as (0 ∷ 11 ∷ zeros 37)) 254 []
    ∷ view fives (fixed_as (0 ∷ 11 ∷ zeros 39)) 0 []
    ∷ view (zeros 10241) bench_sheets 0 []
    ∷ []

-- document 02's parts
abbrev pub request_rows : List Example
request_rows = old_decoder_rows ++ (pause_rows ++ (position_rows ++ (number_rows ++ fixed_rows)))

-- the table whole, on which there is one theorem: `all_rows`
abbrev pub table : List Example
table = edge_rows ++ (state_rows ++ (write_rows ++ (bank_rows ++ (checksum_rows ++ (call_rows ++ (bench_rows ++ request_rows))))))

-- every row of a table holds
abbrev pub AllHold : List Example → Type 0
AllHold [] = Unit
AllHold (r ∷ rs) = Holds r × AllHold rs
