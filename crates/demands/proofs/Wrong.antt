-- EVERY ROW OF THE TABLE OF WRONG OUTCOMES IS REJECTED by its entry's promise. Outcomes are written out as numbers; that a row's
-- numbers are not those of the right outcome is one test, computed over each part of the table. The reader's rows are held against the
-- one outcome that its promise has.
use Prim.Native.Nat.{ℕ, ◌+◌}
use mathlib.Core.Bool.{Bool, true, false, cond, not, ◌&&◌, false≢true}
use mathlib.Core.List.{List, [], ◌∷◌, ◌++◌}
use mathlib.Core.Path.{◌≡◌, refl, sym, ◌∙◌, ap}
use native.Mathlib.Omega.{arith}
use lib.Dec.{eqb}
use lib.ListN.{length, replicate}
use borrow.Author.Tests.{eq-eqb, eqb-false, not-true}
use Rattle.std.proofs.Common.{Option, Some, None}
use Rattle.bits.proofs.Tests.{and_left, and_right}
use Rattle.bank.specs.Reply as K
use Rattle.bidi.specs.declared.record.Bidi.{Bidi}
use Rattle.crc.specs.Crc as C
use Rattle.line.specs.Line as L
use Rattle.line.specs.declared.packet.Packet.{Packet}
use Rattle.line.specs.declared.receiver.Receiver.{Receiver}
use Rattle.line.specs.Line.{EdgeAnswer}
use Rattle.command.specs.Saying as Saying
use Rattle.command.specs.Pairs as Pairs
use Rattle.command.specs.declared.pairs.Halves.{Halves}
use Rattle.command.specs.Pairs.{Paired, Pair, Refused as Unpaired}
use Rattle.drive.specs.declared.Drive.{Drive}
use Rattle.position.specs.declared.Position.{Position}
use Rattle.host.specs.Encode as E
use Rattle.host.specs.Encode.{Encoded}
use Rattle.host.specs.ReadBank.{BankRead, Cells, Refused, Reads, small_room}
use Rattle.host.proofs.ReaderLaws.{one_outcome, reads_cells}
use Rattle.board.specs.Board.{kind_of, Board}
use Rattle.board.specs.declared.record.Module.{Module}
use Rattle.states.specs.States.{state_at}
use Rattle.states.proofs.Counted.{ones_of, all_255, on_by_bytes}
use Rattle.view.specs.View as View
use Rattle.counts.specs.Counts.{Counts, On, Refused as Uncounted, shown_of, checked_as, checked_of, ShownPromise, CheckedPromise}
use Rattle.module.specs.Feed as Feeds
use Rattle.module.specs.Feed.{FeedOutcome, Paper, paper_of}
use Rattle.module.specs.Application as Asks
use Rattle.module.specs.Application.{Restart, Kept}
use Rattle.firmware.specs.InPlace as Places
use Rattle.firmware.specs.InPlace.{InPlace}
use Rattle.lines.specs.Taken.{Block, Refused as Untaken, BitsHeld, NoRoomForText, Text, AfterBlock}
use Rattle.lines.specs.Taken as Taken
use Rattle.demands.proofs.Opened.{opened}
use Rattle.demands.specs.Wrong.{Wrong, feed, restarting, post, status, wait, edge, edge_in_place, lines, encode, long_state, address, checksum, read, shown, check, refuse_view, view, Rejected, AllRejected, EveryPartRejected, wrong_writes, wrong_replies, wrong_looks, wrong_told, wrong_cvs, wrong_openers, wrong_calls, wrong_refusals, wrong_asked, wrong_messages, wrong_edges, wrong_clocks, wrong_positions, wrong_numbers, wrong_checks, wrong_fixed, wrong_lines, wrong_encodings, one_two, wrong_reads, wrongs}
use Rattle.demands.specs.Examples.{two_zeros}

-- ---- outcomes as numbers

abbrev bit : Bool → ℕ
bit on = cond on 1 0

abbrev of_receiver : Receiver → List ℕ
of_receiver r = r.last ∷ r.start ∷ r.started ∷ r.bits ∷ r.count ∷ r.first ∷ r.second ∷ r.held ∷ []

abbrev of_drive : Drive → List ℕ
of_drive d = d.actual ∷ d.wanted ∷ d.load ∷ d.address ∷ d.functions ∷ d.control ∷ []

abbrev of_bidi : Bidi → List ℕ
of_bidi b = b.status0 ∷ b.status1 ∷ bit b.registered ∷ b.queued ∷ b.queue

-- a position: 0 for unknown, 1 for heard, 2 for heard and extended; and its address
abbrev mark_of : Option Position → ℕ
mark_of None = 0
mark_of (Some p) = cond p.extended 2 1

abbrev address_of : Option Position → ℕ
address_of None = 0
address_of (Some p) = p.address

abbrev of_module : Module → List ℕ
of_module m =
    kind_of m.half ∷ m.halfbyte ∷ mark_of m.position ∷ address_of m.position ∷ m.stateson ∷ m.settings.number ∷ m.settings.wait ∷ m.settings.bank ∷ of_receiver m.receiver ++ (of_drive m.drive ++ of_bidi m.bidi)

abbrev of_board : Board → List ℕ
of_board b = of_module b.kept ++ (b.states ++ b.store)

abbrev of_paper : Paper → List ℕ
of_paper p = p.number ∷ p.edges ∷ bit p.acknowledged ∷ p.length ∷ []

abbrev of_outcome : FeedOutcome → List ℕ
of_outcome o = of_paper (paper_of o.answer) ++ (o.room ++ of_board o.board)

abbrev of_kept : Kept → List ℕ
of_kept k = k.refusal ∷ of_module k.kept

abbrev of_restart : Restart → List ℕ
of_restart r = of_kept r.given ++ r.states

abbrev of_packet : Packet → List ℕ
of_packet p = p.length ∷ p.bytes

abbrev of_answer : EdgeAnswer → List ℕ
of_answer a = a.refusal ∷ of_receiver a.heard.receiver ++ of_packet a.heard.packet

abbrev of_in_place : InPlace → List ℕ
of_in_place p = p.outcome.refusal ∷ of_packet p.outcome.packet ++ of_receiver p.receiver

abbrev of_block : Block → List ℕ
of_block (Untaken n) = 0 ∷ n ∷ []
of_block BitsHeld = 1 ∷ []
of_block NoRoomForText = 2 ∷ []
of_block (Text n) = 3 ∷ n ∷ []

abbrev of_left : AfterBlock → List ℕ
of_left l = of_block l.given.answer ++ (of_module l.given.kept ++ (l.out ++ (l.room ++ (l.states ++ l.store))))

abbrev of_encoded : Encoded → List ℕ
of_encoded e = e.refusal ∷ of_packet e.packet

-- a command by the packet that says it
abbrev of_halves : Halves → List ℕ
of_halves h = of_packet (Saying.packet_saying h.low) ++ of_packet (Saying.packet_saying h.high)

abbrev of_paired : Paired → List ℕ
of_paired (Pair halves) = 0 ∷ of_halves halves
of_paired (Unpaired n) = n ∷ []

abbrev of_counts : Counts → List ℕ
of_counts (Uncounted n) = 0 ∷ n ∷ []
of_counts (On states functions) = 1 ∷ states ∷ functions ∷ []

abbrev of_read : BankRead → List ℕ → List ℕ
of_read (Cells n) after = 0 ∷ n ∷ after
of_read (Refused n) after = 1 ∷ n ∷ after

-- ---- numbers that are not alike come from outcomes that are not the same

unfoldable alike : List ℕ → List ℕ → Bool
alike [] [] = true
alike [] (b ∷ w) = false
alike (a ∷ v) [] = false
alike (a ∷ v) (b ∷ w) = eqb a b && alike v w

alike_itself : (l : List ℕ) → alike l l ≡ true
unfolding alike
alike_itself [] = refl
alike_itself (a ∷ v) = rw (eq-eqb a a refl, alike_itself v) refl

apart : {A : Type 0} (numbers : A → List ℕ) (o q : A) → alike (numbers o) (numbers q) ≡ false → o ≡ q → ⊥
apart numbers o q other same =
    false≢true (sym other ∙ ap (λ x. alike (numbers x) (numbers q)) same ∙ alike_itself (numbers q))

-- ---- the test: a row is as right as the right outcome (of the reader's rows and the check entry's nothing is computed)

unfoldable as_right : Wrong → Bool
as_right (feed b sheets room times levels given) = alike (of_outcome given) (of_outcome (Feeds.feed_of b sheets room times levels))
as_right (restarting m states given) = alike (of_restart given) (of_restart (Asks.restart_of m states))
as_right (post m message given) = alike (of_kept given) (of_kept (Asks.post_of m message))
as_right (status m number value given) = alike (of_kept given) (of_kept (Asks.status_of m number value))
as_right (wait m on given) = alike (of_kept given) (of_kept (Asks.wait_of m on))
as_right (edge r time level given) = alike (of_answer given) (of_answer (L.answer_of r time level))
as_right (edge_in_place r time level given) = alike (of_in_place given) (of_in_place (Places.in_place_of r time level))
as_right (lines b sheets room out input given) = alike (of_left given) (of_left (Taken.write_of b sheets room out input))
as_right (encode c given) = alike (of_encoded given) (of_encoded (E.encoded_of c))
as_right (long_state number on given) = alike (of_paired given) (of_paired (Pairs.long_pair number on))
as_right (address number given) = alike (of_halves given) (of_halves (Pairs.address_halves number))
as_right (checksum bytes given) = eqb given (C.crc_of bytes)
as_right (read reply room given then) = true
as_right (shown m given) = alike (of_counts given) (of_counts (shown_of m))
as_right (check m states given) = true
as_right (refuse_view store sheets given) = eqb given (View.view_refusal store sheets)
as_right (view store sheets bank given) = alike given (View.view_of store sheets bank)

rejected : (w : Wrong) → as_right w ≡ false → Rejected w
unfolding as_right ShownPromise View.ViewRefusalPromise View.ViewPromise Feeds.FeedPromise Asks.RestartPromise Asks.PostPromise Asks.StatusPromise Asks.WaitPromise Places.EdgeInPlacePromise Taken.WritePromise
rejected (feed b sheets room times levels given) h = apart of_outcome given (Feeds.feed_of b sheets room times levels) h
rejected (restarting m states given) h = apart of_restart given (Asks.restart_of m states) h
rejected (post m message given) h = apart of_kept given (Asks.post_of m message) h
rejected (status m number value given) h = apart of_kept given (Asks.status_of m number value) h
rejected (wait m on given) h = apart of_kept given (Asks.wait_of m on) h
rejected (edge r time level given) h = apart of_answer given (L.answer_of r time level) h
rejected (edge_in_place r time level given) h = apart of_in_place given (Places.in_place_of r time level) h
rejected (lines b sheets room out input given) h = apart of_left given (Taken.write_of b sheets room out input) h
rejected (encode c given) h = apart of_encoded given (E.encoded_of c) h
rejected (long_state number on given) h = apart of_paired given (Pairs.long_pair number on) h
rejected (address number given) h = apart of_halves given (Pairs.address_halves number) h
rejected (checksum bytes given) h = eqb-false given (C.crc_of bytes) h
rejected (read reply room given then) h = absurd (false≢true (sym h))
rejected (shown m given) h = apart of_counts given (shown_of m) h
rejected (check m states given) h = absurd (false≢true (sym h))
rejected (refuse_view store sheets given) h = eqb-false given (View.view_refusal store sheets) h
rejected (view store sheets bank given) h = apart (λ (part : List ℕ). part) given (View.view_of store sheets bank) h

unfoldable none_as_right : List Wrong → Bool
none_as_right [] = true
none_as_right (w ∷ ws) = not (as_right w) && none_as_right ws

by_the_test : (ws : List Wrong) → none_as_right ws ≡ true → AllRejected ws
unfolding none_as_right
by_the_test [] h = tt
by_the_test (w ∷ ws) h =
    (rejected w (not-true (as_right w) (and_left (not (as_right w)) (none_as_right ws) h)), by_the_test ws (and_right (not (as_right w)) (none_as_right ws) h))

wrong_writes_lem : AllRejected wrong_writes
unfolding opened as_right alike none_as_right
wrong_writes_lem = by_the_test wrong_writes refl

wrong_replies_lem : AllRejected wrong_replies
unfolding opened as_right alike none_as_right
wrong_replies_lem = by_the_test wrong_replies refl

wrong_looks_lem : AllRejected wrong_looks
unfolding opened as_right alike none_as_right
wrong_looks_lem = by_the_test wrong_looks refl

wrong_told_lem : AllRejected wrong_told
unfolding opened as_right alike none_as_right
wrong_told_lem = by_the_test wrong_told refl

wrong_cvs_lem : AllRejected wrong_cvs
unfolding opened as_right alike none_as_right
wrong_cvs_lem = by_the_test wrong_cvs refl

wrong_openers_lem : AllRejected wrong_openers
unfolding opened as_right alike none_as_right
wrong_openers_lem = by_the_test wrong_openers refl

wrong_calls_lem : AllRejected wrong_calls
unfolding opened as_right alike none_as_right
wrong_calls_lem = by_the_test wrong_calls refl

wrong_refusals_lem : AllRejected wrong_refusals
unfolding opened as_right alike none_as_right
wrong_refusals_lem = by_the_test wrong_refusals refl

wrong_asked_lem : AllRejected wrong_asked
unfolding opened as_right alike none_as_right
wrong_asked_lem = by_the_test wrong_asked refl

wrong_messages_lem : AllRejected wrong_messages
unfolding opened as_right alike none_as_right
wrong_messages_lem = by_the_test wrong_messages refl

wrong_edges_lem : AllRejected wrong_edges
unfolding opened as_right alike none_as_right
wrong_edges_lem = by_the_test wrong_edges refl

wrong_clocks_lem : AllRejected wrong_clocks
unfolding opened as_right alike none_as_right
wrong_clocks_lem = by_the_test wrong_clocks refl

wrong_positions_lem : AllRejected wrong_positions
unfolding opened as_right alike none_as_right
wrong_positions_lem = by_the_test wrong_positions refl

wrong_numbers_lem : AllRejected wrong_numbers
unfolding opened as_right alike none_as_right
wrong_numbers_lem = by_the_test wrong_numbers refl

wrong_fixed_lem : AllRejected wrong_fixed
unfolding opened as_right alike none_as_right
wrong_fixed_lem = by_the_test wrong_fixed refl

wrong_lines_lem : AllRejected wrong_lines
unfolding opened as_right alike none_as_right
wrong_lines_lem = by_the_test wrong_lines refl

wrong_encodings_lem : AllRejected wrong_encodings
unfolding opened as_right alike none_as_right
wrong_encodings_lem = by_the_test wrong_encodings refl

-- ---- the check entry, its number by the ones of the states' bytes

counted_not : (m : Module) (states : List ℕ) (given : Counts) (n : ℕ) → length states ≡ 4096 → ones_of states ≡ state_at states 0 + n
    → alike (of_counts given) (of_counts (checked_as m states n)) ≡ false → CheckedPromise m states given → ⊥
unfolding CheckedPromise
counted_not m states given n long sum other h =
    apart of_counts given (checked_as m states n) other (h ∙ ap (checked_as m states) (on_by_bytes states n long sum))

uncounted_not : (m : Module) (states : List ℕ) (given : Counts) → alike (of_counts given) (of_counts (checked_of m states)) ≡ false → CheckedPromise m states given → ⊥
unfolding CheckedPromise
uncounted_not m states given other h = apart of_counts given (checked_of m states) other h

wrong_checks_lem : AllRejected wrong_checks
unfolding opened alike ones_of
wrong_checks_lem =
    (counted_not _ _ _ 0 refl refl refl, (counted_not _ _ _ 0 refl refl refl, (counted_not _ _ _ 0 refl refl refl, (uncounted_not _ _ _ refl, (uncounted_not _ _ _ refl, (uncounted_not _ _ _ refl, (uncounted_not _ _ _ refl, (uncounted_not _ _ _ refl, (counted_not _ _ _ 0 refl refl refl, (counted_not _ _ _ 0 refl refl refl, (counted_not _ _ _ 0 refl refl refl, (counted_not _ _ _ 32767 refl (all_255 4096) refl, (counted_not _ _ _ 32767 refl (all_255 4096) refl, tt)))))))))))))

-- ---- the reader

other_read : (reply room after then : List ℕ) (right given : BankRead) → Reads reply room right after
    → alike (of_read given then) (of_read right after) ≡ false → Reads reply room given then → ⊥
other_read reply room after then right given is other h =
    let e = one_outcome reply room given right then after h is in
    false≢true (sym other ∙ rw (e.0, e.1) (alike_itself (of_read right after)))

two_read : Reads one_two (replicate 41 7) (Cells 2) (1 ∷ 2 ∷ replicate 39 7)
unfolding K.pairs_of K.end_of K.body_of K.data_of K.checksum_of K.closed_by K.reply_of C.crc_bit C.crc_byte C.crc_from
two_read = (reads_cells _ (replicate 41 7) (1 ∷ 2 ∷ [])).1 (omega arith, omega arith, refl)

zeros_read : Reads two_zeros (replicate 41 7) (Cells 2) (0 ∷ 0 ∷ replicate 39 7)
unfolding K.pairs_of K.end_of K.body_of K.data_of K.checksum_of K.closed_by K.reply_of C.crc_bit C.crc_byte C.crc_from
zeros_read = (reads_cells _ (replicate 41 7) (0 ∷ 0 ∷ [])).1 (omega arith, omega arith, refl)

small_read : Reads one_two (replicate 39 7) (Refused 4) (replicate 39 7)
small_read = small_room (omega arith)

wrong_reads_lem : AllRejected wrong_reads
unfolding alike
wrong_reads_lem =
    (two _ _ refl, (two _ _ refl, (two _ _ refl, (two _ _ refl, (two _ _ refl, (two _ _ refl, (two _ _ refl, (two _ _ refl, (none _ _ refl, (none _ _ refl, (small _ _ refl, tt)))))))))))
  where
    two : (given : BankRead) (then : List ℕ) → alike (of_read given then) (of_read (Cells 2) (1 ∷ 2 ∷ replicate 39 7)) ≡ false → Rejected (read one_two (replicate 41 7) given then)
    two given then = other_read one_two (replicate 41 7) _ then _ given two_read

    none : (given : BankRead) (then : List ℕ) → alike (of_read given then) (of_read (Cells 2) (0 ∷ 0 ∷ replicate 39 7)) ≡ false → Rejected (read two_zeros (replicate 41 7) given then)
    none given then = other_read two_zeros (replicate 41 7) _ then _ given zeros_read

    small : (given : BankRead) (then : List ℕ) → alike (of_read given then) (of_read (Refused 4) (replicate 39 7)) ≡ false → Rejected (read one_two (replicate 39 7) given then)
    small given then = other_read one_two (replicate 39 7) _ then _ given small_read

-- THE THEOREM
pub all_rejected : EveryPartRejected wrongs
all_rejected =
    (wrong_writes_lem, (wrong_replies_lem, (wrong_looks_lem, (wrong_told_lem, (wrong_cvs_lem, (wrong_openers_lem, (wrong_calls_lem, (wrong_refusals_lem, (wrong_asked_lem, (wrong_messages_lem, (wrong_edges_lem, (wrong_clocks_lem, (wrong_positions_lem, (wrong_numbers_lem, (wrong_checks_lem, (wrong_fixed_lem, (wrong_lines_lem, (wrong_encodings_lem, (wrong_reads_lem, tt)))))))))))))))))))
