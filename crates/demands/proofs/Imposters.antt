-- EACH IMPOSTER IS FOUND OUT: a recording of a few bytes on which the feed's promise does not hold of its outcome; and a list of
-- encoded commands, of which demand 2 says what must come and the imposter tells another story (`.._disobeys`).
use Prim.Native.Nat.{ℕ, ◌≤◌, ◌<◌}
use mathlib.Core.List.{List, [], ◌∷◌, append-nil}
use mathlib.Core.Bool.{cond, false≢true}
use mathlib.Core.Path.{◌≡◌, refl, sym, ◌∙◌, ap}
use native.Mathlib.Omega.{arith}
use lib.ListN.{length, get_or}
use Rattle.store.specs.Sheet.{zero_store}
use Rattle.bank.specs.Reply as K
use Rattle.crc.specs.Crc as C
use Rattle.line.specs.Line.{fresh_receiver, idle_at}
use Rattle.line.specs.Wire as W
use Rattle.host.specs.Encode.{Encoded}
use Rattle.command.specs.Pairs as Pairs
use Rattle.lines.specs.Taken as Texts
use Rattle.lines.proofs.Text.{bit_times_unpaused}
use Rattle.host.specs.ReadBank.{Cells, Reads}
use Rattle.host.proofs.ReaderLaws.{one_outcome, reads_cells}
use Rattle.line.specs.Line as Heard
use Rattle.running.specs.Running as Runs
use Rattle.module.specs.Application.{Kept}
use Rattle.module.specs.Feed.{Answer, Refused, BadEdge, Silent, Acknowledged, Feed, FeedOutcome, paper_of, FeedPromise}
use Rattle.states.specs.States.{cleared}
use Rattle.states.proofs.Counted.{none_are_on}
use Rattle.board.specs.Board.{fresh_module}
use Rattle.counts.specs.Counts as Counts
use Rattle.module.specs.Application as Asks
use Rattle.module.specs.Whole.{Answered, Story, whole_of}
use Rattle.board.proofs.Checked.{passed}
use Rattle.board.proofs.Parts.{buffers_hold_lem}
use Rattle.demands.proofs.Demand2.{demand_2}
use Rattle.demands.proofs.Feeding.{ran, by_outcome}
use Rattle.module.specs.Bench.{zeros, bench, bench_sheets, bit_times}
use Rattle.demands.specs.Rows.{row_12, row_4, row_5, FeedRow, feed_board, feed_1, feed_2, feed_3, feed_stopped, feed_through}
use Rattle.demands.proofs.Refusals.{row_of}
use Rattle.demands.specs.Pieces.{Good, times_in, levels_in}
use Rattle.demands.proofs.Opened.{opened}
use Rattle.demands.specs.Sending as Sends
use Rattle.demands.specs.Sending.{Sending, recording_of, AllSent, AllSentBy, obeyed_from}
use Rattle.demands.specs.Imposters.{Obeys, Disobeys, speed, write_at, nothing_at, completes, refuses_all, acknowledges_all, acknowledges_never, stores_nothing, stores_no_cell, handles_the_first, invented, invents_its_count, FoundOutBy, NoneRefusesAll, call_of_the_first}

-- the edge of a story's first answer
abbrev first_edge : List Answered → ℕ
first_edge [] = 0
first_edge (a ∷ others) = a.after

-- a speed is refused by no number
pub refuses_all_rejected : (number : ℕ) → FoundOutBy (refuses_all number) (0x24 ∷ 0x80 ∷ [])
unfolding opened completes call_of_the_first invented
refuses_all_rejected number h =
    let e : Refused number ≡ Silent 16 = ap (λ (o : FeedOutcome). o.answer) h in
    let z : ◌≡◌ {A = ℕ} 0 1 = cc in omega arith

-- a speed is not acknowledged
pub acknowledges_all_rejected : FoundOutBy acknowledges_all (0x24 ∷ 0x80 ∷ [])
unfolding opened completes call_of_the_first invented
acknowledges_all_rejected h = let z : ◌≡◌ {A = ℕ} 1 0 = ap (λ (o : FeedOutcome). cond (paper_of o.answer).acknowledged 1 0) h in omega arith

-- a write of 7 to CV 902 is, at its last edge
pub acknowledges_never_rejected : FoundOutBy acknowledges_never (0x7F ∷ 0x85 ∷ 0x07 ∷ [])
unfolding opened completes call_of_the_first invented
acknowledges_never_rejected h = let z : ◌≡◌ {A = ℕ} 0 1 = ap (λ (o : FeedOutcome). cond (paper_of o.answer).acknowledged 1 0) h in omega arith

-- and CV 902, the third cell of bank 0, then holds 7
pub stores_nothing_rejected : FoundOutBy stores_nothing (0x7F ∷ 0x85 ∷ 0x07 ∷ [])
unfolding opened completes call_of_the_first invented
stores_nothing_rejected h = let z : ◌≡◌ {A = ℕ} 0 7 = ap (λ (o : FeedOutcome). get_or o.board.store 2 0) h in omega arith

pub stores_no_cell_rejected : FoundOutBy stores_no_cell (0x7F ∷ 0x85 ∷ 0x07 ∷ [])
unfolding opened completes call_of_the_first invented
stores_no_cell_rejected h = let z : ◌≡◌ {A = ℕ} 0 7 = ap (λ (o : FeedOutcome). get_or o.board.store 2 0) h in omega arith

-- a speed, and then the write: it is acknowledged too
pub handles_the_first_rejected : FoundOutBy handles_the_first (0x24 ∷ 0x80 ∷ 0x7F ∷ 0x85 ∷ 0x07 ∷ [])
unfolding opened completes call_of_the_first invented
handles_the_first_rejected h = let z : ◌≡◌ {A = ℕ} 0 1 = ap (λ (o : FeedOutcome). cond (paper_of o.answer).acknowledged 1 0) h in omega arith

-- the write, and two bytes more: 24 edges are taken, and not 40
pub invents_its_count_rejected : FoundOutBy invents_its_count (0x7F ∷ 0x85 ∷ 0x07 ∷ 0x00 ∷ 0x00 ∷ [])
unfolding opened completes call_of_the_first invented
invents_its_count_rejected h = let z : ◌≡◌ {A = ℕ} 40 24 = ap (λ (o : FeedOutcome). (paper_of o.answer).edges) h in omega arith

-- The entry that refuses all again, by demand 1's "by nothing else": no row of the feed gives a number for this recording.
abbrev is_refused : Answer → ℕ
is_refused (Refused number) = 1
is_refused (BadEdge number edges) = 0
is_refused (Silent edges) = 0
is_refused (Acknowledged edges bytes) = 0

module _ (times levels : List ℕ) (even : length times ≡ length levels) where
  no_row_refuses : (k n : ℕ) (o : FeedOutcome) → FeedRow bench bench_sheets (zeros 84) times levels k o → o.answer ≡ Refused n → ⊥
  unfolding opened completes call_of_the_first invented
  no_row_refuses k n o (feed_board r (row_12 p)) is = false≢true (sym p)
  no_row_refuses k n o (feed_board r (row_4 p h)) is = false≢true (sym h)
  no_row_refuses k n o (feed_board r (row_5 p h s)) is = false≢true (sym s)
  no_row_refuses k n o (feed_1 p h s other) is = other even
  no_row_refuses k n o (feed_2 a e at count f h) is = let z : ◌≡◌ {A = ℕ} 0 1 = ap is_refused is in omega arith
  no_row_refuses k n o (feed_3 a e at count f h t) is = let z : ◌≡◌ {A = ℕ} 0 1 = ap is_refused is in omega arith
  no_row_refuses k n o (feed_stopped a e at count f g q) is = let z : ◌≡◌ {A = ℕ} 0 1 = ap is_refused is in omega arith
  no_row_refuses k n o (feed_through a at q) is = let z : ◌≡◌ {A = ℕ} 0 1 = ap is_refused is in omega arith

pub refuses_all_by_no_row : (number : ℕ) → FoundOutBy (refuses_all number) (0x24 ∷ 0x80 ∷ [])
unfolding W.levels_of W.bits_from
refuses_all_by_no_row number p =
    no_row_refuses (bit_times 16 0) (W.levels_of (0x24 ∷ 0x80 ∷ [])) refl number number (refuses_all number bench bench_sheets (zeros 84) (bit_times 16 0) (W.levels_of (0x24 ∷ 0x80 ∷ [])))
    (row_of bench bench_sheets (zeros 84) (bit_times 16 0) (W.levels_of (0x24 ∷ 0x80 ∷ [])) (refuses_all number bench bench_sheets (zeros 84) (bit_times 16 0) (W.levels_of (0x24 ∷ 0x80 ∷ []))) p number refl)
    refl

-- ---- EACH BY DEMAND 2: commands of which it says what must come, and an imposter tells another story

-- the feed itself does as demand 2 says, whatever commands are sent without a pause
bench_good : Good bench bench_sheets
unfolding opened completes call_of_the_first invented
bench_good =
    record {
      passes =
          λ room long.
          passed bench bench_sheets room
          (record { possible = refl; buffers = buffers_hold_lem (zeros 4096) zero_store bench_sheets room refl refl long; sheeted = refl });
    }

pub feed_obeys : (ss : List Sending) → AllSent fresh_receiver ss → (feed : Feed)
    → FeedPromise bench bench_sheets (zeros 84) (times_in (recording_of ss)) (levels_in (recording_of ss))
    (feed bench bench_sheets (zeros 84) (times_in (recording_of ss)) (levels_in (recording_of ss)))
    → Obeys feed ss
unfolding Obeys
feed_obeys ss sent feed p =
    let es = recording_of ss in
    let o = feed bench bench_sheets (zeros 84) (times_in es) (levels_in es) in
    sym (by_outcome (ran bench_good (zeros 84) (omega arith) es o p) 0 [])
    ∙ ap (whole_of bench bench_sheets 0) (append-nil es) ∙ demand_2 bench bench_sheets 0 ss refl sent

speed_sent : AllSent fresh_receiver (speed ∷ [])
unfolding opened AllSentBy
speed_sent = (record { accepted = refl; timed = refl; in_time = bit_times_unpaused 16 fresh_receiver 0 (omega arith) (omega arith) }, tt)

write_sent : AllSent fresh_receiver (write_at 0 ∷ [])
unfolding opened AllSentBy
write_sent = (record { accepted = refl; timed = refl; in_time = bit_times_unpaused 24 fresh_receiver 0 (omega arith) (omega arith) }, tt)

both_sent_lem : AllSent fresh_receiver (speed ∷ write_at 1600 ∷ [])
unfolding opened AllSentBy W.last_of
both_sent_lem = (speed_sent.0, (record { accepted = refl; timed = refl; in_time = bit_times_unpaused 24 (idle_at 1500) 1600 (omega arith) (omega arith) }, tt))

write_first_sent : AllSent fresh_receiver (write_at 0 ∷ nothing_at 2400 ∷ [])
unfolding opened AllSentBy W.last_of
write_first_sent = (write_sent.0, (record { accepted = refl; timed = refl; in_time = bit_times_unpaused 16 (idle_at 2300) 2400 (omega arith) (omega arith) }, tt))

pub refuses_all_disobeys : (number : ℕ) → Disobeys (refuses_all number)
unfolding opened completes call_of_the_first invented Runs.story_at Obeys Sends.recording_of Sends.edges_sent Sends.obeyed_from
refuses_all_disobeys number = record { commands = speed ∷ []; sent = speed_sent; another_story = λ h. let z : ◌≡◌ {A = ℕ} 0 16 = ap (λ (s : Story). s.taken) h in omega arith }

pub acknowledges_all_disobeys : Disobeys acknowledges_all
unfolding opened completes call_of_the_first invented Runs.story_at Obeys Sends.recording_of Sends.edges_sent Sends.obeyed_from
acknowledges_all_disobeys = record { commands = speed ∷ []; sent = speed_sent; another_story = λ h. let z : ◌≡◌ {A = ℕ} 1 0 = ap (λ (s : Story). length s.answers) h in omega arith }

pub acknowledges_never_disobeys : Disobeys acknowledges_never
unfolding opened completes call_of_the_first invented Runs.story_at Obeys Sends.recording_of Sends.edges_sent Sends.obeyed_from
acknowledges_never_disobeys = record { commands = write_at 0 ∷ []; sent = write_sent; another_story = λ h. let z : ◌≡◌ {A = ℕ} 0 1 = ap (λ (s : Story). length s.answers) h in omega arith }

pub stores_nothing_disobeys : Disobeys stores_nothing
unfolding opened completes call_of_the_first invented Runs.story_at Obeys Sends.recording_of Sends.edges_sent Sends.obeyed_from
stores_nothing_disobeys = record { commands = write_at 0 ∷ []; sent = write_sent; another_story = λ h. let z : ◌≡◌ {A = ℕ} 0 7 = ap (λ (s : Story). get_or s.board.store 2 0) h in omega arith }

pub stores_no_cell_disobeys : Disobeys stores_no_cell
unfolding opened completes call_of_the_first invented Runs.story_at Obeys Sends.recording_of Sends.edges_sent Sends.obeyed_from
stores_no_cell_disobeys = record { commands = write_at 0 ∷ []; sent = write_sent; another_story = λ h. let z : ◌≡◌ {A = ℕ} 0 7 = ap (λ (s : Story). get_or s.board.store 2 0) h in omega arith }

pub handles_the_first_disobeys : Disobeys handles_the_first
unfolding opened completes call_of_the_first invented Runs.story_at Obeys Sends.recording_of Sends.edges_sent Sends.obeyed_from
handles_the_first_disobeys = record { commands = speed ∷ write_at 1600 ∷ []; sent = both_sent_lem; another_story = λ h. let z : ◌≡◌ {A = ℕ} 0 1 = ap (λ (s : Story). length s.answers) h in omega arith }

pub invents_its_count_disobeys : Disobeys invents_its_count
unfolding opened completes call_of_the_first invented Runs.story_at Obeys Sends.recording_of Sends.edges_sent Sends.obeyed_from
invents_its_count_disobeys = record { commands = write_at 0 ∷ nothing_at 2400 ∷ []; sent = write_first_sent; another_story = λ h. let z : ◌≡◌ {A = ℕ} 40 24 = ap (λ (s : Story). first_edge s.answers) h in omega arith }

-- the reply of bank 254 is that of no cells
none_read : (room : List ℕ) → 40 ≤ length room → Reads (0x8E ∷ 0x01 ∷ 0x8E ∷ 0x01 ∷ 0x8F ∷ 0x9A ∷ 0x8F ∷ 0x00 ∷ []) room (Cells 0) room
unfolding K.pairs_of K.end_of K.body_of K.data_of K.checksum_of K.closed_by K.reply_of C.crc_bit C.crc_byte C.crc_from
none_read room wide = (reads_cells _ room []).1 (wide, omega arith, refl)

pub none_refuses_all : (number : ℕ) → 0 < number → NoneRefusesAll number
unfolding opened Counts.ShownPromise Counts.CheckedPromise cleared Asks.RestartPromise Asks.PostPromise Asks.StatusPromise Asks.WaitPromise Texts.WritePromise
none_refuses_all number some =
    record {
      restart = λ h. let z : number ≡ 0 = ap (λ (r : Asks.Restart). r.given.refusal) h in omega arith;
      post = λ h. let z : number ≡ 0 = ap (λ (k : Kept). k.refusal) h in omega arith;
      set_status = λ h. let z : number ≡ 0 = ap (λ (k : Kept). k.refusal) h in omega arith;
      set_wait = λ h. let z : number ≡ 0 = ap (λ (k : Kept). k.refusal) h in omega arith;
      shown_counts = λ h. let z : number ≡ 0 = ap Counts.refusal_of h in omega arith;
      checked_counts = λ h. let z : number ≡ 0 = ap Counts.refusal_of (h ∙ ap (Counts.checked_as fresh_module (zeros 4096)) none_are_on) in omega arith;
      view_refusal_lem = λ h. let z : number ≡ 0 = h in omega arith;
      bank_view = λ h. let z : ◌≡◌ {A = ℕ} 0 2 = ap length h in omega arith;
      edge = λ h. let z : number ≡ 0 = ap (λ (a : Heard.EdgeAnswer). a.refusal) h in omega arith;
      write = λ h. let z : number ≡ 0 = ap (λ (l : Texts.AfterBlock). Texts.block_number l.given.answer) h in omega arith;
      long_state_lem = λ h. let z : number ≡ 0 = ap Pairs.pair_refusal h in omega arith;
      encode = λ h. let z : number ≡ 0 = ap (λ (e : Encoded). e.refusal) h in omega arith;
      read_bank = λ room wide h. let e = (one_outcome _ room _ _ _ _ h (none_read room wide)).0 in let z : ◌≡◌ {A = ℕ} 0 1 = cc in omega arith;
    }
