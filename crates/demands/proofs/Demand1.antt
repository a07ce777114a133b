-- DEMAND 1. "Every entry has a promise that determines result, record and each lent byte, for refusals too." For each entry:
--   * no two different outcomes keep its promise, nor do two different results of the code, with the lent bytes at exit, as they are said
--     (`kept_as` and its like);
--   * each number is given exactly when its row of the table "Numbers given back when we say no" holds and no earlier row of that
--     entry does; 2 and 3 at the first bad edge before any acknowledgement; and no other number is ever given;
--   * "All" means record and buffers stay; 2 and 3 leave the state after the edges before, and give the count of those;
--   * "No entry leaves a record that 12 refuses unless it was given one";
--   * a reply is at most 84 bytes and "writes its own bytes and no further"; a bank read gives at most 40 cells.
-- The demand itself, sentence by sentence, is `Demand1` of specs/Demands.antt. The rows, each with what it leaves, stand in
-- specs/Rows.antt; that an outcome keeps the promise with a number exactly if that number's row says so is `feed_exactly_by_rows` and its
-- like, one for each entry of the module and for `lines::write` (`write_exactly_by_rows`, `write_determined`, `write_no_other`,
-- `write_refused_leaves`). Each promise stands in the crate that owns the entry, the entry's contract cites it, and the crate `entries`
-- shows it from that contract alone.
use Prim.Native.Nat.{ℕ, ◌≤◌, ◌<◌}
use mathlib.Core.List.{List, [], ◌∷◌}
use mathlib.Core.Bool.{Bool, true, false}
use mathlib.Core.Logic.{◌↔◌, inl, inr}
use mathlib.Core.Path.{◌≡◌, refl, sym, ◌∙◌, ap}
use native.Mathlib.Omega.{arith}
use lib.Dec.{leb}
use lib.ListN.{length, drop}
use borrow.Author.Tests.{leb-true, leb-false}
use Rattle.std.proofs.Common.{Some, Result}
use Rattle.bits.specs.Bits.{Bytes}
use Rattle.bits.proofs.Tests.{by}
use Rattle.refusals.specs.declared.Refusal.{Refusal}
use Rattle.line.specs.declared.packet.Packet.{Packet}
use Rattle.line.specs.declared.receiver.Receiver.{Receiver}
use Rattle.line.specs.declared.receiver.Heard as Given
use Rattle.line.specs.Line as L
use Rattle.line.specs.Line.{no_packet, quiet, receiver_possible, EdgePromise, edge_as, WholeAnswer}
use Rattle.line.specs.Wire.{edges_of}
use Rattle.line.proofs.Edges as Le
use Rattle.line.proofs.Told.{told_once}
use Rattle.command.specs.declared.Command.{Command}
use Rattle.command.specs.declared.pairs.Halves.{Halves}
use Rattle.command.specs.Pairs.{Paired, paired, LongStatePromise, pair_refusal}
use Rattle.command.specs.Meaning.{meaning_of}
use Rattle.command.specs.Saying.{has_room, UnreadZero, ThreeBytes}
use Rattle.command.proofs.PairLaws.{long_taken, long_refused, paired_once}
use Rattle.bank.specs.Reply.{reply_of, at_front}
use Rattle.host.specs.Encode.{Encoded, encoded_as, EncodePromise}
use Rattle.host.specs.ReadBank.{ReadBankPromise, OtherChecksum, NoShape, BankRead, read_as}
use Rattle.host.specs.ReadBank as H
use Rattle.host.proofs.EncoderLaws as HE
use Rattle.host.proofs.ReaderLaws as HR
use Rattle.store.specs.Sheet.{Sheets, sheets_hold}
use Rattle.bidi.specs.Messages.{message_legal, status_legal}
use Rattle.board.specs.declared.record.Module.{Module}
use Rattle.board.specs.Board.{Board, restarted_of, fresh_module, module_possible, buffers_hold}
use Rattle.board.proofs.Restart.{new_is_restarted}
use Rattle.board.proofs.Checked.{right}
use Rattle.module.specs.declared.feeding.Fed.{Fed}
use Rattle.module.specs.Application.{Kept, kept_as, Restart, restart, RestartPromise, PostPromise, StatusPromise, WaitPromise}
use Rattle.module.specs.Feed.{Refused, BadEdge, FeedOutcome, ending, fed_as, FeedPromise, paper_of}
use Rattle.module.proofs.Once.{kept_once}
use Rattle.module.proofs.Lent.{restart_once, feed_once}
use Rattle.lines.specs.declared.Lines.{Lines}
use Rattle.lines.specs.declared.Untaken.{Untaken}
use Rattle.lines.specs.Taken.{Text, AfterBlock, untaken, block_number, leaving, given_as, WritePromise}
use Rattle.lines.proofs.Blocks.{taken_ready}
use Rattle.lines.proofs.Given.{write_once}
use Rattle.demands.specs.Rows.{row_12, row_4, row_5, Among, FirstBad, BadAt, Accepted, FeedRow, feed_board, feed_1, RestartRow, PostRow, StatusRow, WaitRow, restart_12, restart_4, restart_done, post_12, post_6, post_7, status_12, status_11, wait_12, WriteRow, write_board, write_held, write_short, write_done}
use Rattle.demands.proofs.Refusals as R
use Rattle.demands.proofs.Staying as S

-- ---- `module::feed`

module _ (b : Board) (sheets : Sheets) (room times levels : List ℕ) where
  pub feed_determined : (o q : FeedOutcome) → FeedPromise b sheets room times levels o → FeedPromise b sheets room times levels q → o ≡ q
  unfolding FeedPromise
  feed_determined o q p r = p ∙ sym r

  pub feed_decided : (a q : Result Fed Refusal) (states store after states' store' after' : List ℕ) → FeedPromise b sheets room times levels (fed_as b.kept a states store after)
      → FeedPromise b sheets room times levels (fed_as b.kept q states' store' after') → (a ≡ q) × (states ≡ states') × (store ≡ store') × (after ≡ after')
  feed_decided a q states store after states' store' after' p r = feed_once b.kept a q states store after states' store' after' (feed_determined _ _ p r)

  -- an outcome keeps the promise with a number (0: none) exactly if that number's row says so, and the row says what is left
  pub feed_exactly_by_rows : (k : ℕ) (o : FeedOutcome)
      → (FeedPromise b sheets room times levels o × ((paper_of o.answer).number ≡ k)) ↔ FeedRow b sheets room times levels k o
  feed_exactly_by_rows = R.feed_rows b sheets room times levels

  module _ (o : FeedOutcome) (p : FeedPromise b sheets room times levels o) where
    abbrev Gives : ℕ → Type 0
    Gives k = (paper_of o.answer).number ≡ k

    row : (k : ℕ) → Gives k → FeedRow b sheets room times levels k o
    row k g = R.row_of b sheets room times levels o p k g

    number : (k : ℕ) (q : FeedOutcome) → FeedRow b sheets room times levels k q → Gives k
    number k q r = R.number_of b sheets room times levels o p k q r

    -- 12: "record impossible"
    pub feed_gives_12 : Gives 12 ↔ (module_possible b.kept ≡ false)
    feed_gives_12 = (λ g. R.feed_twelve b sheets room times levels 12 o (row 12 g) refl, λ h. number 12 _ (feed_board 12 (row_12 h)))

    -- 4: "store, size sheet, states not 10,240, 256, 4,096 bytes; reply room under 84"
    pub feed_gives_4 : Gives 4 ↔ ((module_possible b.kept ≡ true) × (buffers_hold b.states b.store sheets room ≡ false))
    feed_gives_4 = (λ g. R.feed_four b sheets room times levels 4 o (row 4 g) refl, λ h. number 4 _ (feed_board 4 (row_4 h.0 h.1)))

    -- 5: "size sheet breaks its rule"
    pub feed_gives_5 : Gives 5 ↔ ((module_possible b.kept ≡ true) × (buffers_hold b.states b.store sheets room ≡ true) × (sheets_hold sheets ≡ false))
    feed_gives_5 = (λ g. R.feed_five b sheets room times levels 5 o (row 5 g) refl, λ h. number 5 _ (feed_board 5 (row_5 h.0 h.1 h.2)))

    -- 1: "list lengths differ"
    pub feed_gives_1 : Gives 1
        ↔ ((module_possible b.kept ≡ true) × (buffers_hold b.states b.store sheets room ≡ true) × (sheets_hold sheets ≡ true) × (length times ≡ length levels → ⊥))
    feed_gives_1 = (λ g. R.feed_one b sheets room times levels 1 o (row 1 g) refl, λ h. number 1 _ (feed_1 h.0 h.1 h.2 h.3))

    -- 2, 3: "level not 0 or 1", "time below the edge before, since restart", at the first bad edge before any acknowledgement
    pub feed_gives_2 : Gives 2 ↔ (Accepted b sheets room times levels × BadAt sheets b (edges_of times levels) 2)
    feed_gives_2 = (
      λ g. let w = R.feed_two b sheets room times levels 2 o (row 2 g) refl in (w.0, (w.1.0, w.1.1, w.1.2)),
      λ h. let w = h.1 in number 2 _ (R.bad_row b sheets room times levels 2 w.0 w.1 h.0 w.2 (λ z. omega arith)),
    )

    pub feed_gives_3 : Gives 3 ↔ (Accepted b sheets room times levels × BadAt sheets b (edges_of times levels) 3)
    feed_gives_3 = (
      λ g. let w = R.feed_three b sheets room times levels 3 o (row 3 g) refl in (w.0, (w.1.0, w.1.1, w.1.2)),
      λ h. let w = h.1 in number 3 _ (R.bad_row b sheets room times levels 3 w.0 w.1 h.0 w.2 (λ z. omega arith)),
    )

    -- they leave the board that the edges before left, the room untouched, and give the count of those edges
    pub feed_bad_leaves : (k : ℕ) (at : Board) (count : ℕ) → Accepted b sheets room times levels → FirstBad sheets b (edges_of times levels) k at count
        → (k ≡ 0 → ⊥) → o ≡ ending at room (BadEdge k count)
    unfolding FeedPromise
    feed_bad_leaves k at count a f not-0 =
        p ∙ sym ((R.feed_rows b sheets room times levels k (ending at room (BadEdge k count))).1 (R.bad_row b sheets room times levels k at count a f not-0)).0

    -- by nothing else
    pub feed_no_other : Among (paper_of o.answer).number (0 ∷ 12 ∷ 4 ∷ 5 ∷ 1 ∷ 2 ∷ 3 ∷ [])
    feed_no_other = R.feed_among b sheets room times levels (paper_of o.answer).number o (row (paper_of o.answer).number refl)

    -- 12, 4, 5 and 1 leave all
    pub feed_refused_leaves : (n : ℕ) → o.answer ≡ Refused n → o ≡ ending b room (Refused n)
    feed_refused_leaves n is =
        R.refused_row b sheets room times levels (paper_of o.answer).number n o (row (paper_of o.answer).number refl) is

    harmless : S.Harmless b room o
    unfolding FeedPromise
    harmless = rw p (S.feed_harmless b sheets room times levels)

    -- a possible record stays possible, the lists keep their lengths
    pub feed_stays_possible : module_possible b.kept ≡ true → module_possible o.board.kept ≡ true
    feed_stays_possible = harmless.still_possible

    pub feed_lengths_stay : (length o.board.states ≡ length b.states) × (length o.board.store ≡ length b.store) × (length o.room ≡ length room)
    feed_lengths_stay = (harmless.same_states, harmless.same_store, harmless.same_room)

    -- a reply is at most 84 bytes, and nothing past it is written
    pub reply_at_most_84 : (paper_of o.answer).length ≤ 84
    reply_at_most_84 = harmless.short

    pub past_reply_untouched : drop (paper_of o.answer).length o.room ≡ drop (paper_of o.answer).length room
    past_reply_untouched = harmless.past_reply

-- ---- `Module::new`: a module as it is made is possible, and is what a restart leaves where CV 897 is 1 and CV 1021 is 0

pub new_possible : module_possible fresh_module ≡ true
new_possible = S.new_module

pub new_as_restarted : (m : Module) → m.settings.number ≡ 1 → m.settings.bank ≡ 0 → restarted_of m ≡ fresh_module
new_as_restarted = new_is_restarted

-- ---- `module::restart`

module _ (m : Module) (states : List ℕ) where
  pub restart_determined : (r q : Restart) → RestartPromise m states r → RestartPromise m states q → r ≡ q
  unfolding RestartPromise
  restart_determined r q p s = p ∙ sym s

  pub restart_decided : (a q : Result Module Refusal) (after then : List ℕ) → RestartPromise m states (restart (kept_as m a) after)
      → RestartPromise m states (restart (kept_as m q) then) → (a ≡ q) × (after ≡ then)
  restart_decided a q after then p r = restart_once m a q after then (restart_determined _ _ p r)

  pub restart_exactly_by_rows : (k : ℕ) (r : Restart) → (RestartPromise m states r × (r.given.refusal ≡ k)) ↔ RestartRow m states k r
  restart_exactly_by_rows = R.restart_rows m states

  module _ (r : Restart) (p : RestartPromise m states r) where
    pub restart_gives_12 : (r.given.refusal ≡ 12) ↔ (module_possible m ≡ false)
    restart_gives_12 = (λ g. R.restart_twelve m states 12 r (R.row_of_restart m states r p 12 g) refl, λ h. R.number_of_restart m states r p 12 _ (restart_12 h))

    pub restart_gives_4 : (r.given.refusal ≡ 4) ↔ ((module_possible m ≡ true) × (length states ≡ 4096 → ⊥))
    restart_gives_4 = (λ g. R.restart_four m states 4 r (R.row_of_restart m states r p 4 g) refl, λ h. R.number_of_restart m states r p 4 _ (restart_4 h.0 h.1))

    pub restart_no_other : Among r.given.refusal (0 ∷ 12 ∷ 4 ∷ [])
    restart_no_other = R.restart_among m states r.given.refusal r (R.row_of_restart m states r p r.given.refusal refl)

    pub restart_refused_leaves : (r.given.refusal ≡ 0 → ⊥) → (r.given.kept ≡ m) × (r.states ≡ states)
    restart_refused_leaves n = R.restart_left m states r.given.refusal r (R.row_of_restart m states r p r.given.refusal refl) n

    -- one that is not refused leaves what a restart leaves
    pub restart_taken : r.given.refusal ≡ 0 → r.given.kept ≡ restarted_of m
    restart_taken g = done 0 r (R.row_of_restart m states r p 0 g) refl
      where
        done : (k : ℕ) (q : Restart) → RestartRow m states k q → k ≡ 0 → q.given.kept ≡ restarted_of m
        done k q (restart_12 h) z = let f : ⊥ = omega arith in absurd f
        done k q (restart_4 h l) z = let f : ⊥ = omega arith in absurd f
        done k q (restart_done h l) z = refl

    pub restart_stays_possible : module_possible m ≡ true → module_possible r.given.kept ≡ true
    unfolding RestartPromise
    restart_stays_possible h = rw p (S.restart_stays m states h)

    pub restart_length_stays : length r.states ≡ length states
    unfolding RestartPromise
    restart_length_stays = rw p (S.restart_length m states)

-- ---- `module::post`: a message is its two (header, data) halves, four bytes

module _ (m : Module) (message : List ℕ) where
  pub post_determined : (a q : Kept) → PostPromise m message a → PostPromise m message q → a ≡ q
  unfolding PostPromise
  post_determined a q p s = p ∙ sym s

  pub post_decided : (a q : Result Module Refusal) → PostPromise m message (kept_as m a) → PostPromise m message (kept_as m q) → a ≡ q
  post_decided a q p s = kept_once m a q (post_determined _ _ p s)

  pub post_exactly_by_rows : (k : ℕ) (a : Kept) → (PostPromise m message a × (a.refusal ≡ k)) ↔ PostRow m message k a
  post_exactly_by_rows = R.post_rows m message

  module _ (a : Kept) (p : PostPromise m message a) where
    pub post_gives_12 : (a.refusal ≡ 12) ↔ (module_possible m ≡ false)
    post_gives_12 = (λ g. R.post_twelve m message 12 a (R.row_of_post m message a p 12 g) refl, λ h. R.number_of_post m message a p 12 _ (post_12 h))

    -- 6: "posted message not legal"
    pub post_gives_6 : (a.refusal ≡ 6) ↔ ((module_possible m ≡ true) × (message_legal message ≡ false))
    post_gives_6 = (λ g. R.post_six m message 6 a (R.row_of_post m message a p 6 g) refl, λ h. R.number_of_post m message a p 6 _ (post_6 h.0 h.1))

    -- 7: "queue holds 8"
    pub post_gives_7 : (a.refusal ≡ 7) ↔ ((module_possible m ≡ true) × (message_legal message ≡ true) × (8 ≤ m.bidi.queued))
    post_gives_7 = (λ g. R.post_seven m message 7 a (R.row_of_post m message a p 7 g) refl, λ h. R.number_of_post m message a p 7 _ (post_7 h.0 h.1 h.2))

    pub post_no_other : Among a.refusal (0 ∷ 12 ∷ 6 ∷ 7 ∷ [])
    post_no_other = R.post_among m message a.refusal a (R.row_of_post m message a p a.refusal refl)

    pub post_refused_leaves : (a.refusal ≡ 0 → ⊥) → a.kept ≡ m
    post_refused_leaves n = R.post_left m message a.refusal a (R.row_of_post m message a p a.refusal refl) n

    pub post_stays_possible : length message ≡ 4 → module_possible m ≡ true → module_possible a.kept ≡ true
    unfolding PostPromise
    post_stays_possible four h = rw p (S.post_stays m message four h)

-- ---- `module::set_status`

module _ (m : Module) (number value : ℕ) where
  pub status_determined : (a q : Kept) → StatusPromise m number value a → StatusPromise m number value q → a ≡ q
  unfolding StatusPromise
  status_determined a q p s = p ∙ sym s

  pub status_decided : (a q : Result Module Refusal) → StatusPromise m number value (kept_as m a) → StatusPromise m number value (kept_as m q) → a ≡ q
  status_decided a q p s = kept_once m a q (status_determined _ _ p s)

  pub status_exactly_by_rows : (k : ℕ) (a : Kept) → (StatusPromise m number value a × (a.refusal ≡ k)) ↔ StatusRow m number value k a
  status_exactly_by_rows = R.status_rows m number value

  module _ (a : Kept) (p : StatusPromise m number value a) where
    pub status_gives_12 : (a.refusal ≡ 12) ↔ (module_possible m ≡ false)
    status_gives_12 = (λ g. R.status_twelve m number value 12 a (R.row_of_status m number value a p 12 g) refl, λ h. R.number_of_status m number value a p 12 _ (status_12 h))

    -- 11: "status number over 1, or status with a reserved bit"
    pub status_gives_11 : (a.refusal ≡ 11) ↔ ((module_possible m ≡ true) × (status_legal number value ≡ false))
    status_gives_11 = (λ g. R.status_eleven m number value 11 a (R.row_of_status m number value a p 11 g) refl, λ h. R.number_of_status m number value a p 11 _ (status_11 h.0 h.1))

    pub status_no_other : Among a.refusal (0 ∷ 12 ∷ 11 ∷ [])
    status_no_other = R.status_among m number value a.refusal a (R.row_of_status m number value a p a.refusal refl)

    pub status_refused_leaves : (a.refusal ≡ 0 → ⊥) → a.kept ≡ m
    status_refused_leaves n = R.status_left m number value a.refusal a (R.row_of_status m number value a p a.refusal refl) n

    pub status_stays_possible : module_possible m ≡ true → module_possible a.kept ≡ true
    unfolding StatusPromise
    status_stays_possible h = rw p (S.status_stays m number value h)

-- ---- `module::set_wait`

module _ (m : Module) (on : Bool) where
  pub wait_determined : (a q : Kept) → WaitPromise m on a → WaitPromise m on q → a ≡ q
  unfolding WaitPromise
  wait_determined a q p s = p ∙ sym s

  pub wait_decided : (a q : Result Module Refusal) → WaitPromise m on (kept_as m a) → WaitPromise m on (kept_as m q) → a ≡ q
  wait_decided a q p s = kept_once m a q (wait_determined _ _ p s)

  pub wait_exactly_by_rows : (k : ℕ) (a : Kept) → (WaitPromise m on a × (a.refusal ≡ k)) ↔ WaitRow m on k a
  wait_exactly_by_rows = R.wait_rows m on

  module _ (a : Kept) (p : WaitPromise m on a) where
    pub wait_gives_12 : (a.refusal ≡ 12) ↔ (module_possible m ≡ false)
    wait_gives_12 = (λ g. R.wait_twelve m on 12 a (R.row_of_wait m on a p 12 g) refl, λ h. R.number_of_wait m on a p 12 _ (wait_12 h))

    pub wait_no_other : Among a.refusal (0 ∷ 12 ∷ [])
    wait_no_other = R.wait_among m on a.refusal a (R.row_of_wait m on a p a.refusal refl)

    pub wait_refused_leaves : (a.refusal ≡ 0 → ⊥) → a.kept ≡ m
    wait_refused_leaves n = R.wait_left m on a.refusal a (R.row_of_wait m on a p a.refusal refl) n

    pub wait_stays_possible : module_possible m ≡ true → module_possible a.kept ≡ true
    unfolding WaitPromise
    wait_stays_possible h = rw p (S.wait_stays m on h)

-- ---- `line::Receiver::edge`

pub edge_determined : (r : Receiver) (time level : ℕ) (a b : L.EdgeAnswer) → EdgePromise r time level a → EdgePromise r time level b → a ≡ b
edge_determined r time level a b p q = p ∙ sym q

pub edge_decided : (r : Receiver) (time level : ℕ) (a q : Result Given.Heard Refusal) → WholeAnswer a → WholeAnswer q
    → EdgePromise r time level (edge_as r a) → EdgePromise r time level (edge_as r q) → a ≡ q
edge_decided r time level a q w v p s = told_once r a q w v (edge_determined r time level _ _ p s)

module _ (r : Receiver) (time level : ℕ) (a : L.EdgeAnswer) (p : EdgePromise r time level a) where
  pub edge_gives_12 : (a.refusal ≡ 12) ↔ (receiver_possible r ≡ false)
  edge_gives_12 = rw p (Le.refuses_12 r time level)

  pub edge_gives_2 : (a.refusal ≡ 2) ↔ ((receiver_possible r ≡ true) × (1 < level))
  edge_gives_2 = rw p (Le.refuses_2 r time level)

  pub edge_gives_3 : (a.refusal ≡ 3) ↔ ((receiver_possible r ≡ true) × (level ≤ 1) × (time < r.last))
  edge_gives_3 = rw p (Le.refuses_3 r time level)

  pub edge_no_other : Among a.refusal (0 ∷ 12 ∷ 2 ∷ 3 ∷ [])
  edge_no_other =
      rw p (Le.edge_cases r time level (λ (x : L.EdgeAnswer). Among x.refusal (0 ∷ 12 ∷ 2 ∷ 3 ∷ []))
      (λ q. inr (inl refl)) (λ q l. inr (inr (inl refl))) (λ q l t. inr (inr (inr (inl refl)))) (λ q l t. inl refl))

  pub edge_refused_leaves : (a.refusal ≡ 0 → ⊥) → a.heard ≡ quiet r
  edge_refused_leaves = rw p (Le.refusal_leaves r time level)

  pub edge_stays_possible : receiver_possible r ≡ true → receiver_possible a.heard.receiver ≡ true
  edge_stays_possible h = rw p (Le.answer_possible r time level h)

-- ---- `command::Command::long_state`

module _ (number : ℕ) (on : Bool) where
  pub long_determined : (a b : Paired) → LongStatePromise number on a → LongStatePromise number on b → a ≡ b
  long_determined a b p q = p ∙ sym q

  pub long_decided : (a b : Result Halves Refusal) → LongStatePromise number on (paired a) → LongStatePromise number on (paired b) → a ≡ b
  long_decided a b p q = paired_once a b (long_determined _ _ p q)

  module _ (a : Paired) (p : LongStatePromise number on a) where
    abbrev LongGives : ℕ → Type 0
    LongGives k = pair_refusal a ≡ k

    refuses : 32767 < number → LongGives 8
    refuses h = ap pair_refusal (p ∙ long_refused number on h)

    takes : number ≤ 32767 → LongGives 0
    takes h = ap pair_refusal (p ∙ long_taken number on h)

    -- 8: "CV, bit, number or value that a command has no room for"
    pub long_gives_8 : LongGives 8 ↔ (32767 < number)
    long_gives_8 = (
      λ g. by (leb number 32767) (λ h. absurd (omega (arith, g, takes (leb-true number 32767 h)))) (λ h. leb-false number 32767 h),
      refuses,
    )

    pub long_no_other : Among (pair_refusal a) (0 ∷ 8 ∷ [])
    long_no_other = by (leb number 32767) (λ h. inl (takes (leb-true number 32767 h))) (λ h. inr (inl (refuses (leb-false number 32767 h))))

-- ---- `host::encode`

pub encode_is_determined : (c : Command) (a b : Encoded) → EncodePromise c a → EncodePromise c b → a ≡ b
encode_is_determined c a b p q = HE.encode_determined c a b p q

pub encode_decided : (c : Command) (a b : Result Packet Refusal) → EncodePromise c (encoded_as a) → EncodePromise c (encoded_as b) → a ≡ b
encode_decided c a b p q = HE.encoded_once a b (encode_is_determined c _ _ p q)

module _ (c : Command) (a : Encoded) (p : EncodePromise c a) where
  -- 8: "CV, bit, number or value that a command has no room for"
  pub encode_gives_8 : (a.refusal ≡ 8) ↔ (has_room c ≡ false)
  encode_gives_8 = (
    λ g. by (has_room c) (λ h. absurd (omega (arith, g, ap (λ (x : Encoded). x.refusal) (p ∙ HE.taken c h)))) (λ h. h),
    λ h. ap (λ (x : Encoded). x.refusal) (p ∙ HE.refused c h),
  )

  pub encode_no_other : Among a.refusal (0 ∷ 8 ∷ [])
  encode_no_other = by (has_room c) (λ h. inl (ap (λ (x : Encoded). x.refusal) (p ∙ HE.taken c h))) (λ h. inr (inl (ap (λ (x : Encoded). x.refusal) (p ∙ HE.refused c h))))

  -- "and none on refusal"
  pub encode_refused_none : (a.refusal ≡ 8) → a.packet ≡ no_packet
  encode_refused_none g = ap (λ (x : Encoded). x.packet) (p ∙ HE.refused c (encode_gives_8.0 g))

  -- "It writes unread bits as 0; packets of that form come back byte for byte"
  pub encode_comes_back : (q : Packet) → ThreeBytes q → UnreadZero q → meaning_of q ≡ Some c → a ≡ record { refusal = 0; packet = q }
  encode_comes_back q three unread says = p ∙ HE.comes_back q c three unread says

-- ---- `host::read_bank`: the answer, and the room after it

pub read_bank_determined : (reply room : List ℕ) (a b : BankRead) (x y : List ℕ)
    → ReadBankPromise reply room a x → ReadBankPromise reply room b y → (a ≡ b) × (x ≡ y)
read_bank_determined reply room a b x y p q = HR.one_outcome reply room a b x y p q

pub read_bank_decided : (reply room : List ℕ) (a b : Result ℕ Refusal) (x y : List ℕ)
    → ReadBankPromise reply room (read_as a) x → ReadBankPromise reply room (read_as b) y → (a ≡ b) × (x ≡ y)
read_bank_decided reply room a b x y p q = let d = read_bank_determined reply room _ _ x y p q in (HR.read_once a b d.0, d.1)

module _ (reply room after : List ℕ) where
  -- n and those cells exactly for the reply of those n cells: "The host's reader takes exactly that language"
  pub read_bank_gives_cells : (cells : List ℕ)
      → ReadBankPromise reply room (H.Cells (length cells)) (at_front cells room) ↔ ((40 ≤ length room) × (length cells ≤ 40) × (reply ≡ reply_of cells))
  read_bank_gives_cells = HR.reads_cells reply room

  -- 4: "reader's room under 40"
  pub read_bank_gives_4 : ReadBankPromise reply room (H.Refused 4) after ↔ ((length room < 40) × (after ≡ room))
  read_bank_gives_4 = HR.refuses_4 reply room after

  -- 9: "bank reply not of the shape"
  pub read_bank_gives_9 : ReadBankPromise reply room (H.Refused 9) after ↔ ((40 ≤ length room) × NoShape reply × (after ≡ room))
  read_bank_gives_9 = HR.refuses_9 reply room after

  -- 10: "shape right, checksum wrong"
  pub read_bank_gives_10 : ReadBankPromise reply room (H.Refused 10) after ↔ ((40 ≤ length room) × OtherChecksum reply × (after ≡ room))
  read_bank_gives_10 = HR.refuses_10 reply room after

  reason_among : (x : ℕ) → HR.Why reply room x → Among x (4 ∷ 9 ∷ 10 ∷ [])
  reason_among x (HR.row_4 h) = inl refl
  reason_among x (HR.row_9 h w) = inr (inl refl)
  reason_among x (HR.row_10 h w) = inr (inr (inl refl))

  pub read_bank_no_other : (x : ℕ) → ReadBankPromise reply room (H.Refused x) after → Among x (4 ∷ 9 ∷ 10 ∷ [])
  read_bank_no_other x r = reason_among x (HR.why_refused reply room (H.Refused x) after x r refl).1

  -- at most 40 cells, and nothing past them is written
  pub at_most_40_cells : (n : ℕ) → ReadBankPromise reply room (H.Cells n) after → (n ≤ 40) × (drop n after ≡ drop n room) × (length after ≡ length room)
  at_most_40_cells n r = HR.past_n reply room after n r

-- ---- `lines::write`

module _ (b : Board) (sheets : Sheets) (room out input : List ℕ) where
  pub write_determined : (l k : AfterBlock) → WritePromise b sheets room out input l → WritePromise b sheets room out input k → l ≡ k
  unfolding WritePromise
  write_determined l k p q = p ∙ sym q

  pub write_decided : (a q : Result Lines Untaken) (states store after text states' store' after' text' : List ℕ)
      → WritePromise b sheets room out input (leaving (given_as b.kept a) states store after text)
      → WritePromise b sheets room out input (leaving (given_as b.kept q) states' store' after' text')
      → (a ≡ q) × (states ≡ states') × (store ≡ store') × (after ≡ after') × (text ≡ text')
  write_decided a q states store after text states' store' after' text' p r =
      write_once b.kept a q states store after text states' store' after' text' (write_determined _ _ p r)

  -- an outcome keeps the promise exactly if a row of the entry says so: 12, 4, 5 of the table, held bits, too little room for text, or none
  pub write_exactly_by_rows : (l : AfterBlock) → WritePromise b sheets room out input l ↔ WriteRow b sheets room out input l
  write_exactly_by_rows = R.write_rows_lem b sheets room out input

  -- by nothing else
  pub write_no_other : (l : AfterBlock) → WritePromise b sheets room out input l → Among (block_number l.given.answer) (0 ∷ 12 ∷ 4 ∷ 5 ∷ [])
  write_no_other l p = numbered l ((R.write_rows_lem b sheets room out input l).0 p)
    where
      numbered : (l : AfterBlock) → WriteRow b sheets room out input l → Among (block_number l.given.answer) (0 ∷ 12 ∷ 4 ∷ 5 ∷ [])
      numbered l (write_board n (row_12 q)) = inr (inl refl)
      numbered l (write_board n (row_4 q h)) = inr (inr (inl refl))
      numbered l (write_board n (row_5 q h s)) = inr (inr (inr (inl refl)))
      numbered l (write_held none n) = inl refl
      numbered l (write_short none n s) = inl refl
      numbered l (write_done none n s) = inl refl

  -- a possible record stays possible, whatever bytes come
  pub write_stays_possible : Bytes input → (l : AfterBlock) → WritePromise b sheets room out input l → module_possible b.kept ≡ true → module_possible l.given.kept ≡ true
  write_stays_possible bytes l p h = possible l ((R.write_rows_lem b sheets room out input l).0 p)
    where
      possible : (l : AfterBlock) → WriteRow b sheets room out input l → module_possible l.given.kept ≡ true
      possible l (write_board n (row_12 q)) = h
      possible l (write_board n (row_4 q k)) = h
      possible l (write_board n (row_5 q k s)) = h
      possible l (write_held none n) = h
      possible l (write_short none n s) = h
      possible l (write_done none n s) = (taken_ready input b sheets room (record { right_board = right b sheets room none; no_bits = n }) bytes).ready.right_board.possible

  -- what takes nothing leaves all
  pub write_refused_leaves : (l : AfterBlock) → WritePromise b sheets room out input l → ((bytes : ℕ) → l.given.answer ≡ Text bytes → ⊥)
      → l ≡ untaken b room out l.given.answer
  write_refused_leaves l p no_text = leaves l ((R.write_rows_lem b sheets room out input l).0 p) no_text
    where
      leaves : (l : AfterBlock) → WriteRow b sheets room out input l → ((bytes : ℕ) → l.given.answer ≡ Text bytes → ⊥) → l ≡ untaken b room out l.given.answer
      leaves l (write_board n (row_12 q)) no_text = refl
      leaves l (write_board n (row_4 q h)) no_text = refl
      leaves l (write_board n (row_5 q h s)) no_text = refl
      leaves l (write_held none n) no_text = refl
      leaves l (write_short none n s) no_text = refl
      leaves l (write_done none n s) no_text = absurd (no_text _ refl)
