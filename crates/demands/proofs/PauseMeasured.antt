-- C-03 HOLDS: what specs/PauseMeasured.antt says, sentence by sentence.
use Prim.Native.Nat.{ℕ, ◌+◌, ◌≤◌}
use mathlib.Core.Bool.{Bool, true, false}
use mathlib.Core.List.{List, [], ◌∷◌, flatten}
use mathlib.Core.Logic.Iff
use mathlib.Core.Logic.{◌↔◌, ◌⊎◌, inl, inr, ⊎_elim}
use mathlib.Core.Path.{◌≡◌, refl, sym, ◌∙◌, ap}
use native.Mathlib.Omega.{arith}
use lib.Dec.{eqb}
use lib.ListN.{length}
use borrow.Author.Tests.{eq-eqb, ne_eqb, eqb-true, eqb-false, leb-false, lt-leb}
use Rattle.bits.proofs.Tests.{by}
use Rattle.running.specs.Running as R
use Rattle.running.specs.Running.{answering_if, call_of}
use Rattle.line.specs.declared.packet.Packet.{Packet}
use Rattle.line.specs.declared.receiver.Receiver.{Receiver}
use Rattle.line.specs.Line.{Heard, EdgeAnswer}
use Rattle.line.specs.Line.{no_packet, fresh_receiver, at_time, quiet, clock_runs, late, is_pause, PauseAt, paused_of, bit_of, step_of, clock_possible, receiver_possible, answer_of, EdgePromise}
use Rattle.line.specs.Wire.{Edge, edges_of, hearing, RightEdges, answers_to}
use Rattle.line.specs.Clock.{clock_start, since_afresh, ClockOf}
use Rattle.line.proofs.Laws as Law
use Rattle.line.proofs.Edges as On
use Rattle.line.proofs.Clock as Clock
use Rattle.store.specs.Sheet.{Sheets}
use Rattle.bank.specs.Reply.{at_front}
use Rattle.board.specs.declared.record.Module.{Module}
use Rattle.board.specs.Board.{Board, with_receiver, after_gap, module_possible, board_refusal, restarted_of}
use Rattle.board.proofs.Parts.{receiver_decides}
use Rattle.reactions.specs.Reactions.{Effect, silently}
use Rattle.module.specs.Application.{Restart, RestartPromise}
use Rattle.module.specs.Edge.{bad_edge, heard_effect, edge_effect}
use Rattle.module.specs.Feed.{FeedOutcome, tells_at, run_of, feed_by, FeedPromise}
use Rattle.module.specs.Whole.{edge_rule, Story, story_with, whole_of}
use Rattle.firmware.specs.declared.Outcome.{Outcome}
use Rattle.firmware.specs.InPlace.{in_place, EdgeInPlacePromise}
use Rattle.module.proofs.Edges.{heard_receiver, edge_receiver}
use Rattle.module.proofs.Packets.{steady_edge}
use Rattle.lines.specs.Taken.{Text, Taken, AfterBlock, heard_of, byte_effect, lined, taken_of, WritePromise}
use Rattle.lines.proofs.Refusals.{text_given_lem}
use Rattle.demands.specs.PauseMeasured.{bit_zero_at, begun_at, joining, HeldWithoutStart, StartsAfterLast, HeldRight, C03}
use Rattle.demands.specs.Pieces.{Good, LongRooms, Feeds}
use Rattle.demands.proofs.Demand1 as One
use Rattle.demands.proofs.Demand3.{demand_3}
use Rattle.demands.proofs.Firmware as F

-- ---- one edge

no_pause : (r : Receiver) (time : ℕ) → (PauseAt r time → ⊥) → is_pause r time ≡ false
no_pause r time other = by (is_pause r time) (λ e. absurd (other ((Law.pause_exactly r time).0 e))) (λ e. e)

-- an edge that is not refused is one that is taken
module _ (r : Receiver) (time level : ℕ) (a : EdgeAnswer) (p : EdgePromise r time level a) (fine : a.refusal ≡ 0) where
  facts : (receiver_possible r ≡ true) × (level ≤ 1) × (r.last ≤ time)
  facts = (On.refuses_nothing r time level).0 (ap (λ (x : EdgeAnswer). x.refusal) (sym p) ∙ fine)

  heard_is : a.heard ≡ step_of r time level
  heard_is = ap (λ (x : EdgeAnswer). x.heard) (p ∙ On.edge_taken r time level facts.0 facts.1 facts.2)

  edge_afresh : PauseAt r time → a.heard ≡ quiet (bit_zero_at time level)
  edge_afresh h = heard_is ∙ Law.begins_afresh r time level ((Law.pause_exactly r time).1 h)

  edge_goes_on : (PauseAt r time → ⊥) → a.heard ≡ bit_of (at_time r time) level
  edge_goes_on other = heard_is ∙ Law.goes_on r time level (no_pause r time other)

  edge_leaves : (a.heard.receiver.started ≡ 1) × (a.heard.receiver.last ≡ time) × (a.heard.receiver.start ≤ time)
  edge_leaves =
      let s = (step_of r time level).receiver in
      let possible = Law.step_possible r time level facts.0 (omega (arith, facts.1)) facts.2 in
      let runs = Law.marked_runs s (On.step_marked r time level) in
      rw heard_is
      (On.step_marked r time level, On.step_last r time level, omega (arith, Law.started_le s possible runs, On.step_last r time level))

-- the same in its place: what it gives and leaves is the answer's
module _ (r : Receiver) (time level : ℕ) (o : Outcome) (after : Receiver) (p : EdgeInPlacePromise r time level (in_place o after))
    (fine : o.refusal ≡ 0) where
  answer_fine : (answer_of r time level).refusal ≡ 0
  answer_fine = ap (λ (q : Outcome). q.refusal) (sym (F.outcome_is r time level o after p)) ∙ fine

  both : (h : Heard) → (answer_of r time level).heard ≡ h → (o.packet ≡ h.packet) × (after ≡ h.receiver)
  both h e = (
    ap (λ (q : Outcome). q.packet) (F.outcome_is r time level o after p) ∙ ap (λ (q : Heard). q.packet) e,
    F.after_is r time level o after p ∙ ap (λ (q : Heard). q.receiver) e,
  )

  in_place_afresh : PauseAt r time → (o.packet ≡ no_packet) × (after ≡ bit_zero_at time level)
  in_place_afresh h = both (quiet (bit_zero_at time level)) (edge_afresh r time level (answer_of r time level) refl answer_fine h)

  in_place_goes_on : (PauseAt r time → ⊥) → (o.packet ≡ (bit_of (at_time r time) level).packet) × (after ≡ (bit_of (at_time r time) level).receiver)
  in_place_goes_on other = both (bit_of (at_time r time) level) (edge_goes_on r time level (answer_of r time level) refl answer_fine other)

  in_place_leaves : (after.started ≡ 1) × (after.last ≡ time) × (after.start ≤ time)
  in_place_leaves = rw (F.after_is r time level o after p) (edge_leaves r time level (answer_of r time level) refl answer_fine)

-- ---- a board's edge

afresh_effect : (b : Board) (sheets : Sheets) (e : Edge) → is_pause b.kept.receiver e.time ≡ true
    → edge_effect b sheets e ≡ silently (begun_at b e)
unfolding edge_effect heard_effect after_gap paused_of
afresh_effect b sheets e h = rw (h, Law.bit_0 e.time e.level) refl

joining_effect : (b : Board) (sheets : Sheets) (e : Edge) → is_pause b.kept.receiver e.time ≡ false → edge_effect b sheets e ≡ joining b sheets e
joining_effect b sheets e h = steady_edge b sheets e h ∙ ap (heard_effect b sheets) (Law.goes_on b.kept.receiver e.time e.level h)

-- a good edge before others: the rest goes on from what it leaves
pub whole_board : (b : Board) (sheets : Sheets) (n : ℕ) (e : Edge) (es : List Edge) → bad_edge b.kept e ≡ 0
    → (whole_of b sheets n (e ∷ es)).board ≡ (whole_of (edge_effect b sheets e).board sheets (n + 1) es).board
unfolding R.whole_of answering_if
whole_board b sheets n e es good = by (edge_effect b sheets e).acknowledged (λ a. simp (good, a)) (λ a. simp (good, a))

module _ (b : Board) (sheets : Sheets) (n : ℕ) (e : Edge) (rest : List Edge) (fine : bad_edge b.kept e ≡ 0) where
  afresh_on : is_pause b.kept.receiver e.time ≡ true → whole_of b sheets n (e ∷ rest) ≡ whole_of (begun_at b e) sheets (n + 1) rest
  unfolding R.whole_of answering_if
  afresh_on h = rw (fine, afresh_effect b sheets e h) refl

  joined_on : is_pause b.kept.receiver e.time ≡ false
      → whole_of b sheets n (e ∷ rest) ≡ story_with (joining b sheets e) (n + 1) (whole_of (joining b sheets e).board sheets (n + 1) rest)
  unfolding R.whole_of
  joined_on h = rw (fine, joining_effect b sheets e h) refl

-- ---- the clock of a recording

clock_in_turn : (first : Edge) (es : List Edge) (n : ℕ) → RightEdges 0 (first ∷ es)
    → ClockOf (since_afresh [] (first ∷ es)) (answers_to fresh_receiver n (first ∷ es)).heard.receiver
clock_in_turn first es n right = rw (On.right_edges_heard (first ∷ es) fresh_receiver n Law.fresh_possible right) (Clock.clock_kept first es n)

-- a right edge and what it leaves of the receiver
module _ (b : Board) (sheets : Sheets) (n : ℕ) (e : Edge) (es : List Edge) (right : RightEdges b.kept.receiver.last (e ∷ es)) where
  pub good : bad_edge b.kept e ≡ 0
  unfolding RightEdges
  good = On.good_edge b.kept.receiver e.time e.level (omega (arith, right.0)) right.1

  pub right_on : RightEdges (edge_effect b sheets e).board.kept.receiver.last es
  unfolding RightEdges
  right_on = rw (edge_receiver b sheets e, On.step_last b.kept.receiver e.time e.level) right.2

-- the receiver goes through a whole recording of right edges as it would alone
whole_receiver : (es : List Edge) (b : Board) (sheets : Sheets) (n : ℕ) → RightEdges b.kept.receiver.last es
    → (whole_of b sheets n es).board.kept.receiver ≡ (hearing b.kept.receiver n es).receiver
unfolding hearing R.whole_of
whole_receiver [] b sheets n right = refl
whole_receiver (e ∷ es) b sheets n right =
    let heard = step_of b.kept.receiver e.time e.level in
    ap (λ (a : Board). a.kept.receiver) (whole_board b sheets n e es (good b sheets n e es right))
    ∙ whole_receiver es (edge_effect b sheets e).board sheets (n + 1) (right_on b sheets n e es right)
    ∙ ap (λ (r : Receiver). (hearing r (n + 1) es).receiver) (edge_receiver b sheets e)
    ∙ sym (Clock.noting_receiver heard.packet (n + 1) (hearing heard.receiver (n + 1) es))

module _ (b : Board) (sheets : Sheets) (n : ℕ) (first : Edge) (es : List Edge) (fresh : b.kept.receiver ≡ fresh_receiver)
    (right : RightEdges 0 (first ∷ es)) where
  clock_of_whole : ClockOf (since_afresh [] (first ∷ es)) (whole_of b sheets n (first ∷ es)).board.kept.receiver
  clock_of_whole =
      rw (whole_receiver (first ∷ es) b sheets n (rw fresh right), fresh) (Clock.clock_kept first es n)

  -- what the next edge is, by the times
  module _ (e : Edge) (rest : List Edge) (m : ℕ) where
    abbrev at : Board
    at = (whole_of b sheets n (first ∷ es)).board

    told : is_pause at.kept.receiver e.time ≡ late (clock_start (since_afresh [] (first ∷ es))) e.time
    told = Clock.pause_told clock_of_whole e.time 0

    afresh_by_times : bad_edge at.kept e ≡ 0 → late (clock_start (since_afresh [] (first ∷ es))) e.time ≡ true
        → whole_of at sheets m (e ∷ rest) ≡ whole_of (begun_at at e) sheets (m + 1) rest
    afresh_by_times fine h = afresh_on at sheets m e rest fine (told ∙ h)

    goes_on_by_times : bad_edge at.kept e ≡ 0 → late (clock_start (since_afresh [] (first ∷ es))) e.time ≡ false
        → whole_of at sheets m (e ∷ rest) ≡ story_with (joining at sheets e) (m + 1) (whole_of (joining at sheets e).board sheets (m + 1) rest)
    goes_on_by_times fine h = joined_on at sheets m e rest fine (told ∙ h)

clock_in_pieces : (b : Board) (sheets : Sheets) → Good b sheets → b.kept.receiver ≡ fresh_receiver → (first : Edge) (es : List Edge)
    → RightEdges 0 (first ∷ es)
    → (rooms : ℕ → List ℕ) → LongRooms rooms → (pieces : List (List Edge)) → flatten pieces ≡ first ∷ es
    → (spares : Bool) (s : Story) → Feeds spares sheets rooms b pieces s
    → ClockOf (since_afresh [] (first ∷ es)) s.board.kept.receiver
clock_in_pieces b sheets good fresh first es right rooms long pieces cut spares s fed =
    rw ((demand_3 spares good rooms long _ pieces cut).same s fed) (clock_of_whole b sheets 0 first es fresh right)

-- ---- row 12

impossible_clock : (r : Receiver) → clock_possible r ≡ false → HeldWithoutStart r ⊎ StartsAfterLast r
unfolding clock_possible clock_runs
impossible_clock r =
    by (eqb r.started 0)
    (λ e. rw e (λ h. inl (
      eqb-true _ _ e,
      by (eqb r.count 0)
          (λ c. let held : r.held ≡ 0 → ⊥ = eqb-false r.held 0 (rw c at h) in inr (omega arith))
          (λ c. let counted : r.count ≡ 0 → ⊥ = eqb-false r.count 0 c in inl (omega arith)),
    )))
    (λ e. rw e (λ h. inr (eqb-false _ _ e, leb-false r.start r.last h)))

held_impossible : (r : Receiver) → HeldWithoutStart r → clock_possible r ≡ false
unfolding clock_possible clock_runs
held_impossible r h =
    let clear = eq-eqb r.started 0 h.0 in
    ⊎_elim (λ some. simp (clear, ne_eqb r.count 0 (λ z. omega arith)))
    (λ some. by (eqb r.count 0) (λ c. simp (clear, c, ne_eqb r.held 0 (λ z. omega arith))) (λ c. simp (clear, c))) h.1

late_impossible : (r : Receiver) → StartsAfterLast r → clock_possible r ≡ false
unfolding clock_possible clock_runs
late_impossible r h = simp (ne_eqb r.started 0 h.0, lt-leb r.start r.last h.1)

clock_12 : (r : Receiver) → (clock_possible r ≡ false) ↔ (HeldWithoutStart r ⊎ StartsAfterLast r)
clock_12 r = (impossible_clock r, ⊎_elim (held_impossible r) (late_impossible r))

held_12 : (r : Receiver) → HeldRight r → (receiver_possible r ≡ false) ↔ (HeldWithoutStart r ⊎ StartsAfterLast r)
unfolding receiver_possible
held_12 r h = Iff.trans (λ p. simp (h.bits_right, h.bytes_right) at p, λ p. simp (h.bits_right, h.bytes_right, p)) (clock_12 r)

record_12 : (m : Module) → HeldRight m.receiver → module_possible (with_receiver m fresh_receiver) ≡ true
    → (module_possible m ≡ false) ↔ (HeldWithoutStart m.receiver ⊎ StartsAfterLast m.receiver)
record_12 m h else-right = Iff.trans (receiver_decides m fresh_receiver else-right) (held_12 m.receiver h)

-- ---- what entries leave

-- a call's edges: the receiver as it was, or marked
abbrev MarkedOr : Receiver → Receiver → Type 0
MarkedOr before after = (after ≡ before) ⊎ (after.started ≡ 1)

call_marks : (es : List Edge) (b : Board) (sheets : Sheets) (n : ℕ) → MarkedOr b.kept.receiver (call_of (edge_rule sheets) b n es).board.kept.receiver
unfolding call_of
call_marks [] b sheets n = inl refl
call_marks (e ∷ es) b sheets n =
    let next = (edge_effect b sheets e).board in
    let one : next.kept.receiver.started ≡ 1 = ap (λ (r : Receiver). r.started) (edge_receiver b sheets e) ∙ On.step_marked b.kept.receiver e.time e.level in
    by (eqb (bad_edge b.kept e) 0)
    (λ g. by (edge_effect b sheets e).acknowledged (λ a. simp (g, a) (inr one))
    (λ a. simp (g, a) (inr (⊎_elim (λ same. ap (λ (r : Receiver). r.started) same ∙ one) (λ marked. marked) (call_marks es next sheets (n + 1))))))
    (λ g. simp g (inl refl))

told_board : (room : List ℕ) (b : Board) (n : ℕ) (stop : R.CallEnd (List ℕ)) → (tells_at room b n stop).board ≡ b
unfolding tells_at
told_board room b n R.at_end = refl
told_board room b n (R.at_bad number) = refl
told_board room b n (R.at_answer reply) = refl
told_board room b n (R.at_once number) = refl

feed_leaves : (b : Board) (sheets : Sheets) (room times levels : List ℕ) (o : FeedOutcome) → FeedPromise b sheets room times levels o
    → MarkedOr b.kept.receiver o.board.kept.receiver
unfolding FeedPromise feed_by run_of
feed_leaves b sheets room times levels o p =
    let es = edges_of times levels in
    let c = call_of (edge_rule sheets) b 0 es in
    rw p
    (by (eqb (board_refusal b sheets room) 0)
    (λ z. by (eqb (length times) (length levels))
    (λ l. simp (z, l, told_board room c.board c.taken c.stop) (call_marks es b sheets 0)) (λ l. simp (z, l) (inl refl)))
    (λ z. simp z (inl refl)))

restart_leaves : (m : Module) (states : List ℕ) (r : Restart) → RestartPromise m states r → r.given.refusal ≡ 0 → r.given.kept.receiver ≡ fresh_receiver
unfolding restarted_of
restart_leaves m states r p h = ap (λ (k : Module). k.receiver) (One.restart_taken m states r p h)

-- bytes without times: the clock starts at the time that the last edge has
abbrev Marked : ℕ → Receiver → Type 0
Marked t r = (r.started ≡ 1) × (r.start ≡ t) × (r.last ≡ t)

byte_marked : (b : Board) (sheets : Sheets) (x : ℕ) → Marked b.kept.receiver.last (byte_effect b sheets x).board.kept.receiver
byte_marked b sheets x =
    let r = b.kept.receiver in
    rw (heard_receiver b sheets (heard_of b x), (On.byte_held r x).3) (refl, refl, refl)

pub lined_board : (p : Packet) (e : Effect) (t : Taken) → (lined p e t).board ≡ t.board
unfolding lined
lined_board p e t = by (eqb p.length 0) (λ z. rw z) (λ z. rw z)

taken_marked : (xs : List ℕ) (b : Board) (sheets : Sheets) (room : List ℕ) (t : ℕ) → Marked t b.kept.receiver
    → Marked t (taken_of b sheets room xs).board.kept.receiver
unfolding taken_of
taken_marked [] b sheets room t h = h
taken_marked (x ∷ xs) b sheets room t h =
    let e = byte_effect b sheets x in
    let m = byte_marked b sheets x in
    rw (lined_board (heard_of b x).packet e (taken_of e.board sheets (at_front e.reply room) xs))
    (taken_marked xs e.board sheets (at_front e.reply room) t (m.0, m.1 ∙ h.2, m.2 ∙ h.2))

some_marked : (x : ℕ) (xs : List ℕ) (b : Board) (sheets : Sheets) (room : List ℕ) → Marked b.kept.receiver.last (taken_of b sheets room (x ∷ xs)).board.kept.receiver
unfolding taken_of
some_marked x xs b sheets room =
    let e = byte_effect b sheets x in
    rw (lined_board (heard_of b x).packet e (taken_of e.board sheets (at_front e.reply room) xs))
    (taken_marked xs e.board sheets (at_front e.reply room) b.kept.receiver.last (byte_marked b sheets x))

write_leaves : (b : Board) (sheets : Sheets) (room out : List ℕ) (byte : ℕ) (bytes : List ℕ) (l : AfterBlock) (k : ℕ)
    → WritePromise b sheets room out (byte ∷ bytes) l → l.given.answer ≡ Text k → Marked b.kept.receiver.last l.given.kept.receiver
write_leaves b sheets room out byte bytes l k p told =
    rw (text_given_lem b sheets room out (byte ∷ bytes) l k p told).1 (some_marked byte bytes b sheets room)

-- C-03 HOLDS
pub pause_measured : C03
pause_measured =
    record {
      pause_exactly = Law.pause_exactly;
      edge_afresh = λ r time level a p fine h. edge_afresh r time level a p fine h;
      edge_goes_on = λ r time level a p fine h. edge_goes_on r time level a p fine h;
      in_place_afresh = λ r time level o after p fine h. in_place_afresh r time level o after p fine h;
      in_place_goes_on = λ r time level o after p fine other. in_place_goes_on r time level o after p fine other;
      whole_afresh = λ b sheets n e rest fine h. afresh_on b sheets n e rest fine ((Law.pause_exactly b.kept.receiver e.time).1 h);
      whole_goes_on = λ b sheets n e rest fine other. joined_on b sheets n e rest fine (no_pause b.kept.receiver e.time other);
      clock_in_turn = clock_in_turn;
      clock_of_whole = λ b sheets n first es fresh right. clock_of_whole b sheets n first es fresh right;
      clock_in_pieces = clock_in_pieces;
      afresh_by_times = λ b sheets n first es fresh right e rest m fine h. afresh_by_times b sheets n first es fresh right e rest m fine h;
      goes_on_by_times = λ b sheets n first es fresh right e rest m fine h. goes_on_by_times b sheets n first es fresh right e rest m fine h;
      edge_12 = λ r time level a p h. Iff.trans (One.edge_gives_12 r time level a p) (held_12 r h);
      in_place_12 = λ r time level o after p h. Iff.trans (F.in_place_gives_12 r time level o after p) (held_12 r h);
      record_12 = record_12;
      feed_12 = λ b sheets room times levels o p h else-right. Iff.trans (One.feed_gives_12 b sheets room times levels o p) (record_12 b.kept h else-right);
      edge_leaves = λ r time level a p fine. edge_leaves r time level a p fine;
      in_place_leaves = λ r time level o after p fine. in_place_leaves r time level o after p fine;
      feed_leaves = feed_leaves;
      restart_leaves = restart_leaves;
      write_leaves = write_leaves;
    }
