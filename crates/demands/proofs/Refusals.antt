-- The rows of the table and the promises of the module's entries are the same thing: what proofs/Demand1.antt says, entry by entry.
use Prim.Native.Nat.{ℕ, suc, ◌+◌, ◌*◌, ◌≤◌}
use mathlib.Core.List.{List, [], ◌∷◌, ◌++◌, append-nil}
use mathlib.Core.Bool.{Bool, true, false}
use mathlib.Core.Path.{◌≡◌, refl, sym, ◌∙◌, ap, subst}
use mathlib.Core.Logic.{◌↔◌, inl, inr}
use native.Mathlib.Omega.{arith}
use native.Mathlib.Nat.{add-zero, zero-add}
use lib.Dec.{eqb, leb}
use lib.ListN.{length}
use borrow.Author.Tests.{eqb-true, eqb-false, eq-eqb, ne_eqb, leb-true, leb-false, le-leb, lt-leb}
use Rattle.bits.proofs.Tests.{by}
use Rattle.running.specs.Running.{call_of}
use Rattle.line.specs.Wire.{Edge, edges_of}
use Rattle.states.specs.States.{length_holds}
use Rattle.store.specs.Sheet.{Sheets, sheets_hold}
use Rattle.bank.specs.Reply.{at_front}
use Rattle.bidi.specs.Bidi.{Changed, with_status}
use Rattle.bidi.specs.Messages.{message_legal, status_legal}
use Rattle.bidi.proofs.Refusals as B
use Rattle.board.specs.declared.record.Module.{Module}
use Rattle.board.specs.Board.{Board, module_possible, buffers_hold, first_broken, board_refusal}
use Rattle.module.specs.Application.{Kept}
use Rattle.module.specs.Feed.{Refused, BadEdge, Silent, Acknowledged}
use Rattle.module.specs.Application.{changed, Restart, restart_of, post_of, status_of, wait_of, RestartPromise, PostPromise, StatusPromise, WaitPromise}
use Rattle.module.specs.Edge.{bad_edge, edge_effect}
use Rattle.module.specs.Feed.{FeedOutcome, ending, tells_at, run_of, feed_by, feed_of, FeedPromise, paper_of}
use Rattle.line.proofs.Edges.{bad_level, bad_time, refusal_cases}
use Rattle.demands.specs.Rows.{row_12, row_4, row_5, Among, FirstBad, Quietly, quiet_end, quiet_edge, First, Accepted, FeedRow, feed_board, feed_1, feed_2, feed_3, feed_stopped, feed_through, RestartRow, restart_12, restart_4, restart_done, PostRow, post_12, post_6, post_7, post_done, StatusRow, status_12, status_11, status_done, WaitRow, wait_12, wait_done, WriteRow, write_board, write_held, write_short, write_done}
use Rattle.lines.specs.Taken.{AfterBlock, write_of, WritePromise}

-- ---- A call's edges.

-- one more edge before
first_after : (sheets : Sheets) (b : Board) (x : Edge) (es : List Edge) (e : Edge) (at : Board) (count : ℕ) → bad_edge b.kept x ≡ 0 → (edge_effect b sheets x).acknowledged ≡ false
    → First sheets (edge_effect b sheets x).board es e at count → First sheets b (x ∷ es) e at (count + 1)
first_after sheets b x es e at count g q f =
    record {
      before = x ∷ f.before;
      after = f.after;
      split = ap (λ (l : List Edge). x ∷ l) f.split;
      quiet = quiet_edge b x f.before at g q f.quiet;
      counted = let c = f.counted in omega arith;
    }

first_here : (sheets : Sheets) (b : Board) (e : Edge) (es : List Edge) → First sheets b (e ∷ es) e b 0
first_here sheets b e es = record { before = []; after = es; split = refl; quiet = quiet_end b; counted = refl }

-- to the end, to an answer, or to a bad edge
module _ (sheets : Sheets) (room : List ℕ) where
  pub run_cases : (es : List Edge) (b : Board) (n : ℕ) (P : FeedOutcome → Type 0)
      → ((at : Board) → Quietly sheets b es at → P (ending at room (Silent (n + length es))))
      → ((e : Edge) (at : Board) (count : ℕ) → First sheets b es e at count → bad_edge at.kept e ≡ 0 → (edge_effect at sheets e).acknowledged ≡ true
      → P (ending (edge_effect at sheets e).board (at_front (edge_effect at sheets e).reply room) (Acknowledged (n + (count + 1)) (length (edge_effect at sheets e).reply))))
      → ((e : Edge) (at : Board) (count : ℕ) → First sheets b es e at count → (bad_edge at.kept e ≡ 0 → ⊥)
      → P (ending at room (BadEdge (bad_edge at.kept e) (n + count))))
      → P (run_of b sheets room n es)
  unfolding run_of call_of tells_at
  run_cases [] b n P through stopped bad = let z : n + 0 ≡ n = add-zero n in rw z at (through b (quiet_end b))
  run_cases (e ∷ es) b n P through stopped bad =
      by (eqb (bad_edge b.kept e) 0)
      (λ g. let good = eqb-true _ _ g in
      by (edge_effect b sheets e).acknowledged (λ a. simp (g, a) (stopped e b 0 (first_here sheets b e es) good a))
      (λ a. simp (g, a)
      (run_cases es (edge_effect b sheets e).board (n + 1) P
      (λ at q. let c : n + suc (length es) ≡ n + 1 + length es = omega arith in rw c at (through at (quiet_edge b e es at good a q)))
      (λ x at count f h k.
      let c : n + (count + 1 + 1) ≡ n + 1 + (count + 1) = omega arith in
      rw c at (stopped x at (count + 1) (first_after sheets b e es x at count good a f) h k))
      (λ x at count f h.
      let c : n + (count + 1) ≡ n + 1 + count = omega arith in
      rw c at (bad x at (count + 1) (first_after sheets b e es x at count good a f) h)))))
      (λ g. let z : n + 0 ≡ n = add-zero n in simp g (rw z at (bad e b 0 (first_here sheets b e es) (eqb-false _ _ g))))

  -- quiet edges go by, and the run goes on at the board after them
  quiet_run : (es rest : List Edge) (b at : Board) (n : ℕ) → Quietly sheets b es at → run_of b sheets room n (es ++ rest) ≡ run_of at sheets room (n + length es) rest
  unfolding run_of call_of tells_at
  quiet_run es rest b at n (quiet_end c) = let z : n + 0 ≡ n = add-zero n in rw z
  quiet_run es rest b at n (quiet_edge c e more d g a q) =
      let c' : n + 1 + length more ≡ n + suc (length more) = omega arith in
      simp (g, a) (quiet_run more rest (edge_effect c sheets e).board d (n + 1) q ∙ rw c')

  first_run : (es : List Edge) (b : Board) (e : Edge) (at : Board) (count : ℕ) (f : First sheets b es e at count) → run_of b sheets room 0 es ≡ run_of at sheets room count (e ∷ f.after)
  first_run es b e at count f =
      ap (run_of b sheets room 0) f.split ∙ quiet_run f.before (e ∷ f.after) b at 0 f.quiet
      ∙ ap (λ (k : ℕ). run_of at sheets room k (e ∷ f.after)) (zero-add (length f.before) ∙ sym f.counted)

  stopped_run : (es : List Edge) (b : Board) (e : Edge) (at : Board) (count : ℕ) → First sheets b es e at count → bad_edge at.kept e ≡ 0 → (edge_effect at sheets e).acknowledged ≡ true
      → run_of b sheets room 0 es ≡ ending (edge_effect at sheets e).board (at_front (edge_effect at sheets e).reply room) (Acknowledged (count + 1) (length (edge_effect at sheets e).reply))
  unfolding run_of call_of tells_at
  stopped_run es b e at count f g a = first_run es b e at count f ∙ simp (g, a)

  bad_run : (es : List Edge) (b : Board) (e : Edge) (at : Board) (count number : ℕ) → First sheets b es e at count → bad_edge at.kept e ≡ number → (number ≡ 0 → ⊥)
      → run_of b sheets room 0 es ≡ ending at room (BadEdge number count)
  unfolding run_of call_of tells_at
  bad_run es b e at count number f g z = first_run es b e at count f ∙ simp (g, ne_eqb number 0 z)

  through_run : (es : List Edge) (b at : Board) → Quietly sheets b es at → run_of b sheets room 0 es ≡ ending at room (Silent (length es))
  unfolding run_of call_of tells_at
  through_run es b at q = ap (run_of b sheets room 0) (sym (append-nil es)) ∙ quiet_run es [] b at 0 q ∙ ap (λ (k : ℕ). ending at room (Silent k)) (zero-add (length es))

-- ---- The feed.

module _ (b : Board) (sheets : Sheets) (room times levels : List ℕ) where
  -- a call that passes the four first rows is its edges' run
  accepted_feed : Accepted b sheets room times levels → feed_of b sheets room times levels ≡ run_of b sheets room 0 (edges_of times levels)
  unfolding feed_by
  accepted_feed a = simp (eq-eqb _ _ a.passes, eq-eqb _ _ a.lengths)

  rows_given : FeedRow b sheets room times levels (paper_of (feed_of b sheets room times levels).answer).number (feed_of b sheets room times levels)
  unfolding feed_by board_refusal first_broken
  rows_given =
      by (module_possible b.kept)
      (λ p. by (buffers_hold b.states b.store sheets room)
      (λ u. by (sheets_hold sheets)
      (λ s. by (eqb (length times) (length levels))
      (λ l. let a : Accepted b sheets room times levels = record { passes = simp (p, u, s); lengths = eqb-true _ _ l } in
      simp (p, u, s, l)
      (run_cases sheets room (edges_of times levels) b 0 (λ (o : FeedOutcome). FeedRow b sheets room times levels (paper_of o.answer).number o)
      (λ at q. rw (zero-add (length (edges_of times levels))) (feed_through a at q)) (λ e at count f g k. rw (zero-add (count + 1)) (feed_stopped a e at count f g k))
      (λ e at count f n. rw (zero-add count) (refusal_cases at.kept.receiver e.time e.level (λ (k : ℕ). (k ≡ 0 → ⊥) → FeedRow b sheets room times levels k (ending at room (BadEdge k count)))
      (λ h z. feed_2 a e at count f h) (λ h t z. feed_3 a e at count f h t) (λ h t z. absurd (z refl)) n))))
      (λ l. simp (p, u, s, l) (feed_1 p u s (eqb-false _ _ l))))
      (λ s. simp (p, u, s) (feed_board 5 (row_5 p u s))))
      (λ u. simp (p, u) (feed_board 4 (row_4 p u))))
      (λ p. simp p (feed_board 12 (row_12 p)))

  given_rows : (k : ℕ) (o : FeedOutcome) → FeedRow b sheets room times levels k o → (o ≡ feed_of b sheets room times levels) × ((paper_of o.answer).number ≡ k)
  unfolding feed_by board_refusal first_broken
  given_rows k o (feed_board n (row_12 p)) = (sym (simp p), refl)
  given_rows k o (feed_board n (row_4 p u)) = (sym (simp (p, u)), refl)
  given_rows k o (feed_board n (row_5 p u s)) = (sym (simp (p, u, s)), refl)
  given_rows k o (feed_1 p u s l) = (sym (simp (p, u, s, ne_eqb _ _ l)), refl)
  given_rows k o (feed_2 a e at count f h) =
      (sym (accepted_feed a ∙ bad_run sheets room (edges_of times levels) b e at count 2 f (bad_level at.kept.receiver e.time e.level h) (λ z. omega arith)), refl)
  given_rows k o (feed_3 a e at count f h t) =
      (sym (accepted_feed a ∙ bad_run sheets room (edges_of times levels) b e at count 3 f (bad_time at.kept.receiver e.time e.level h t) (λ z. omega arith)), refl)
  given_rows k o (feed_stopped a e at count f g q) = (sym (accepted_feed a ∙ stopped_run sheets room (edges_of times levels) b e at count f g q), refl)
  given_rows k o (feed_through a at q) = (sym (accepted_feed a ∙ through_run sheets room (edges_of times levels) b at q), refl)

  -- an outcome keeps the promise and has the number exactly if that number's row says so
  pub feed_rows : (k : ℕ) (o : FeedOutcome) → ((FeedPromise b sheets room times levels o) × ((paper_of o.answer).number ≡ k)) ↔ FeedRow b sheets room times levels k o
  unfolding FeedPromise
  feed_rows k o = (
    λ h. let r : FeedRow b sheets room times levels (paper_of o.answer).number o = rw h.0 rows_given in
        subst (λ (x : ℕ). FeedRow b sheets room times levels x o) h.1 r,
    given_rows k o,
  )

-- ---- Restart, post, status, WAIT.

-- from "the promised outcome has a row" and "a row's outcome is the promised one", both directions
pub both_ways : {A : Type 0} (promised : A) (number : A → ℕ) (Row : ℕ → A → Type 0) → Row (number promised) promised
    → ((k : ℕ) (a : A) → Row k a → (a ≡ promised) × (number a ≡ k)) → (k : ℕ) (a : A) → ((a ≡ promised) × (number a ≡ k)) ↔ Row k a
both_ways promised number Row given back k a = (
  λ h. subst (λ (x : ℕ). Row x a) h.1 (rw h.0 given),
  back k a,
)

module _ (m : Module) (states : List ℕ) where
  restart_given : RestartRow m states (restart_of m states).given.refusal (restart_of m states)
  unfolding restart_of
  restart_given =
      by (module_possible m)
      (λ p. by (length_holds states) (λ l. simp (p, l) (restart_done p (eqb-true _ _ l))) (λ l. simp (p, l) (restart_4 p (eqb-false _ _ l))))
      (λ p. simp p (restart_12 p))

  restart_back : (k : ℕ) (r : Restart) → RestartRow m states k r → (r ≡ restart_of m states) × (r.given.refusal ≡ k)
  unfolding restart_of
  restart_back k r (restart_12 p) = (sym (simp p), refl)
  restart_back k r (restart_4 p l) = (sym (simp (p, ne_eqb _ _ l)), refl)
  restart_back k r (restart_done p l) = (sym (simp (p, eq-eqb _ _ l)), refl)

  pub restart_rows : (k : ℕ) (r : Restart) → (RestartPromise m states r × (r.given.refusal ≡ k)) ↔ RestartRow m states k r
  unfolding RestartPromise
  restart_rows = both_ways (restart_of m states) (λ r. r.given.refusal) (RestartRow m states) restart_given restart_back

module _ (b : Board) (sheets : Sheets) (room out input : List ℕ) where
  write_given : WriteRow b sheets room out input (write_of b sheets room out input)
  unfolding write_of board_refusal first_broken
  write_given =
      by (module_possible b.kept)
      (λ p. by (buffers_hold b.states b.store sheets room)
      (λ h. by (sheets_hold sheets)
      (λ s. by (eqb b.kept.receiver.count 0)
      (λ n. by (leb (128 * (length input + 2)) (length out)) (λ l. simp (p, h, s, n, l) (write_done (simp (p, h, s)) (eqb-true _ _ n) (leb-true _ _ l)))
      (λ l. simp (p, h, s, n, l) (write_short (simp (p, h, s)) (eqb-true _ _ n) (leb-false _ _ l))))
      (λ n. simp (p, h, s, n) (write_held (simp (p, h, s)) (eqb-false _ _ n))))
      (λ s. simp (p, h, s) (write_board 5 (row_5 p h s))))
      (λ h. simp (p, h) (write_board 4 (row_4 p h))))
      (λ p. simp p (write_board 12 (row_12 p)))

  write_back : (l : AfterBlock) → WriteRow b sheets room out input l → l ≡ write_of b sheets room out input
  unfolding write_of board_refusal first_broken
  write_back l (write_board n (row_12 p)) = sym (simp p)
  write_back l (write_board n (row_4 p h)) = sym (simp (p, h))
  write_back l (write_board n (row_5 p h s)) = sym (simp (p, h, s))
  write_back l (write_held none n) = sym (simp (eq-eqb _ _ none, ne_eqb _ _ n))
  write_back l (write_short none n s) = sym (simp (eq-eqb _ _ none, eq-eqb _ _ n, lt-leb _ _ s))
  write_back l (write_done none n s) = sym (simp (eq-eqb _ _ none, eq-eqb _ _ n, le-leb _ _ s))

  pub write_rows_lem : (l : AfterBlock) → WritePromise b sheets room out input l ↔ WriteRow b sheets room out input l
  unfolding WritePromise
  write_rows_lem l = (λ p. rw p write_given, write_back l)

module _ (m : Module) (message : List ℕ) where
  post_given : PostRow m message (post_of m message).refusal (post_of m message)
  unfolding post_of
  post_given =
      by (module_possible m)
      (λ p. simp p (B.post_cases m.bidi message (λ (c : Changed). PostRow m message c.refusal (changed m c)) (λ l. post_6 p l) (λ l f. post_7 p l f) (λ l f. post_done p l f)))
      (λ p. simp p (post_12 p))

  post_back : (k : ℕ) (a : Kept) → PostRow m message k a → (a ≡ post_of m message) × (a.refusal ≡ k)
  unfolding post_of
  post_back k a (post_12 p) = (sym (simp p), refl)
  post_back k a (post_6 p l) = (sym (simp (p, B.post_illegal m.bidi message l)), refl)
  post_back k a (post_7 p l f) = (sym (simp (p, B.post_full m.bidi message l f)), refl)
  post_back k a (post_done p l f) = (sym (simp (p, B.post_taken m.bidi message l f)), refl)

  pub post_rows : (k : ℕ) (a : Kept) → (PostPromise m message a × (a.refusal ≡ k)) ↔ PostRow m message k a
  unfolding PostPromise
  post_rows = both_ways (post_of m message) (λ a. a.refusal) (PostRow m message) post_given post_back

module _ (m : Module) (number value : ℕ) where
  -- a legal status is taken
  taken : status_legal number value ≡ true → (with_status m.bidi number value).refusal ≡ 0
  unfolding with_status
  taken l = rw l

  status_given : StatusRow m number value (status_of m number value).refusal (status_of m number value)
  unfolding status_of
  status_given =
      by (module_possible m)
      (λ p. by (status_legal number value) (λ l. simp (p, taken l) (status_done p l)) (λ l. simp (p, B.status_refused m.bidi number value l) (status_11 p l)))
      (λ p. simp p (status_12 p))

  status_back : (k : ℕ) (a : Kept) → StatusRow m number value k a → (a ≡ status_of m number value) × (a.refusal ≡ k)
  unfolding status_of
  status_back k a (status_12 p) = (sym (simp p), refl)
  status_back k a (status_11 p l) = (sym (simp (p, B.status_refused m.bidi number value l)), refl)
  status_back k a (status_done p l) = (sym (simp (p, taken l)), refl)

  pub status_rows : (k : ℕ) (a : Kept) → (StatusPromise m number value a × (a.refusal ≡ k)) ↔ StatusRow m number value k a
  unfolding StatusPromise
  status_rows = both_ways (status_of m number value) (λ a. a.refusal) (StatusRow m number value) status_given status_back

module _ (m : Module) (on : Bool) where
  wait_given : WaitRow m on (wait_of m on).refusal (wait_of m on)
  unfolding wait_of
  wait_given = by (module_possible m) (λ p. simp p (wait_done p)) (λ p. simp p (wait_12 p))

  wait_back : (k : ℕ) (a : Kept) → WaitRow m on k a → (a ≡ wait_of m on) × (a.refusal ≡ k)
  unfolding wait_of
  wait_back k a (wait_12 p) = (sym (simp p), refl)
  wait_back k a (wait_done p) = (sym (simp p), refl)

  pub wait_rows : (k : ℕ) (a : Kept) → (WaitPromise m on a × (a.refusal ≡ k)) ↔ WaitRow m on k a
  unfolding WaitPromise
  wait_rows = both_ways (wait_of m on) (λ a. a.refusal) (WaitRow m on) wait_given wait_back

-- ---- The feed's rows, number by number: what an outcome with that number says.

module _ (b : Board) (sheets : Sheets) (room times levels : List ℕ) where
  pub feed_twelve : (k : ℕ) (o : FeedOutcome) → FeedRow b sheets room times levels k o → k ≡ 12 → module_possible b.kept ≡ false
  feed_twelve k o (feed_board n (row_12 p)) is = p
  feed_twelve k o (feed_board n (row_4 p u)) is = absurd (omega arith)
  feed_twelve k o (feed_board n (row_5 p u s)) is = absurd (omega arith)
  feed_twelve k o (feed_1 p u s l) is = absurd (omega arith)
  feed_twelve k o (feed_2 a e at count f h) is = absurd (omega arith)
  feed_twelve k o (feed_3 a e at count f h t) is = absurd (omega arith)
  feed_twelve k o (feed_stopped a e at count f g q) is = absurd (omega arith)
  feed_twelve k o (feed_through a at q) is = absurd (omega arith)

  pub feed_four : (k : ℕ) (o : FeedOutcome) → FeedRow b sheets room times levels k o → k ≡ 4 → (module_possible b.kept ≡ true) × (buffers_hold b.states b.store sheets room ≡ false)
  feed_four k o (feed_board n (row_12 p)) is = absurd (omega arith)
  feed_four k o (feed_board n (row_4 p u)) is = (p, u)
  feed_four k o (feed_board n (row_5 p u s)) is = absurd (omega arith)
  feed_four k o (feed_1 p u s l) is = absurd (omega arith)
  feed_four k o (feed_2 a e at count f h) is = absurd (omega arith)
  feed_four k o (feed_3 a e at count f h t) is = absurd (omega arith)
  feed_four k o (feed_stopped a e at count f g q) is = absurd (omega arith)
  feed_four k o (feed_through a at q) is = absurd (omega arith)

  pub feed_five : (k : ℕ) (o : FeedOutcome) → FeedRow b sheets room times levels k o → k ≡ 5 → (module_possible b.kept ≡ true) × (buffers_hold b.states b.store sheets room ≡ true) × (sheets_hold sheets ≡ false)
  feed_five k o (feed_board n (row_12 p)) is = absurd (omega arith)
  feed_five k o (feed_board n (row_4 p u)) is = absurd (omega arith)
  feed_five k o (feed_board n (row_5 p u s)) is = (p, u, s)
  feed_five k o (feed_1 p u s l) is = absurd (omega arith)
  feed_five k o (feed_2 a e at count f h) is = absurd (omega arith)
  feed_five k o (feed_3 a e at count f h t) is = absurd (omega arith)
  feed_five k o (feed_stopped a e at count f g q) is = absurd (omega arith)
  feed_five k o (feed_through a at q) is = absurd (omega arith)

  pub feed_one : (k : ℕ) (o : FeedOutcome) → FeedRow b sheets room times levels k o → k ≡ 1 → (module_possible b.kept ≡ true) × (buffers_hold b.states b.store sheets room ≡ true) × (sheets_hold sheets ≡ true) × (length times ≡ length levels → ⊥)
  feed_one k o (feed_board n (row_12 p)) is = absurd (omega arith)
  feed_one k o (feed_board n (row_4 p u)) is = absurd (omega arith)
  feed_one k o (feed_board n (row_5 p u s)) is = absurd (omega arith)
  feed_one k o (feed_1 p u s l) is = (p, u, s, l)
  feed_one k o (feed_2 a e at count f h) is = absurd (omega arith)
  feed_one k o (feed_3 a e at count f h t) is = absurd (omega arith)
  feed_one k o (feed_stopped a e at count f g q) is = absurd (omega arith)
  feed_one k o (feed_through a at q) is = absurd (omega arith)

  pub feed_two : (k : ℕ) (o : FeedOutcome) → FeedRow b sheets room times levels k o → k ≡ 2 → Accepted b sheets room times levels × ((at : Board) × (count : ℕ) × FirstBad sheets b (edges_of times levels) 2 at count × (o ≡ ending at room (BadEdge 2 count)))
  feed_two k o (feed_board n (row_12 p)) is = absurd (omega arith)
  feed_two k o (feed_board n (row_4 p u)) is = absurd (omega arith)
  feed_two k o (feed_board n (row_5 p u s)) is = absurd (omega arith)
  feed_two k o (feed_1 p u s l) is = absurd (omega arith)
  feed_two k o (feed_2 a e at count f h) is = (a, (at, count, record { edge = e; first = f; bad = bad_level at.kept.receiver e.time e.level h }, refl))
  feed_two k o (feed_3 a e at count f h t) is = absurd (omega arith)
  feed_two k o (feed_stopped a e at count f g q) is = absurd (omega arith)
  feed_two k o (feed_through a at q) is = absurd (omega arith)

  pub feed_three : (k : ℕ) (o : FeedOutcome) → FeedRow b sheets room times levels k o → k ≡ 3 → Accepted b sheets room times levels × ((at : Board) × (count : ℕ) × FirstBad sheets b (edges_of times levels) 3 at count × (o ≡ ending at room (BadEdge 3 count)))
  feed_three k o (feed_board n (row_12 p)) is = absurd (omega arith)
  feed_three k o (feed_board n (row_4 p u)) is = absurd (omega arith)
  feed_three k o (feed_board n (row_5 p u s)) is = absurd (omega arith)
  feed_three k o (feed_1 p u s l) is = absurd (omega arith)
  feed_three k o (feed_2 a e at count f h) is = absurd (omega arith)
  feed_three k o (feed_3 a e at count f h t) is = (a, (at, count, record { edge = e; first = f; bad = bad_time at.kept.receiver e.time e.level h t }, refl))
  feed_three k o (feed_stopped a e at count f g q) is = absurd (omega arith)
  feed_three k o (feed_through a at q) is = absurd (omega arith)

  pub feed_among : (k : ℕ) (o : FeedOutcome) → FeedRow b sheets room times levels k o → Among k (0 ∷ 12 ∷ 4 ∷ 5 ∷ 1 ∷ 2 ∷ 3 ∷ [])
  feed_among k o (feed_board n (row_12 p)) = inr (inl refl)
  feed_among k o (feed_board n (row_4 p u)) = inr (inr (inl refl))
  feed_among k o (feed_board n (row_5 p u s)) = inr (inr (inr (inl refl)))
  feed_among k o (feed_1 p u s l) = inr (inr (inr (inr (inl refl))))
  feed_among k o (feed_2 a e at count f h) = inr (inr (inr (inr (inr (inl refl)))))
  feed_among k o (feed_3 a e at count f h t) = inr (inr (inr (inr (inr (inr (inl refl))))))
  feed_among k o (feed_stopped a e at count f g q) = inl refl
  feed_among k o (feed_through a at q) = inl refl

  -- a bad edge's number, and its row
  pub bad_row : (number : ℕ) (at : Board) (count : ℕ) → Accepted b sheets room times levels → FirstBad sheets b (edges_of times levels) number at count → (number ≡ 0 → ⊥)
      → FeedRow b sheets room times levels number (ending at room (BadEdge number count))
  bad_row number at count a f n =
      refusal_cases at.kept.receiver f.edge.time f.edge.level (λ (k : ℕ). k ≡ number → FeedRow b sheets room times levels number (ending at room (BadEdge number count)))
      (λ h e. subst (λ (x : ℕ). FeedRow b sheets room times levels x (ending at room (BadEdge x count))) e (feed_2 a f.edge at count f.first h))
      (λ h t e. subst (λ (x : ℕ). FeedRow b sheets room times levels x (ending at room (BadEdge x count))) e (feed_3 a f.edge at count f.first h t))
      (λ h t e. absurd (n (sym e))) f.bad

  module _ (o : FeedOutcome) (p : FeedPromise b sheets room times levels o) where
    pub row_of : (k : ℕ) → (paper_of o.answer).number ≡ k → FeedRow b sheets room times levels k o
    row_of k g = (feed_rows b sheets room times levels k o).0 (p, g)

    -- the promised outcome is the one of a row that holds
    pub number_of : (k : ℕ) (q : FeedOutcome) → FeedRow b sheets room times levels k q → (paper_of o.answer).number ≡ k
    unfolding FeedPromise
    number_of k q r =
        let h = (feed_rows b sheets room times levels k q).1 r in
        let same : o ≡ q = p ∙ sym h.0 in
        ap (λ (x : FeedOutcome). (paper_of x.answer).number) same ∙ h.1

  pub refused_row : (k n : ℕ) (q : FeedOutcome) → FeedRow b sheets room times levels k q → q.answer ≡ Refused n → q ≡ ending b room (Refused n)
  refused_row k n q (feed_board r (row_12 x)) is = ap (ending b room) is
  refused_row k n q (feed_board r (row_4 x u)) is = ap (ending b room) is
  refused_row k n q (feed_board r (row_5 x u s)) is = ap (ending b room) is
  refused_row k n q (feed_1 x u s l) is = ap (ending b room) is
  refused_row k n q (feed_2 a e at count f h) is = let z : ◌≡◌ {A = ℕ} 0 1 = cc in let y : ⊥ = omega arith in absurd y
  refused_row k n q (feed_3 a e at count f h t) is = let z : ◌≡◌ {A = ℕ} 0 1 = cc in let y : ⊥ = omega arith in absurd y
  refused_row k n q (feed_stopped a e at count f g h) is = let z : ◌≡◌ {A = ℕ} 0 1 = cc in let y : ⊥ = omega arith in absurd y
  refused_row k n q (feed_through a at h) is = let z : ◌≡◌ {A = ℕ} 0 1 = cc in let y : ⊥ = omega arith in absurd y

-- ---- Restart, number by number.

module _ (m : Module) (states : List ℕ) where
  pub restart_twelve : (k : ℕ) (o : Restart) → RestartRow m states k o → k ≡ 12 → module_possible m ≡ false
  restart_twelve k o (restart_12 p) is = p
  restart_twelve k o (restart_4 p l) is = absurd (omega arith)
  restart_twelve k o (restart_done p l) is = absurd (omega arith)

  pub restart_four : (k : ℕ) (o : Restart) → RestartRow m states k o → k ≡ 4 → (module_possible m ≡ true) × (length states ≡ 4096 → ⊥)
  restart_four k o (restart_12 p) is = absurd (omega arith)
  restart_four k o (restart_4 p l) is = (p, l)
  restart_four k o (restart_done p l) is = absurd (omega arith)

  pub restart_among : (k : ℕ) (o : Restart) → RestartRow m states k o → Among k (0 ∷ 12 ∷ 4 ∷ [])
  restart_among k o (restart_12 p) = inr (inl refl)
  restart_among k o (restart_4 p l) = inr (inr (inl refl))
  restart_among k o (restart_done p l) = inl refl

  pub restart_left : (k : ℕ) (o : Restart) → RestartRow m states k o → (k ≡ 0 → ⊥) → (o.given.kept ≡ m) × (o.states ≡ states)
  restart_left k o (restart_12 p) not-0 = (refl, refl)
  restart_left k o (restart_4 p l) not-0 = (refl, refl)
  restart_left k o (restart_done p l) not-0 = absurd (not-0 refl)

  module _ (o : Restart) (p : RestartPromise m states o) where
    pub row_of_restart : (k : ℕ) → o.given.refusal ≡ k → RestartRow m states k o
    row_of_restart k g = (restart_rows m states k o).0 (p, g)

    pub number_of_restart : (k : ℕ) (q : Restart) → RestartRow m states k q → o.given.refusal ≡ k
    unfolding RestartPromise
    number_of_restart k q r =
        let h = (restart_rows m states k q).1 r in
        let same : o ≡ q = p ∙ sym h.0 in
        ap (λ (x : Restart). x.given.refusal) same ∙ h.1

-- ---- Post, number by number.

module _ (m : Module) (message : List ℕ) where
  pub post_twelve : (k : ℕ) (o : Kept) → PostRow m message k o → k ≡ 12 → module_possible m ≡ false
  post_twelve k o (post_12 p) is = p
  post_twelve k o (post_6 p l) is = absurd (omega arith)
  post_twelve k o (post_7 p l f) is = absurd (omega arith)
  post_twelve k o (post_done p l f) is = absurd (omega arith)

  pub post_six : (k : ℕ) (o : Kept) → PostRow m message k o → k ≡ 6 → (module_possible m ≡ true) × (message_legal message ≡ false)
  post_six k o (post_12 p) is = absurd (omega arith)
  post_six k o (post_6 p l) is = (p, l)
  post_six k o (post_7 p l f) is = absurd (omega arith)
  post_six k o (post_done p l f) is = absurd (omega arith)

  pub post_seven : (k : ℕ) (o : Kept) → PostRow m message k o → k ≡ 7 → (module_possible m ≡ true) × (message_legal message ≡ true) × (8 ≤ m.bidi.queued)
  post_seven k o (post_12 p) is = absurd (omega arith)
  post_seven k o (post_6 p l) is = absurd (omega arith)
  post_seven k o (post_7 p l f) is = (p, l, f)
  post_seven k o (post_done p l f) is = absurd (omega arith)

  pub post_among : (k : ℕ) (o : Kept) → PostRow m message k o → Among k (0 ∷ 12 ∷ 6 ∷ 7 ∷ [])
  post_among k o (post_12 p) = inr (inl refl)
  post_among k o (post_6 p l) = inr (inr (inl refl))
  post_among k o (post_7 p l f) = inr (inr (inr (inl refl)))
  post_among k o (post_done p l f) = inl refl

  pub post_left : (k : ℕ) (o : Kept) → PostRow m message k o → (k ≡ 0 → ⊥) → o.kept ≡ m
  post_left k o (post_12 p) not-0 = refl
  post_left k o (post_6 p l) not-0 = refl
  post_left k o (post_7 p l f) not-0 = refl
  post_left k o (post_done p l f) not-0 = absurd (not-0 refl)

  module _ (o : Kept) (p : PostPromise m message o) where
    pub row_of_post : (k : ℕ) → o.refusal ≡ k → PostRow m message k o
    row_of_post k g = (post_rows m message k o).0 (p, g)

    pub number_of_post : (k : ℕ) (q : Kept) → PostRow m message k q → o.refusal ≡ k
    unfolding PostPromise
    number_of_post k q r =
        let h = (post_rows m message k q).1 r in
        let same : o ≡ q = p ∙ sym h.0 in
        ap (λ (x : Kept). x.refusal) same ∙ h.1

-- ---- Status, number by number.

module _ (m : Module) (number value : ℕ) where
  pub status_twelve : (k : ℕ) (o : Kept) → StatusRow m number value k o → k ≡ 12 → module_possible m ≡ false
  status_twelve k o (status_12 p) is = p
  status_twelve k o (status_11 p l) is = absurd (omega arith)
  status_twelve k o (status_done p l) is = absurd (omega arith)

  pub status_eleven : (k : ℕ) (o : Kept) → StatusRow m number value k o → k ≡ 11 → (module_possible m ≡ true) × (status_legal number value ≡ false)
  status_eleven k o (status_12 p) is = absurd (omega arith)
  status_eleven k o (status_11 p l) is = (p, l)
  status_eleven k o (status_done p l) is = absurd (omega arith)

  pub status_among : (k : ℕ) (o : Kept) → StatusRow m number value k o → Among k (0 ∷ 12 ∷ 11 ∷ [])
  status_among k o (status_12 p) = inr (inl refl)
  status_among k o (status_11 p l) = inr (inr (inl refl))
  status_among k o (status_done p l) = inl refl

  pub status_left : (k : ℕ) (o : Kept) → StatusRow m number value k o → (k ≡ 0 → ⊥) → o.kept ≡ m
  status_left k o (status_12 p) not-0 = refl
  status_left k o (status_11 p l) not-0 = refl
  status_left k o (status_done p l) not-0 = absurd (not-0 refl)

  module _ (o : Kept) (p : StatusPromise m number value o) where
    pub row_of_status : (k : ℕ) → o.refusal ≡ k → StatusRow m number value k o
    row_of_status k g = (status_rows m number value k o).0 (p, g)

    pub number_of_status : (k : ℕ) (q : Kept) → StatusRow m number value k q → o.refusal ≡ k
    unfolding StatusPromise
    number_of_status k q r =
        let h = (status_rows m number value k q).1 r in
        let same : o ≡ q = p ∙ sym h.0 in
        ap (λ (x : Kept). x.refusal) same ∙ h.1

-- ---- WAIT, number by number.

module _ (m : Module) (on : Bool) where
  pub wait_twelve : (k : ℕ) (o : Kept) → WaitRow m on k o → k ≡ 12 → module_possible m ≡ false
  wait_twelve k o (wait_12 p) is = p
  wait_twelve k o (wait_done p) is = absurd (omega arith)

  pub wait_among : (k : ℕ) (o : Kept) → WaitRow m on k o → Among k (0 ∷ 12 ∷ [])
  wait_among k o (wait_12 p) = inr (inl refl)
  wait_among k o (wait_done p) = inl refl

  pub wait_left : (k : ℕ) (o : Kept) → WaitRow m on k o → (k ≡ 0 → ⊥) → o.kept ≡ m
  wait_left k o (wait_12 p) not-0 = refl
  wait_left k o (wait_done p) not-0 = absurd (not-0 refl)

  module _ (o : Kept) (p : WaitPromise m on o) where
    pub row_of_wait : (k : ℕ) → o.refusal ≡ k → WaitRow m on k o
    row_of_wait k g = (wait_rows m on k o).0 (p, g)

    pub number_of_wait : (k : ℕ) (q : Kept) → WaitRow m on k q → o.refusal ≡ k
    unfolding WaitPromise
    number_of_wait k q r =
        let h = (wait_rows m on k q).1 r in
        let same : o ≡ q = p ∙ sym h.0 in
        ap (λ (x : Kept). x.refusal) same ∙ h.1
