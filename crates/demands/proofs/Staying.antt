-- What every call and every request of the application leaves possible, and how little of the lent buffers a call touches.
use Prim.Native.Nat.{ℕ, ◌≤◌}
use mathlib.Core.List.{List}
use mathlib.Core.Bool.{Bool, true}
use mathlib.Core.Path.{◌≡◌, refl, sym, ◌∙◌}
use native.Mathlib.Omega.{arith}
use lib.Dec.{eqb, leb}
use lib.ListN.{length, drop}
use borrow.Author.Tests.{eqb-true}
use Rattle.bits.proofs.Tests.{by, and_left, and_both}
use Rattle.line.specs.Wire.{edges_of}
use Rattle.line.proofs.Laws as R
use Rattle.position.specs.Position.{position_possible}
use Rattle.drive.proofs.Laws.{restarted_possible}
use Rattle.states.specs.States.{length_holds}
use Rattle.states.proofs.Laws.{cleared_length}
use Rattle.cells.specs.declared.settings.Settings.{Settings}
use Rattle.cells.specs.Settings.{settings_possible}
use Rattle.cells.proofs.Laws.{fresh_possible, wait_possible}
use Rattle.bidi.specs.declared.record.Bidi.{Bidi}
use Rattle.bidi.proofs.Possible as B
use Rattle.store.proofs.Sizes.{store_length}
use Rattle.store.specs.Sheet.{Sheets}
use Rattle.board.specs.declared.record.Module.{Module}
use Rattle.board.specs.Board.{Board, fresh_module, half_possible, module_possible, board_refusal, restarted_of, with_settings, with_bidi}
use Rattle.board.proofs.Checked.{right, states_long, lengths_right}
use Rattle.board.proofs.Parts.{apart, together, settings_set, bidi_set}
use Rattle.module.specs.Application.{Kept, restart_of, post_of, status_of, wait_of, PostPromise, StatusPromise, WaitPromise}
use Rattle.module.specs.Feed.{FeedOutcome, feed_by, feed_of, paper_of}
use Rattle.module.proofs.Edges.{run_right}

-- ---- A call.

pub record Harmless (b : Board) (room : List ℕ) (o : FeedOutcome) : Type 0 where
  pub still_possible : module_possible b.kept ≡ true → module_possible o.board.kept ≡ true
  pub same_states : length o.board.states ≡ length b.states
  pub same_store : length o.board.store ≡ length b.store
  pub same_room : length o.room ≡ length room
  pub short : (paper_of o.answer).length ≤ 84
  pub past_reply : drop (paper_of o.answer).length o.room ≡ drop (paper_of o.answer).length room

pub feed_harmless : (b : Board) (sheets : Sheets) (room times levels : List ℕ) → Harmless b room (feed_of b sheets room times levels)
unfolding feed_by
feed_harmless b sheets room times levels =
    by (eqb (board_refusal b sheets room) 0)
    (λ z. by (eqb (length times) (length levels))
    (λ l. let r = right b sheets room (eqb-true _ _ z) in
    let q = run_right sheets room (edges_of times levels) b 0 r in
    let s = q.right_board.buffers in
    simp (z, l)
    (record {
      still_possible = λ p. q.right_board.possible;
      same_states = states_long _ _ sheets _ s ∙ sym (states_long _ _ sheets _ r.buffers);
      same_store = store_length _ sheets (lengths_right _ _ sheets _ s) ∙ sym (store_length _ sheets (lengths_right _ _ sheets _ r.buffers));
      same_room = q.same_room;
      short = q.short;
      past_reply = q.past_reply;
    }))
    (λ l. simp (z, l) (record { still_possible = λ p. p; same_states = refl; same_store = refl; same_room = refl; short = omega arith; past_reply = refl })))
    (λ z. simp z (record { still_possible = λ p. p; same_states = refl; same_store = refl; same_room = refl; short = omega arith; past_reply = refl }))

-- ---- Requests of the application.

restarted_module : (m : Module) → module_possible m ≡ true → module_possible (restarted_of m) ≡ true
unfolding restarted_of half_possible position_possible settings_possible
restarted_module m h =
    let p = apart m h in
    together _ (record {
      heard = R.fresh_possible;
      halved = refl;
      driven = restarted_possible;
      set_up = and_both (leb m.settings.number 3) (leb 0 1) (and_left (leb m.settings.number 3) (leb m.settings.wait 1) p.set_up) refl;
      queued_up = B.fresh_possible;
      placed = refl;
    })

pub new_module : module_possible fresh_module ≡ true
unfolding half_possible position_possible
new_module = together fresh_module (record { heard = R.fresh_possible; halved = refl; driven = restarted_possible; set_up = fresh_possible; queued_up = B.fresh_possible; placed = refl })

pub restart_stays : (m : Module) (states : List ℕ) → module_possible m ≡ true → module_possible (restart_of m states).given.kept ≡ true
unfolding restart_of
restart_stays m states h = by (length_holds states) (λ l. simp (h, l) (restarted_module m h)) (λ l. simp (h, l))

pub restart_length : (m : Module) (states : List ℕ) → length (restart_of m states).states ≡ length states
unfolding restart_of
restart_length m states =
    by (module_possible m)
    (λ p. by (length_holds states) (λ l. simp (p, l) (cleared_length ∙ sym (eqb-true _ _ l))) (λ l. simp (p, l))) (λ p. simp p)

pub post_stays : (m : Module) (message : List ℕ) → length message ≡ 4 → module_possible m ≡ true → module_possible (post_of m message).kept ≡ true
unfolding post_of
post_stays m message four h = simp h (bidi_set m h _ (B.post_possible m.bidi message four (apart m h).queued_up))

pub status_stays : (m : Module) (number value : ℕ) → module_possible m ≡ true → module_possible (status_of m number value).kept ≡ true
unfolding status_of
status_stays m number value h = simp h (bidi_set m h _ (B.status_possible m.bidi number value (apart m h).queued_up))

pub wait_stays : (m : Module) (on : Bool) → module_possible m ≡ true → module_possible (wait_of m on).kept ≡ true
unfolding wait_of
wait_stays m on h = simp h (settings_set m h _ (wait_possible m.settings on (apart m h).set_up))

-- ---- What the application's requests leave of a record: all but statuses and queue, or all but the settings.

module _ {A : Type 0} (view : Module → A) where
  pub post_keeps : ((m : Module) (d : Bidi) → view (with_bidi m d) ≡ view m) → (m : Module) (message : List ℕ) (a : Kept) → PostPromise m message a → view a.kept ≡ view m
  unfolding PostPromise post_of
  post_keeps same m message a p = rw p (by (module_possible m) (λ e. rw e (same m _)) (λ e. rw e))

  pub status_keeps : ((m : Module) (d : Bidi) → view (with_bidi m d) ≡ view m) → (m : Module) (number value : ℕ) (a : Kept) → StatusPromise m number value a → view a.kept ≡ view m
  unfolding StatusPromise status_of
  status_keeps same m number value a p = rw p (by (module_possible m) (λ e. rw e (same m _)) (λ e. rw e))

  pub wait_keeps : ((m : Module) (t : Settings) → view (with_settings m t) ≡ view m) → (m : Module) (on : Bool) (a : Kept) → WaitPromise m on a → view a.kept ≡ view m
  unfolding WaitPromise wait_of
  wait_keeps same m on a p = rw p (by (module_possible m) (λ e. rw e (same m _)) (λ e. rw e))
