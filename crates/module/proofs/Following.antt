-- THE RUN FOLLOWS THE LISTENING: what edges do to a board is what the receiver alone hears of them, and then, once a packet
-- is complete, that packet's effect on the record with its receiver back.
use Prim.Native.Nat.{ℕ, zero, suc, ◌+◌}
use mathlib.Core.List.{List, [], ◌∷◌}
use mathlib.Core.Bool.{Bool, true, false, cond, ◌||◌}
use mathlib.Core.Path.{◌≡◌, refl}
use native.Mathlib.Numerals.{add-one}
use lib.Dec.{eqb}
use lib.ListN.{length, drop}
use Rattle.bits.proofs.Tests.{by}
use Rattle.running.specs.Running.{call_of}
use Rattle.line.specs.declared.receiver.Receiver.{Receiver}
use Rattle.line.specs.Line.{Heard}
use Rattle.line.specs.Line.{is_pause, paused_of, step_of, edge_refusal}
use Rattle.line.specs.Wire.{Edge}
use Rattle.store.specs.Sheet.{Sheets}
use Rattle.board.specs.declared.record.Module.{Module}
use Rattle.board.specs.Board.{Board, after_gap}
use Rattle.bank.specs.Reply.{at_front}
use Rattle.reactions.specs.Reactions.{Effect, with_kept}
use Rattle.effects.specs.Effects.{packet_effect}
use Rattle.module.specs.Feed.{BadEdge, Silent, Acknowledged}
use Rattle.module.specs.Listen.{Listened}
use Rattle.module.specs.Edge.{heard_effect, edge_effect}
use Rattle.module.specs.Feed.{FeedOutcome, ending, tells_at, run_of}
use Rattle.module.specs.Listen.{listen_of, after_listening}

-- a pause drops a half that is dropped already
pub gap_listening : (m : Module) (r : Receiver) (paused : Bool) (time : ℕ) → after_gap (after_listening m r paused) time ≡ after_listening m (paused_of r time) (paused || is_pause r time)
unfolding after_gap after_listening
gap_listening m r true time = by (is_pause r time) (λ e. rw e) (λ e. rw e)
gap_listening m r false time = by (is_pause r time) (λ e. rw e) (λ e. rw e)

drop_next : {A : Type 0} (n : ℕ) (all : List A) (e : A) (es : List A) → drop n all ≡ e ∷ es → drop (suc n) all ≡ es
drop_next zero [] e es h = cc
drop_next zero (a ∷ rest) e es h = cc
drop_next (suc n) [] e es h = cc
drop_next (suc n) (a ∷ rest) e es h = drop_next n rest e es h

module _ (b : Board) (sheets : Sheets) (room : List ℕ) where
  -- the board with its receiver back
  abbrev pub heard_board : Receiver → Bool → Board
  heard_board r paused = with_kept b (after_listening b.kept r paused)

  pub edge_listening : (r : Receiver) (paused : Bool) (e : Edge)
      → edge_effect (heard_board r paused) sheets e
      ≡ heard_effect (with_kept b (after_listening b.kept (paused_of r e.time) (paused || is_pause r e.time))) sheets (step_of r e.time e.level)
  unfolding edge_effect step_of after_listening
  edge_listening r paused e = rw (gap_listening b.kept r paused e.time)

  -- an effect is answered, n edges being taken, or it goes on
  unfoldable pub answered_or : Effect → ℕ → FeedOutcome → FeedOutcome
  answered_or e n rest = cond e.acknowledged (ending e.board (at_front e.reply room) (Acknowledged n (length e.reply))) rest

  -- what follows from what was listened to, all edges being these
  unfoldable pub followed : List Edge → Listened → FeedOutcome
  followed all l =
      cond (eqb l.refusal 0)
      (cond (eqb l.packet.length 0) (ending (heard_board l.receiver l.paused) room (Silent l.taken))
      (answered_or (packet_effect (heard_board l.receiver l.paused) sheets l.packet) l.taken
      (run_of (packet_effect (heard_board l.receiver l.paused) sheets l.packet).board sheets room l.taken (drop l.taken all))))
      (ending (heard_board l.receiver l.paused) room (BadEdge l.refusal l.taken))

  pub follows : (all es : List Edge) (r : Receiver) (paused : Bool) (n : ℕ) → drop n all ≡ es
      → run_of (heard_board r paused) sheets room n es ≡ followed all (listen_of r paused n es)
  unfolding followed answered_or listen_of run_of call_of tells_at heard_effect after_listening
  follows all [] r paused n h = refl
  follows all (e ∷ es) r paused n h =
      let next : drop (n + 1) all ≡ es = rw (add-one n) (drop_next n all e es h) in
      let s : Heard = step_of r e.time e.level in
      by (eqb (edge_refusal r e.time e.level) 0)
      (λ g. by (eqb (step_of r e.time e.level).packet.length 0)
      (λ z. simp (g, z, edge_listening r paused e) (follows all es s.receiver (paused || is_pause r e.time) (n + 1) next))
      (λ z. by (packet_effect (heard_board s.receiver (paused || is_pause r e.time)) sheets s.packet).acknowledged
      (λ a. simp (g, z, edge_listening r paused e, next, a)) (λ a. simp (g, z, edge_listening r paused e, next, a))))
      (λ g. simp g)
