-- What only commands of a kind can change is as it was after an edge, a call's edges and a whole recording, or some edge
-- completes such a command.
use Prim.Native.Nat.{ℕ, ◌+◌}
use mathlib.Core.List.{List, [], ◌∷◌}
use mathlib.Core.Logic.{◌⊎◌, inl, inr, ⊎_elim}
use mathlib.Core.Path.{◌≡◌, refl, ap, ◌∙◌}
use native.Mathlib.Numerals.{one-add}
use lib.Dec.{eqb}
use lib.ListN.{length, take}
use borrow.Author.Tests.{eqb-true, eqb-false}
use Rattle.bits.proofs.Tests.{by}
use Rattle.running.specs.Running as R
use Rattle.running.specs.Running.{call_of, answering_if}
use Rattle.line.specs.declared.receiver.Receiver.{Receiver}
use Rattle.line.specs.Line.{is_pause}
use Rattle.line.specs.Wire.{Edge, edges_of}
use Rattle.command.specs.declared.Command.{Command}
use Rattle.std.specs.Prelude.{Option, Some, None}
use Rattle.command.specs.Meaning.{meaning_of}
use Rattle.store.specs.Sheet.{Sheets}
use Rattle.board.specs.declared.record.Module.{Module}
use Rattle.board.specs.Board.{Board, with_receiver, without_half, after_gap, board_refusal}
use Rattle.reactions.specs.Reactions.{Effect, no_effect}
use Rattle.effects.specs.Effects.{effect_of, meaning_effect, packet_effect}
use Rattle.module.specs.Edge.{bad_edge, heard_at, board_at, heard_effect, edge_effect}
use Rattle.module.specs.Feed.{tells_at, run_of, feed_by, feed_of, paper_of}
use Rattle.module.specs.Whole.{whole_of}
use Rattle.module.specs.Frames.{Completes, SomeEdge, this_edge, later_edge, taken_by}
use Rattle.module.specs.Feed.{Answer}
use Rattle.module.specs.Feed.{Refused, BadEdge, Silent, Acknowledged}
use Rattle.module.proofs.Stops.{answer_more, run_more, run_unrefused}

-- an edge more that was taken
take_more : (e : Edge) (es : List Edge) (a : Answer) → ((number : ℕ) → a ≡ Refused number → ⊥)
    → take (paper_of (answer_more 1 a)).edges (e ∷ es) ≡ e ∷ take (paper_of a).edges es
unfolding answer_more
take_more e es (Refused number) taken = absurd (taken number refl)
take_more e es (BadEdge number edges) taken = rw (one-add edges) refl
take_more e es (Silent edges) taken = rw (one-add edges) refl
take_more e es (Acknowledged edges length) taken = rw (one-add edges) refl

-- a pause drops what the receiver and the half hold, and nothing else
module _ (m : Module) (time : ℕ) where
  gap_leaves : {A : Type 0} (view : Module → A) → ((k : Module) (r : Receiver) → view (with_receiver k r) ≡ view k)
      → ((k : Module) → view (without_half k) ≡ view k) → view (after_gap m time) ≡ view m
  unfolding after_gap
  gap_leaves view receiver half =
      by (is_pause m.receiver time) (λ e. rw e (receiver (without_half m) _ ∙ half m)) (λ e. rw e (receiver m _))

  pub gap_drive : (after_gap m time).drive ≡ m.drive
  gap_drive = gap_leaves (λ k. k.drive) (λ k r. refl) (λ k. refl)

  pub gap_position : (after_gap m time).position ≡ m.position
  gap_position = gap_leaves (λ k. k.position) (λ k r. refl) (λ k. refl)

  pub gap_stateson : (after_gap m time).stateson ≡ m.stateson
  gap_stateson = gap_leaves (λ k. k.stateson) (λ k r. refl) (λ k. refl)

  pub gap_settings : (after_gap m time).settings ≡ m.settings
  gap_settings = gap_leaves (λ k. k.settings) (λ k r. refl) (λ k. refl)

  pub gap_bidi : (after_gap m time).bidi ≡ m.bidi
  gap_bidi = gap_leaves (λ k. k.bidi) (λ k r. refl) (λ k. refl)

-- EDGE BY EDGE: a fact of a board, of edges and of the board after them, that holds of no edge, of a bad one, and of an edge more before
-- others. `P` is what each edge finds and leaves
module _ (sheets : Sheets) (P : Board → Type 0) (Fact : Board → List Edge → Board → Type 0)
    (keeps : (b : Board) (e : Edge) → P b → bad_edge b.kept e ≡ 0 → P (edge_effect b sheets e).board)
    (none : (b : Board) → P b → Fact b [] b)
    (ends : (b : Board) (e : Edge) (es : List Edge) → P b → (bad_edge b.kept e ≡ 0 → ⊥) → Fact b (e ∷ es) b)
    (more : (b : Board) (e : Edge) (es : List Edge) (after : Board) → P b → bad_edge b.kept e ≡ 0 → Fact (edge_effect b sheets e).board es after → Fact b (e ∷ es) after) where
  -- A CALL'S EDGES, those that it took
  pub by_run : (room : List ℕ) (es : List Edge) (b : Board) → P b → Fact b (taken_by (run_of b sheets room 0 es) es) (run_of b sheets room 0 es).board
  unfolding run_of call_of tells_at
  by_run room [] b p = none b p
  by_run room (e ∷ es) b p =
      let f = edge_effect b sheets e in
      let rest = run_of f.board sheets room 0 es in
      let on = run_more f.board sheets room 1 es in
      let one = take_more e es rest.answer (run_unrefused f.board sheets room 0 es) in
      by (eqb (bad_edge b.kept e) 0)
      (λ g. let q = keeps b e p (eqb-true _ _ g) in
      by f.acknowledged (λ a. simp (g, a) (more b e [] f.board p (eqb-true _ _ g) (none f.board q)))
      (λ a. simp (g, a) (rw (on, one) (more b e _ _ p (eqb-true _ _ g) (by_run room es f.board q)))))
      (λ g. rw g (none b p))

  -- A WHOLE RECORDING
  pub by_whole : (es : List Edge) (b : Board) (n : ℕ) → P b → Fact b es (whole_of b sheets n es).board
  unfolding R.whole_of answering_if
  by_whole [] b n p = none b p
  by_whole (e ∷ es) b n p =
      by (eqb (bad_edge b.kept e) 0)
      (λ g. let all = more b e es _ p (eqb-true _ _ g) (by_whole es (edge_effect b sheets e).board (n + 1) (keeps b e p (eqb-true _ _ g))) in
      by (edge_effect b sheets e).acknowledged (λ a. simp (g, a) all) (λ a. simp (g, a) all))
      (λ g. rw g (ends b e es p (eqb-false _ _ g)))

  -- A CALL: refused, it leaves all
  pub by_feed : (room times levels : List ℕ) (b : Board) → (board_refusal b sheets room ≡ 0 → P b) → Fact b [] b
      → Fact b (taken_by (feed_of b sheets room times levels) (edges_of times levels)) (feed_of b sheets room times levels).board
  unfolding feed_by
  by_feed room times levels b accepted still =
      by (eqb (board_refusal b sheets room) 0)
      (λ r. by (eqb (length times) (length levels)) (λ l. simp (r, l) (by_run room (edges_of times levels) b (accepted (eqb-true _ _ r)))) (λ l. simp (r, l) still))
      (λ r. rw r still)

-- a view of a board that neither a gap nor a bit nor a packet without effect changes
pub record Unmoved {A : Type 0} (view : Board → A) : Type 0 where
  pub by_bit : (b : Board) (e : Edge) → view (board_at b e) ≡ view b
  pub by_nothing : (b : Board) → view (no_effect b).board ≡ view b

module _ {A : Type 0} (view : Board → A) (u : Unmoved view) (Q : Board → Command → Type 0) (sheets : Sheets)
    (frame : (b : Board) (c : Command) → (view (effect_of b sheets c).board ≡ view b) ⊎ Q b c) where
  meant_frame : (b : Board) (e : Edge) (m : Option Command) → meaning_of (heard_at b e).packet ≡ m → edge_effect b sheets e ≡ meaning_effect (board_at b e) sheets m
      → (view (edge_effect b sheets e).board ≡ view b) ⊎ Completes Q b sheets e
  unfolding meaning_effect
  meant_frame b e (Some c) s a =
      ⊎_elim (λ f. inl (ap (λ (x : Effect). view x.board) a ∙ f ∙ u.by_bit b e)) (λ q. inr (record { command = c; says = s; acts = a; kind = q })) (frame (board_at b e) c)
  meant_frame b e None s a = inl (ap (λ (x : Effect). view x.board) a ∙ u.by_nothing (board_at b e) ∙ u.by_bit b e)

  -- ONE EDGE
  pub edge_frame : (b : Board) (e : Edge) → (view (edge_effect b sheets e).board ≡ view b) ⊎ Completes Q b sheets e
  unfolding edge_effect heard_effect packet_effect
  edge_frame b e =
      by (eqb (heard_at b e).packet.length 0) (λ z. inl (rw z (u.by_bit b e)))
      (λ z. meant_frame b e (meaning_of (heard_at b e).packet) refl (rw z))

  -- and an edge more: the view is as it was, or some edge completed such a command
  abbrev Framed : Board → List Edge → Board → Type 0
  Framed b es after = (view after ≡ view b) ⊎ SomeEdge Q sheets b es

  framed_more : (b : Board) (e : Edge) (es : List Edge) (after : Board) → Unit {0} → bad_edge b.kept e ≡ 0
      → Framed (edge_effect b sheets e).board es after → Framed b (e ∷ es) after
  framed_more b e es after p g rest =
      ⊎_elim (λ same. ⊎_elim (λ left. inl (left ∙ same)) (λ s. inr (later_edge b e es g s)) rest) (λ c. inr (this_edge b e es g c)) (edge_frame b e)

  -- A WHOLE RECORDING, AND A CALL
  pub whole_frame : (es : List Edge) (b : Board) (n : ℕ) → (view (whole_of b sheets n es).board ≡ view b) ⊎ SomeEdge Q sheets b es
  whole_frame es b n = by_whole sheets (λ b. Unit {0}) Framed (λ b e p g. tt) (λ b p. inl refl) (λ b e es p g. inl refl) framed_more es b n tt

  pub feed_frame : (room times levels : List ℕ) (b : Board) → (view (feed_of b sheets room times levels).board ≡ view b) ⊎ SomeEdge Q sheets b (taken_by (feed_of b sheets room times levels) (edges_of times levels))
  feed_frame room times levels b =
      by_feed sheets (λ b. Unit {0}) Framed (λ b e p g. tt) (λ b p. inl refl) (λ b e es p g. inl refl) framed_more room times levels b (λ r. tt) (inl refl)

-- no edge completes what no command is
pub no_edge : (sheets : Sheets) (b : Board) (es : List Edge) → SomeEdge (λ b c. ⊥) sheets b es → ⊥
no_edge sheets b es (this_edge b' e rest g c) = c.kind
no_edge sheets b es (later_edge b' e rest g s) = no_edge sheets (edge_effect b' sheets e).board rest s
