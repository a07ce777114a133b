-- A RECORDING IS ITS PACKETS. Over good edges without a pause the whole recording's definition does what the packets that are
-- heard do, in order, each noted at its edge, and nothing else but move the receiver on.
use Prim.Native.Nat.{ℕ, zero, suc, ◌+◌, ◌≤◌, ◌<◌}
use mathlib.Core.Bool.{false}
use mathlib.Core.List.{List, [], ◌∷◌, ◌++◌}
use mathlib.Core.Path.{◌≡◌, refl, sym, ◌∙◌, ap}
use native.Mathlib.Omega.{arith}
use native.Mathlib.Nat.{add-zero}
use lib.Dec.{eqb}
use lib.ListN.{length}
use Rattle.bits.proofs.Parts.{part_lt}
use Rattle.bits.proofs.Tests.{by}
use Rattle.running.specs.Running as R
use Rattle.running.specs.Running.{answering_if}
use Rattle.line.specs.declared.receiver.Receiver.{Receiver}
use Rattle.line.specs.Line.{Heard}
use Rattle.line.specs.Line.{is_pause, step_of}
use Rattle.line.specs.Wire.{Edge, edges_of, bits_from, levels_of, OnTime, Later, Unpaused, Noted, Hearing, noting, hearing}
use Rattle.line.specs.Clock.{Clocked}
use Rattle.line.proofs.Laws.{paused_last, paused_once, paused_no_pause}
use Rattle.line.proofs.Clock.{first_bit, pause_told, eighth_clocked, bit_clocked}
use Rattle.line.proofs.Edges.{good_edge}
use Rattle.store.specs.Sheet.{Sheets}
use Rattle.board.specs.declared.record.Module.{Module}
use Rattle.board.specs.Board.{Board, after_gap}
use Rattle.reactions.specs.Reactions.{Effect, with_kept, receiving}
use Rattle.effects.specs.Effects.{packet_effect}
use Rattle.effects.proofs.Moved.{moved, packet_moved}
use Rattle.module.specs.Edge.{heard_effect, edge_effect}
use Rattle.module.specs.Whole.{Story, story_with, whole_of}

-- ---- bytes clocked out, with times that never fall and of which none is a pause

-- levels are 0 or 1
abbrev pub Small : List ℕ → Type 0
Small [] = Unit
Small (l ∷ ls) = (l < 2) × Small ls

small_both : (ks ls : List ℕ) → Small ks → Small ls → Small (ks ++ ls)
small_both [] ls s t = t
small_both (k ∷ ks) ls s t = (s.0, small_both ks ls s.1 t)

bits_small : (b k m : ℕ) → Small (bits_from b k m)
unfolding bits_from
bits_small b k zero = tt
bits_small b k (suc m) = (part_lt b k 1, bits_small b (suc k) m)

pub levels_small : (bs : List ℕ) → Small (levels_of bs)
unfolding levels_of
levels_small [] = tt
levels_small (b ∷ bs) = small_both (bits_from b 0 8) (levels_of bs) (bits_small b 0 8) (levels_small bs)

-- good edges of which none is a pause
abbrev pub Steady : Receiver → List Edge → Type 0
Steady r [] = Unit
Steady r (e ∷ es) = (e.level < 2) × (r.last ≤ e.time) × (is_pause r e.time ≡ false) × Steady (step_of r e.time e.level).receiver es

-- edges on time are such, whatever their levels
on_time_steady : (ts ls : List ℕ) {r : Receiver} {last start count : ℕ} (more : ℕ) → Clocked r last start count → count + more ≡ 7
    → OnTime start last more ts → Small ls → Steady r (edges_of ts ls)
unfolding edges_of OnTime
on_time_steady [] ls more c k u s = tt
on_time_steady (t ∷ ts) [] more c k u s = tt
on_time_steady (t ∷ ts) (l ∷ ls) zero c k u s =
    (s.0, rw c.last_edge_lem u.0, pause_told c t l ∙ u.1, on_time_steady ts ls 7 (eighth_clocked c t l u.1 (omega arith)) refl u.2 s.1)
on_time_steady (t ∷ ts) (l ∷ ls) (suc more) c k u s =
    (s.0, rw c.last_edge_lem u.0, pause_told c t l ∙ u.1, on_time_steady ts ls more (bit_clocked c t l u.1 (λ e. omega arith)) (omega arith) u.2 s.1)

-- so are those of whole bytes, into a receiver that holds no bit
pub edges_steady : (r : Receiver) (ts ls : List ℕ) → r.count ≡ 0 → Unpaused r ts → Small ls → Steady r (edges_of ts ls)
unfolding edges_of Unpaused Later
edges_steady r [] ls h u s = tt
edges_steady r (t ∷ ts) [] h u s = tt
edges_steady r (t ∷ ts) (l ∷ ls) h u s = (s.0, u.1.0, u.0, on_time_steady ts ls 6 (first_bit r t l h) refl u.1.1 s.1)

pub unpaused_later : (r : Receiver) (ts : List ℕ) → Unpaused r ts → Later r ts
unfolding Unpaused Later
unpaused_later r [] u = tt
unpaused_later r (t ∷ ts) u = u.1

-- ---- one edge

module _ (b : Board) (sheets : Sheets) (e : Edge) where
  -- without a pause nothing is dropped: only the receiver moves on, and a packet that it completes has its effect
  pub steady_edge : is_pause b.kept.receiver e.time ≡ false
      → edge_effect b sheets e ≡ heard_effect b sheets (step_of b.kept.receiver e.time e.level)
  unfolding edge_effect heard_effect after_gap step_of
  steady_edge g = simp g

-- ---- the law

-- packets in turn, each noted at its edge; then the receiver is r, and the story goes on from there
unfoldable pub through : Board → Sheets → Receiver → List Noted → (Board → Story) → Story
through b sheets r [] on = on (receiving b r)
through b sheets r (p ∷ ps) on =
    story_with (packet_effect b sheets p.packet) p.after (through (packet_effect b sheets p.packet).board sheets r ps on)

-- an effect with another receiver is noted alike
story_moved : (e d : Effect) (r : Receiver) (n : ℕ) (left : Board → Story) (x : Story) → e ≡ moved d r → left (receiving d.board r) ≡ x
    → story_with e n (left e.board) ≡ story_with d n x
unfolding answering_if
story_moved e d r n left x p q = ap (λ (f : Effect). story_with f n (left f.board)) p ∙ ap (story_with d n) q

through_moved : (b : Board) (sheets : Sheets) (q r : Receiver) (ps : List Noted) (on : Board → Story)
    → through (receiving b q) sheets r ps on ≡ through b sheets r ps on
unfolding through
through_moved b sheets q r [] on = refl
through_moved b sheets q r (p ∷ ps) on =
    story_moved (packet_effect (receiving b q) sheets p.packet) (packet_effect b sheets p.packet) q p.after
    (λ (a : Board). through a sheets r ps on) (through (packet_effect b sheets p.packet).board sheets r ps on)
    (packet_moved b q sheets p.packet) (through_moved (packet_effect b sheets p.packet).board sheets q r ps on)

-- one edge more: what is heard of it, and what the others leave to be done, whatever board it leaves
module _ (b : Board) (sheets : Sheets) (n : ℕ) (heard : Heard) (others : Hearing) (left : Board → Story) (on : Board → Story)
    (so : (a : Board) → left (receiving a heard.receiver) ≡ through a sheets others.receiver others.packets on) where
  abbrev the_effect : Effect
  the_effect = heard_effect b sheets heard

  one_more : story_with the_effect (n + 1) (left the_effect.board)
      ≡ through b sheets (noting heard.packet (n + 1) others).receiver (noting heard.packet (n + 1) others).packets on
  unfolding heard_effect noting answering_if through
  one_more =
      by (eqb heard.packet.length 0) (λ t. simp t (so b))
      (λ t. let e = packet_effect b sheets heard.packet in
      simp t (story_moved (packet_effect (receiving b heard.receiver) sheets heard.packet) e heard.receiver (n + 1) left _
      (packet_moved b heard.receiver sheets heard.packet) (so e.board)))

pub whole_by_packets : (es : List Edge) (b : Board) (sheets : Sheets) (n : ℕ) (rest : List Edge) → Steady b.kept.receiver es
    → whole_of b sheets n (es ++ rest)
    ≡ through b sheets (hearing b.kept.receiver n es).receiver (hearing b.kept.receiver n es).packets
    (λ (after : Board). whole_of after sheets (n + length es) rest)
unfolding R.whole_of hearing through
whole_by_packets [] b sheets n rest s = ap (λ (k : ℕ). whole_of b sheets k rest) (sym (add-zero n))
whole_by_packets (e ∷ es) b sheets n rest s =
    let heard = step_of b.kept.receiver e.time e.level in
    let others = hearing heard.receiver (n + 1) es in
    let on : Board → Story = λ after. whole_of after sheets (n + suc (length es)) rest in
    let count : n + 1 + length es ≡ n + suc (length es) = omega arith in
    let so : (a : Board) → whole_of (receiving a heard.receiver) sheets (n + 1) (es ++ rest) ≡ through a sheets others.receiver others.packets on =
    λ a. rw count at (whole_by_packets es (receiving a heard.receiver) sheets (n + 1) rest s.3)
    ∙ through_moved a sheets heard.receiver others.receiver others.packets on
    in
    simp (good_edge b.kept.receiver e.time e.level (omega arith) s.1, steady_edge b sheets e s.2)
    (one_more b sheets n heard others (λ after. whole_of after sheets (n + 1) (es ++ rest)) on so)

-- ---- a gap before the first edge

-- what a gap drops is dropped once
gap_once : (m : Module) (t : ℕ) → after_gap (after_gap m t) t ≡ after_gap m t
unfolding after_gap
gap_once m t = simp (paused_once m.receiver t, paused_no_pause m.receiver t)

gap_last : (m : Module) (t : ℕ) → (after_gap m t).receiver.last ≡ t
unfolding after_gap
gap_last m t = paused_last m.receiver t

-- the board at an edge's time, before its bit
abbrev pub at_edge : Board → ℕ → Board
at_edge b time = with_kept b (after_gap b.kept time)

-- a recording whose first edge is good may as well begin at that edge's time, with what the gap before it leaves
pub gap_first : (b : Board) (sheets : Sheets) (n : ℕ) (e : Edge) (es : List Edge) → e.level < 2 → b.kept.receiver.last ≤ e.time
    → whole_of b sheets n (e ∷ es) ≡ whole_of (at_edge b e.time) sheets n (e ∷ es)
unfolding R.whole_of edge_effect
gap_first b sheets n e es l t =
    let m = after_gap b.kept e.time in
    simp (
      good_edge b.kept.receiver e.time e.level (omega arith) t,
      good_edge m.receiver e.time e.level (omega arith) (omega (arith, gap_last b.kept e.time)),
      gap_once b.kept e.time,
    )
