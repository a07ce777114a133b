-- One packet, with any edges after it: it has its effect at its last edge, and the rest goes on from there. Then a sending: its packet's
-- effect is its command's.
use Prim.Native.Nat.{ℕ, zero, suc, ◌+◌, ◌*◌, ◌≤◌, ◌<◌}
use mathlib.Core.List.{List, [], ◌∷◌, ◌++◌}
use mathlib.Core.Logic.{⊎_elim}
use mathlib.Core.Path.{◌≡◌, refl, sym, ◌∙◌, ap}
use native.Mathlib.Omega.{arith}
use lib.ListN.{length, length-append}
use Rattle.bits.specs.Bits.{Bytes}
use Rattle.bits.proofs.Tests.{by}
use Rattle.line.specs.declared.receiver.Receiver.{Receiver}
use Rattle.running.specs.Running.{answering_if}
use Rattle.line.specs.declared.packet.Packet.{Packet}
use Rattle.line.specs.Line.{idle_at, emptied, is_pause, paused_of}
use Rattle.line.specs.Wire.{Edge, edges_of, Hearing, bits_from, levels_of, bytes_of, Later, Unpaused, last_of, Proper}
use Rattle.line.proofs.Laws.{paused_last, paused_once, paused_no_pause, paused_idle}
use Rattle.line.proofs.Wire.{still_empty}
use Rattle.store.specs.Sheet.{Sheets}
use Rattle.board.specs.declared.record.Half.{Half}
use Rattle.board.specs.declared.record.Half.TheVariants.{NoHalf}
use Rattle.board.specs.declared.record.Module.{Module}
use Rattle.board.specs.Board.{Board, board_of, with_receiver, with_half, after_gap}
use Rattle.reactions.specs.Reactions.{Effect}
use Rattle.effects.specs.Effects.{effect_of, meaning_effect, packet_effect}
use Rattle.effects.proofs.Moved.{effect_moved, packet_moved}
use Rattle.module.specs.Whole.{Story, story_with, whole_of}
use Rattle.host.proofs.EncoderLaws.{read_as_encoded}
use Rattle.module.proofs.Running.{edges_length}
use Rattle.module.proofs.Packets.{Small, levels_small, edges_steady, unpaused_later, through, whole_by_packets, at_edge, gap_first}
use Rattle.demands.specs.Sending.{Sending, packet_sent, edge_count, edges_sent, SentBy, HoldsNothing, NothingHeldAt, at_last_edge, obeying, first_of, at_first, left_with}
use Rattle.demands.proofs.OnTheWire.{proper_heard, encoded_proper, encoded_small, proper_length, some_edges}

-- ---- the edges of a packet

bits_length : (b k m : ℕ) → length (bits_from b k m) ≡ m
unfolding bits_from
bits_length b k zero = refl
bits_length b k (suc m) = ap suc (bits_length b (suc k) m)

pub levels_length : (bs : List ℕ) → length (levels_of bs) ≡ 8 * length bs
unfolding levels_of
levels_length [] = refl
levels_length (b ∷ bs) = length-append (bits_from b 0 8) (levels_of bs) ∙ omega (arith, bits_length b 0 8, levels_length bs)

-- times of which the first may be a pause, from the first edge's time on
later_first : (r : Receiver) (ts : List ℕ) → Later r ts → Unpaused (paused_of r (first_of r.last ts)) ts
unfolding Later Unpaused first_of
later_first r [] u = tt
later_first r (t ∷ ts) u =
    (paused_no_pause r t, (rw (paused_last r t) (omega arith), rw (paused_once r t) u.1))

pub later_le : (r : Receiver) (ts : List ℕ) → Later r ts → r.last ≤ first_of r.last ts
unfolding Later first_of
later_le r [] u = omega arith
later_le r (t ∷ ts) u = u.0

-- of some times the last does not depend on what was before
pub last_of_some : (t u : ℕ) (ts : List ℕ) → 0 < length ts → last_of t ts ≡ last_of u ts
unfolding last_of
last_of_some t u [] h = let z : ⊥ = omega arith in absurd z
last_of_some t u (v ∷ ts) h = refl

-- some edges may as well begin at the first one's time
pub gap_edges : (b : Board) (sheets : Sheets) (n : ℕ) (ts ls : List ℕ) (rest : List Edge) → 0 < length ts → length ls ≡ length ts → Small ls
    → b.kept.receiver.last ≤ first_of b.kept.receiver.last ts
    → whole_of b sheets n (edges_of ts ls ++ rest) ≡ whole_of (at_edge b (first_of b.kept.receiver.last ts)) sheets n (edges_of ts ls ++ rest)
unfolding edges_of first_of
gap_edges b sheets n [] ls rest some long small later = let z : ⊥ = omega arith in absurd z
gap_edges b sheets n (t ∷ ts) [] rest some long small later = let z : ⊥ = omega arith in absurd z
gap_edges b sheets n (t ∷ ts) (l ∷ ls) rest some long small later =
    gap_first b sheets n (record { time = t; level = l }) (edges_of ts ls ++ rest) small.0 later

-- ---- one packet, whatever it means

-- its edges; the board at the first of them, pause or not; its effect, on the board at the last; and what comes of it, with edges after
-- it, n edges taken before those
abbrev edges_of_packet : Packet → List ℕ → List Edge
edges_of_packet p times = edges_of times (levels_of (bytes_of p))

abbrev pub at_first_of : Board → List ℕ → Board
at_first_of b times = at_edge b (first_of b.kept.receiver.last times)

abbrev effect_at_last : Board → Sheets → Packet → List ℕ → Effect
effect_at_last b sheets p times = packet_effect (at_last_edge b (last_of b.kept.receiver.last times)) sheets p

abbrev gone_on : Effect → Sheets → ℕ → List Edge → Story
gone_on e sheets n rest = story_with e n (whole_of e.board sheets n rest)

module _ {p : Packet} (proper : Proper p) (small : Bytes (bytes_of p)) (times : List ℕ) (timed : length times ≡ 8 * p.length) where
  -- eight levels for each of its bytes
  levels_long : length (levels_of (bytes_of p)) ≡ 8 * p.length
  levels_long = levels_length (bytes_of p) ∙ ap (λ (k : ℕ). 8 * k) (proper_length proper)

  count : length (edges_of_packet p times) ≡ 8 * p.length
  count = edges_length times (levels_of (bytes_of p)) (timed ∙ sym levels_long) ∙ timed

  -- without a pause
  pub packet_sent_lem : (b : Board) (sheets : Sheets) (n : ℕ) → HoldsNothing b → Unpaused b.kept.receiver times → (rest : List Edge)
      → whole_of b sheets n (edges_of_packet p times ++ rest) ≡ gone_on (effect_at_last b sheets p times) sheets (n + 8 * p.length) rest
  unfolding through answering_if
  packet_sent_lem b sheets n hold unpaused rest =
      let r = b.kept.receiver in
      let es = edges_of_packet p times in
      let after = idle_at (last_of r.last times) in
      let on : ℕ → Board → Story = λ k a. whole_of a sheets (n + k) rest in
      let heard = proper_heard proper small r hold n times timed (unpaused_later r times unpaused) in
      let no_bit = ap (λ (q : Receiver). q.count) hold in
      whole_by_packets es b sheets n rest (edges_steady r times (levels_of (bytes_of p)) no_bit unpaused (levels_small (bytes_of p)))
      ∙ ap (λ (h : Hearing). through b sheets h.receiver h.packets (on (length es))) heard
      ∙ ap (λ (k : ℕ). through b sheets after (record { after = n + 8 * p.length; packet = p } ∷ []) (on k)) count
      ∙ sym (ap (λ (e : Effect). gone_on e sheets (n + 8 * p.length) rest) (packet_moved b after sheets p))

  -- if its first edge is a pause or not, it may as well begin at that edge's time
  pub from_its_first : (b : Board) (sheets : Sheets) (n : ℕ) → Later b.kept.receiver times → (rest : List Edge)
      → whole_of b sheets n (edges_of_packet p times ++ rest) ≡ whole_of (at_first_of b times) sheets n (edges_of_packet p times ++ rest)
  from_its_first b sheets n later rest =
      gap_edges b sheets n times (levels_of (bytes_of p)) rest (rw timed (some_edges proper)) (levels_long ∙ sym timed) (levels_small (bytes_of p)) (later_le b.kept.receiver times later)

-- nothing is held there
pub nothing_held_first : (b : Board) (times : List ℕ) → NothingHeldAt b (first_of b.kept.receiver.last times) → HoldsNothing (at_first_of b times)
unfolding after_gap
nothing_held_first b times =
    let r = b.kept.receiver in
    let u = first_of r.last times in
    ⊎_elim (λ empty. let e = still_empty r u empty in e ∙ ap emptied (sym e)) (λ pause. let e = paused_idle r u pause in e ∙ ap emptied (sym e))

-- and the packet's times are such that none is a pause
pub unpaused_first : (b : Board) (times : List ℕ) → Later b.kept.receiver times → Unpaused (at_first_of b times).kept.receiver times
unfolding after_gap
unpaused_first b times later = later_first b.kept.receiver times later

-- the gap leaves nothing else over: with another receiver and another half the record is as it was without the gap
pub gap_gone : (m : Module) (time : ℕ) (r : Receiver) (half : Half) (byte : ℕ)
    → with_half (with_receiver (after_gap m time) r) half byte ≡ with_half (with_receiver m r) half byte
unfolding after_gap
gap_gone m time r half byte = by (is_pause m.receiver time) (λ e. rw e) (λ e. rw e)

-- so after packets that begin so and of which the last leaves no half, whenever they end
gap_left : (b : Board) (u time : ℕ) (change : Module → Module) (states : List ℕ)
    → left_with (at_edge b u) time change states ≡ left_with b time change states
gap_left b u time change states = ap (λ (m : Module). board_of (change m) states b.store) (gap_gone b.kept u (idle_at time) NoHalf 0)

pub gap_passed : (b : Board) (times : List ℕ) → 0 < length times → (end : ℕ → ℕ) (change : Module → Module) (states : List ℕ)
    → left_with (at_first_of b times) (end (last_of (at_first_of b times).kept.receiver.last times)) change states
    ≡ left_with b (end (last_of b.kept.receiver.last times)) change states
gap_passed b times some end change states =
    let t = b.kept.receiver.last in
    gap_left b (first_of t times) _ change states
    ∙ ap (λ (last : ℕ). left_with b (end last) change states) (last_of_some (at_first_of b times).kept.receiver.last t times some)

-- ONE PACKET WHOSE FIRST EDGE MAY BE A PAUSE
pub packet_later : {p : Packet} → Proper p → Bytes (bytes_of p) → (times : List ℕ) → length times ≡ 8 * p.length
    → (b : Board) (sheets : Sheets) (n : ℕ) → Later b.kept.receiver times → NothingHeldAt b (first_of b.kept.receiver.last times)
    → (rest : List Edge)
    → whole_of b sheets n (edges_of_packet p times ++ rest) ≡ gone_on (effect_at_last (at_first_of b times) sheets p times) sheets (n + 8 * p.length) rest
packet_later proper small times timed b sheets n later hold rest =
    from_its_first proper small times timed b sheets n later rest
    ∙ packet_sent_lem proper small times timed (at_first_of b times) sheets n (nothing_held_first b times hold) (unpaused_first b times later) rest

-- ---- one sending

module _ (b : Board) (sheets : Sheets) (n : ℕ) (s : Sending) (hold : HoldsNothing b) (sent : SentBy Unpaused b.kept.receiver s) where
  abbrev after : Receiver
  after = idle_at (last_of b.kept.receiver.last s.times)

  effect : (a : Board) → packet_effect a sheets (packet_sent s) ≡ effect_of a sheets s.command
  unfolding packet_effect meaning_effect
  effect a = ap (meaning_effect a sheets) (read_as_encoded s.command sent.accepted)

  pub one_sent : (rest : List Edge) → whole_of b sheets n (edges_sent s ++ rest)
      ≡ story_with (obeying b sheets s) (n + edge_count s) (whole_of (obeying b sheets s).board sheets (n + edge_count s) rest)
  unfolding edges_sent
  one_sent rest =
      packet_sent_lem (encoded_proper s.command sent.accepted) (encoded_small s.command sent.accepted) s.times sent.timed
      b sheets n hold sent.in_time rest
      ∙ ap (λ (e : Effect). gone_on e sheets (n + edge_count s) rest) (effect (at_last_edge b (last_of b.kept.receiver.last s.times)))

  -- and the receiver holds nothing again
  pub holds_after : (obeying b sheets s).board.kept.receiver ≡ after
  holds_after = ap (λ (e : Effect). e.board.kept.receiver) (effect_moved b after sheets s.command)

-- ---- one sending whose first edge may be a pause

module _ (b : Board) (sheets : Sheets) (n : ℕ) (s : Sending) (hold : NothingHeldAt b (first_of b.kept.receiver.last s.times)) (sent : SentBy Later b.kept.receiver s) where
  pub some : 0 < length s.times
  some = rw sent.timed (some_edges (encoded_proper s.command sent.accepted))

  pub first_empty : HoldsNothing (at_first b s)
  first_empty = nothing_held_first b s.times hold

  pub sent_first : SentBy Unpaused (at_first b s).kept.receiver s
  sent_first =
      record {
        accepted = sent.accepted;
        timed = sent.timed;
        in_time = unpaused_first b s.times sent.in_time;
      }

  pub from_first : (rest : List Edge) → whole_of b sheets n (edges_sent s ++ rest) ≡ whole_of (at_first b s) sheets n (edges_sent s ++ rest)
  unfolding edges_sent
  from_first rest =
      from_its_first (encoded_proper s.command sent.accepted) (encoded_small s.command sent.accepted) s.times sent.timed
      b sheets n sent.in_time rest

  pub later_sent : (rest : List Edge) → whole_of b sheets n (edges_sent s ++ rest)
      ≡ story_with (obeying (at_first b s) sheets s) (n + edge_count s) (whole_of (obeying (at_first b s) sheets s).board sheets (n + edge_count s) rest)
  later_sent rest = from_first rest ∙ one_sent (at_first b s) sheets n s first_empty sent_first rest

  pub later_holds_after : (obeying (at_first b s) sheets s).board.kept.receiver ≡ idle_at (last_of b.kept.receiver.last s.times)
  later_holds_after =
      holds_after (at_first b s) sheets n s first_empty sent_first
      ∙ ap idle_at (last_of_some (at_first b s).kept.receiver.last b.kept.receiver.last s.times some)
