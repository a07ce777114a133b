-- A run under way, a packet a turn: what is left to do from here gives what the whole of it gives.
use Prim.Native.Nat.{ℕ, ◌+◌, ◌-◌, ◌≤◌, ◌<◌}
use mathlib.Core.List.{List, [], ◌∷◌}
use mathlib.Core.Bool.{Bool, true, false, ◌||◌}
use mathlib.Core.Path.{◌≡◌, refl, sym, ◌∙◌}
use native.Mathlib.Omega.{arith}
use lib.Dec.{eqb}
use lib.ListN.{length, drop, length-drop}
use borrow.Author.Tests.{eqb-true, eq-eqb, ne_eqb}
use Rattle.bits.proofs.Tests.{by}
use Rattle.line.specs.declared.receiver.Receiver.{Receiver}
use Rattle.line.specs.Line.{receiver_possible, is_pause, step_of, paused_of, edge_refusal}
use Rattle.line.specs.Wire.{Edge, edges_of}
use Rattle.line.proofs.Laws.{paused_possible, step_possible}
use Rattle.line.proofs.Edges.{good_level, good_time}
use Rattle.board.specs.declared.record.Module.{Module}
use Rattle.board.specs.Board.{board_of, buffers_hold, board_refusal}
use Rattle.store.proofs.Sizes.{lengths_same}
use Rattle.store.specs.Sheet.{Sheets}
use Rattle.board.proofs.Checked.{right, states_long, lengths_right}
use Rattle.reactions.specs.Reactions.{AfterCommand, leaves}
use Rattle.effects.specs.Effects.{packet_effect}
use Rattle.effects.proofs.Each.{silent_packet_no_reply}
use Rattle.effects.proofs.LastByte.{LastByte}
use Rattle.effects.proofs.Possible.{packet_sound, room_stays, packet_checked}
use Rattle.module.specs.Feed.{BadEdge, Silent, Acknowledged}
use Rattle.module.specs.Listen.{Listened}
use Rattle.module.specs.Feed.{ending, run_of}
use Rattle.module.specs.Listen.{listen_of, after_listening}
use Rattle.module.proofs.Checked.{hears, listening_passes}
use Rattle.module.proofs.Edges.{bit_last_byte}
use Rattle.module.proofs.Following.{answered_or, followed, follows}

-- ---- What was listened to.

step_last_byte : (r : Receiver) (time level : ℕ) → receiver_possible r ≡ true → level < 2 → r.last ≤ time → LastByte (step_of r time level).packet
unfolding step_of
step_last_byte r time level p l later = bit_last_byte (paused_of r time) level (paused_possible r time p later) l

-- a possible receiver, a packet that was completed by a byte, and as many edges as there are, at least one for a packet
pub record Fine (n : ℕ) (es : List Edge) (l : Listened) : Type 0 where
  pub ok : receiver_possible l.receiver ≡ true
  pub last : LastByte l.packet
  pub within : l.taken ≤ n + length es
  pub past : (l.packet.length ≡ 0 → ⊥) → n < l.taken

pub listened_fine : (es : List Edge) (r : Receiver) (paused : Bool) (n : ℕ) → receiver_possible r ≡ true → Fine n es (listen_of r paused n es)
unfolding listen_of
listened_fine [] r paused n p = record { ok = p; last = omega arith; within = omega arith; past = λ h. absurd (h refl) }
listened_fine (e ∷ es) r paused n p =
    by (eqb (edge_refusal r e.time e.level) 0)
    (λ g. let low : e.level < 2 = omega (arith, good_level r e.time e.level (eqb-true _ _ g)) in
    let later : r.last ≤ e.time = good_time r e.time e.level (eqb-true _ _ g) in
    let q = step_possible r e.time e.level p low later in
    by (eqb (step_of r e.time e.level).packet.length 0)
    (λ z. let f = listened_fine es (step_of r e.time e.level).receiver (paused || is_pause r e.time) (n + 1) q in
    simp (g, z) (record { ok = f.ok; last = f.last; within = omega (arith, f.within); past = λ h. omega (arith, f.past h) }))
    (λ z. simp (g, z) (record { ok = q; last = step_last_byte r e.time e.level p low later; within = omega arith; past = λ h. omega arith })))
    (λ g. simp g (record { ok = p; last = omega arith; within = omega arith; past = λ h. absurd (h refl) }))

pub edges_length : (ts ls : List ℕ) → length ts ≡ length ls → length (edges_of ts ls) ≡ length ts
unfolding edges_of
edges_length [] ls e = refl
edges_length (t ∷ ts) [] e = let z : ⊥ = omega arith in absurd z
edges_length (t ∷ ts) (l ∷ ls) e = let h : length ts ≡ length ls = omega arith in omega (arith, edges_length ts ls h)

-- ---- The loop.

pub record Running (ts ls : List ℕ) (sheets : Sheets) (m₀ : Module) (states₀ store₀ room₀ : List ℕ) (m : Module) (states store room : List ℕ) (i : ℕ) : Type 0 where
  pub within : i ≤ length ts
  pub even : length ts ≡ length ls
  pub passes : board_refusal (board_of m states store) sheets room ≡ 0
  pub states_same : length states ≡ length states₀
  pub store_same : length store ≡ length store₀
  pub room_same : length room ≡ length room₀
  pub same : run_of (board_of m₀ states₀ store₀) sheets room₀ 0 (edges_of ts ls) ≡ run_of (board_of m states store) sheets room i (drop i (edges_of ts ls))

module _ {ts ls : List ℕ} {sheets : Sheets} {m₀ : Module} {states₀ store₀ room₀ : List ℕ} {m : Module} {states store room : List ℕ} {i : ℕ}
    (g : Running ts ls sheets m₀ states₀ store₀ room₀ m states store room i) (l : Listened) (heard : l ≡ listen_of m.receiver false i (drop i (edges_of ts ls)))
    (k : Module) (back : k ≡ after_listening m l.receiver l.paused) where
  fine : Fine i (drop i (edges_of ts ls)) l
  fine = rw heard (listened_fine (drop i (edges_of ts ls)) m.receiver false i (hears (board_of m states store) sheets room g.passes))

  before : buffers_hold states store sheets room ≡ true
  before = (right (board_of m states store) sheets room g.passes).buffers

  follow : run_of (board_of m₀ states₀ store₀) sheets room₀ 0 (edges_of ts ls) ≡ followed (board_of m states store) sheets room (edges_of ts ls) l
  unfolding after_listening
  follow = g.same ∙ rw heard (follows (board_of m states store) sheets room (edges_of ts ls) (drop i (edges_of ts ls)) m.receiver false i refl)

  pub bad : (l.refusal ≡ 0 → ⊥) → ending (board_of k states store) room (BadEdge l.refusal l.taken) ≡ run_of (board_of m₀ states₀ store₀) sheets room₀ 0 (edges_of ts ls)
  unfolding followed
  bad n = rw (follow, back) (simp (ne_eqb _ _ n))

  module _ (right_edges : l.refusal ≡ 0) where
    pub ends : l.packet.length ≡ 0 → ending (board_of k states store) room (Silent l.taken) ≡ run_of (board_of m₀ states₀ store₀) sheets room₀ 0 (edges_of ts ls)
    unfolding followed
    ends z = rw (follow, back) (simp (eq-eqb _ _ right_edges, eq-eqb _ _ z))

    pub passes_on : board_refusal (board_of k states store) sheets room ≡ 0
    passes_on = rw back (listening_passes (board_of m states store) sheets room g.passes l.receiver l.paused fine.ok)

    module _ (complete : l.packet.length ≡ 0 → ⊥) (x : AfterCommand) (done : x ≡ leaves (packet_effect (board_of k states store) sheets l.packet) room) where
      pub stops : x.reaction.acknowledged ≡ true
          → ending (board_of x.reaction.kept x.states x.store) x.room (Acknowledged l.taken x.reaction.length)
          ≡ run_of (board_of m₀ states₀ store₀) sheets room₀ 0 (edges_of ts ls)
      unfolding followed answered_or
      stops a = rw (follow, done, back) (simp (eq-eqb _ _ right_edges, ne_eqb _ _ complete, rw (done, back) at a))

      again : board_refusal (board_of x.reaction.kept x.states x.store) sheets x.room ≡ 0
      again = rw done (packet_checked (board_of k states store) sheets room l.packet fine.last passes_on)

      pub states_keep_length : length x.states ≡ length states₀
      states_keep_length = states_long _ _ sheets _ (right _ sheets _ again).buffers ∙ sym (states_long states store sheets room before) ∙ g.states_same

      pub store_keeps_length : length x.store ≡ length store₀
      store_keeps_length =
          lengths_same store _ sheets (lengths_right states store sheets room before) (lengths_right _ _ sheets _ (right _ sheets _ again).buffers) ∙ g.store_same

      pub room_keeps_length : length x.room ≡ length room₀
      room_keeps_length =
          let b = board_of k states store in
          let r = right b sheets room passes_on in
          rw done (room_stays b sheets room r (packet_effect b sheets l.packet) (packet_sound b sheets room r l.packet fine.last)) ∙ g.room_same

      pub on : x.reaction.acknowledged ≡ false
          → Running ts ls sheets m₀ states₀ store₀ room₀ x.reaction.kept x.states x.store x.room l.taken
      unfolding followed answered_or
      on a =
          let silent : (packet_effect (board_of k states store) sheets l.packet).acknowledged ≡ false = rw done at a in
          let none = silent_packet_no_reply (board_of k states store) sheets l.packet silent in
          let still : x.room ≡ room = rw (done, none) refl in
          record {
            within = omega (arith, fine.within, length-drop i (edges_of ts ls), edges_length ts ls g.even, g.within);
            even = g.even;
            passes = again;
            states_same = states_keep_length;
            store_same = store_keeps_length;
            room_same = room_keeps_length;
            same = follow ∙ rw (still, done) (simp (eq-eqb _ _ right_edges, ne_eqb _ _ complete, rw back at silent, back));
          }

      pub less : length ts - l.taken < length ts - i
      less = omega (arith, fine.past complete, fine.within, length-drop i (edges_of ts ls), edges_length ts ls g.even, g.within)
