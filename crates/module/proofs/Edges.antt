-- EDGES KEEP A BOARD RIGHT: one good edge, a call's edges, a whole recording.
use Prim.Native.Nat.{ℕ, ◌+◌, ◌≤◌, ◌<◌}
use mathlib.Core.List.{List, [], ◌∷◌}
use mathlib.Core.Bool.{true, false}
use mathlib.Core.Path.{◌≡◌, refl, ◌∙◌, ap}
use native.Mathlib.Omega.{arith}
use lib.Dec.{eqb}
use lib.ListN.{length, drop}
use lib.Seq.{drop_at}
use borrow.Author.Tests.{eqb-true}
use Rattle.bits.proofs.Tests.{by}
use Rattle.running.specs.Running as R
use Rattle.running.specs.Running.{call_of, answering_if}
use Rattle.running.proofs.Calls.{keeps_whole}
use Rattle.line.specs.declared.receiver.Receiver.{Receiver}
use Rattle.line.specs.Line.{Heard}
use Rattle.line.specs.Line.{packet_length, with_bits, receiver_possible, clock_runs, byte_of, bit_of, step_of}
use Rattle.line.specs.Wire.{Edge}
use Rattle.line.proofs.Laws.{more_fits, paused_runs, bit_possible}
use Rattle.line.proofs.Edges.{good_level, good_time, step_last}
use Rattle.store.specs.Sheet.{Sheets}
use Rattle.bank.specs.Reply.{at_front}
use Rattle.board.specs.Board.{Board, after_gap, module_possible}
use Rattle.board.proofs.Checked.{Right, states_long, lengths_right}
use Rattle.board.proofs.Parts.{apart, receiver_set, gap_possible, gap_receiver}
use Rattle.reactions.specs.Reactions.{with_kept, receiving}
use Rattle.effects.proofs.Each.{packet_receiver_stays, silent_packet_no_reply}
use Rattle.effects.proofs.LastByte.{LastByte}
use Rattle.effects.proofs.Possible.{Sound, packet_sound, sound_right, sound_right_replied, room_stays}
use Rattle.module.specs.Feed.{Answer}
use Rattle.module.specs.Feed.{BadEdge, Silent}
use Rattle.module.specs.Edge.{bad_edge, heard_at, board_at, heard_effect, edge_effect}
use Rattle.module.specs.Feed.{FeedOutcome, ending, paper_of, tells_at, run_of}
use Rattle.module.specs.Whole.{edge_rule, Answered, whole_of}

-- ---- A packet that an edge completes was completed by a byte.

pub byte_last : (r : Receiver) (byte : ℕ) → byte < 256 → LastByte (byte_of r byte).packet
unfolding byte_of
byte_last r byte h =
    by (eqb r.held 0) (λ e. rw e (omega arith))
    (λ e. by (eqb r.held 1)
    (λ f. by (eqb (packet_length r.first) 3) (λ l. simp (e, f, l) (omega arith)) (λ l. simp (e, f, l) h)) (λ f. simp (e, f) h))

pub bit_last_byte : (r : Receiver) (level : ℕ) → receiver_possible r ≡ true → level < 2 → LastByte (bit_of r level).packet
unfolding bit_of
bit_last_byte r level p l =
    by (eqb r.count 7) (λ e. rw e (byte_last (with_bits r 0 0) _ (more_fits r level p l))) (λ e. rw e (omega arith))

-- ---- One edge.

-- the receiver is that of the line alone, whatever the packet does,
pub heard_receiver : (b : Board) (sheets : Sheets) (h : Heard) → (heard_effect b sheets h).board.kept.receiver ≡ h.receiver
unfolding heard_effect
heard_receiver b sheets h =
    by (eqb h.packet.length 0) (λ e. rw e) (λ e. rw e (packet_receiver_stays (receiving b h.receiver) sheets h.packet))

module _ (b : Board) (sheets : Sheets) (e : Edge) where
  pub edge_receiver : (edge_effect b sheets e).board.kept.receiver ≡ (step_of b.kept.receiver e.time e.level).receiver
  unfolding edge_effect step_of
  edge_receiver = heard_receiver (with_kept b (after_gap b.kept e.time)) sheets (heard_at b e) ∙ rw (gap_receiver b.kept e.time)

  -- and its last edge is this one
  pub edge_last : (edge_effect b sheets e).board.kept.receiver.last ≡ e.time
  edge_last = ap (λ (r : Receiver). r.last) edge_receiver ∙ step_last b.kept.receiver e.time e.level

  -- without an acknowledgement there is no reply
  pub edge_silent : (edge_effect b sheets e).acknowledged ≡ false → (edge_effect b sheets e).reply ≡ []
  unfolding edge_effect heard_effect
  edge_silent =
      by (eqb (heard_at b e).packet.length 0) (λ z. rw z (λ q. refl)) (λ z. rw z (silent_packet_no_reply (board_at b e) sheets (heard_at b e).packet))

-- a bit heard on a right board: what comes of it is right again
module _ (b : Board) (sheets : Sheets) (room : List ℕ) (r : Right b sheets room) (h : Heard) (p : receiver_possible h.receiver ≡ true) (l : LastByte h.packet) where
  listening : Right (receiving b h.receiver) sheets room
  listening = record { possible = receiver_set b.kept r.possible h.receiver p; buffers = r.buffers; sheeted = r.sheeted }

  heard_sound : Sound sheets (heard_effect b sheets h)
  unfolding heard_effect
  heard_sound =
      by (eqb h.packet.length 0)
      (λ z. rw z (record {
        possible = listening.possible;
        states_stay_long = states_long b.states b.store sheets room r.buffers;
        store_stays_long = lengths_right b.states b.store sheets room r.buffers;
        short = omega arith;
      }))
      (λ z. rw z (packet_sound (receiving b h.receiver) sheets room listening h.packet l))

-- A GOOD EDGE ON A RIGHT BOARD
module _ (b : Board) (sheets : Sheets) (room : List ℕ) (e : Edge) (r : Right b sheets room) (g : bad_edge b.kept e ≡ 0) where
  pub edge_sound : Sound sheets (edge_effect b sheets e)
  unfolding edge_effect
  edge_sound =
      let m = after_gap b.kept e.time in
      let p : module_possible m ≡ true = gap_possible b.kept e.time r.possible (good_time b.kept.receiver e.time e.level g) in
      let q : receiver_possible m.receiver ≡ true = (apart m p).heard in
      let runs : clock_runs m.receiver ≡ true = rw (gap_receiver b.kept e.time) (paused_runs b.kept.receiver e.time) in
      let l : e.level < 2 = omega (arith, good_level b.kept.receiver e.time e.level g) in
      heard_sound (with_kept b m) sheets room (record { possible = p; buffers = r.buffers; sheeted = r.sheeted })
      (heard_at b e) (bit_possible m.receiver e.level q runs l) (bit_last_byte m.receiver e.level q l)

  -- leaves a right board, with the reply at the room's front and without it,
  pub edge_right : Right (edge_effect b sheets e).board sheets room
  edge_right = sound_right b sheets room r _ edge_sound

  pub edge_right_replied : Right (edge_effect b sheets e).board sheets (at_front (edge_effect b sheets e).reply room)
  edge_right_replied = sound_right_replied b sheets room r _ edge_sound

  pub edge_room_stays : length (at_front (edge_effect b sheets e).reply room) ≡ length room
  edge_room_stays = room_stays b sheets room r _ edge_sound

  -- and its reply is at most 84 bytes
  pub edge_short : length (edge_effect b sheets e).reply ≤ 84
  edge_short = edge_sound.short

-- every reply of a recording is at most 84 bytes
abbrev pub ShortReplies : List Answered → Type 0
ShortReplies [] = Unit
ShortReplies (a ∷ rest) = (length a.reply ≤ 84) × ShortReplies rest

-- ---- A call's edges.

-- what is to be shown of a call's outcome: a right board, the room's length, a reply of at most 84 bytes at the room's front
pub record Ran (sheets : Sheets) (room : List ℕ) (o : FeedOutcome) : Type 0 where
  pub right_board : Right o.board sheets o.room
  pub same_room : length o.room ≡ length room
  pub short : (paper_of o.answer).length ≤ 84
  pub past_reply : drop (paper_of o.answer).length o.room ≡ drop (paper_of o.answer).length room

ran_still : (b : Board) (sheets : Sheets) (room : List ℕ) (a : Answer) → Right b sheets room → (paper_of a).length ≡ 0 → Ran sheets room (ending b room a)
ran_still b sheets room a r z = record { right_board = r; same_room = refl; short = rw z (omega arith); past_reply = refl }

module _ (sheets : Sheets) (room : List ℕ) where
  pub run_right : (es : List Edge) (b : Board) (n : ℕ) → Right b sheets room → Ran sheets room (run_of b sheets room n es)
  unfolding run_of call_of tells_at
  run_right [] b n r = ran_still b sheets room (Silent n) r refl
  run_right (e ∷ es) b n r =
      by (eqb (bad_edge b.kept e) 0)
      (λ g. let z = eqb-true _ _ g in
      by (edge_effect b sheets e).acknowledged
      (λ a. simp (g, a) (record { right_board = edge_right_replied b sheets room e r z; same_room = edge_room_stays b sheets room e r z; short = edge_short b sheets room e r z; past_reply = drop_at (edge_effect b sheets e).reply _ _ refl }))
      (λ a. simp (g, a) (run_right es (edge_effect b sheets e).board (n + 1) (edge_right b sheets room e r z))))
      (λ g. rw g (ran_still b sheets room (BadEdge (bad_edge b.kept e) n) r refl))

  -- ---- A whole recording.

  pub whole_right : (es : List Edge) (b : Board) (n : ℕ) → Right b sheets room → Right (whole_of b sheets n es).board sheets room
  whole_right es b n r =
      keeps_whole (edge_rule sheets) (λ (x : Board). Right x sheets room) (λ x e h g. edge_right x sheets room e h g) b n es r

  pub whole_short : (es : List Edge) (b : Board) (n : ℕ) → Right b sheets room → ShortReplies (whole_of b sheets n es).answers
  unfolding R.whole_of answering_if
  whole_short [] b n r = tt
  whole_short (e ∷ es) b n r =
      by (eqb (bad_edge b.kept e) 0)
      (λ g. let z = eqb-true _ _ g in
      let s = whole_short es (edge_effect b sheets e).board (n + 1) (edge_right b sheets room e r z) in
      by (edge_effect b sheets e).acknowledged (λ a. simp (g, a) (edge_short b sheets room e r z, s)) (λ a. simp (g, a) s))
      (λ g. rw g tt)
