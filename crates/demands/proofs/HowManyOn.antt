-- C-05 HOLDS: what specs/HowManyOn.antt says, sentence by sentence.
use Prim.Native.Nat.{ℕ, zero, suc, ◌+◌, ◌*◌, ◌≤◌, ◌<◌}
use mathlib.Core.Bool.{Bool, true, false}
use mathlib.Core.List.{List, [], ◌∷◌, flatten}
use mathlib.Core.Logic.{◌↔◌, ◌⊎◌, inl, inr, ⊎_elim}
use mathlib.Core.Path.{◌≡◌, refl, sym, ◌∙◌, ap, ap₂, subst}
use native.Mathlib.Omega.{arith}
use lib.Dec.{eqb, lit<}
use lib.ListN.{length}
use borrow.Author.Tests.{eq-eqb, ne_eqb, eqb-true, eqb-false}
use Rattle.std.specs.Prelude.{Result}
use Rattle.bits.specs.Bits.{Bytes, part_of, bit_at}
use Rattle.bits.proofs.Parts.{part_lt}
use Rattle.bits.proofs.Tests.{by}
use Rattle.ones.proofs.Laws.{same_ones}
use Rattle.refusals.specs.declared.Refusal.{Refusal}
use Rattle.line.specs.Line.{Heard, receiver_possible}
use Rattle.line.specs.Wire.{Edge, edges_of}
use Rattle.line.proofs.Edges.{good_level, good_time}
use Rattle.command.specs.declared.Command.TheVariants.{ShortState}
use Rattle.command.specs.Saying.{state_byte}
use Rattle.command.proofs.Fields.{number_read, on_read}
use Rattle.drive.specs.Drive.{functions_on}
use Rattle.states.specs.States.{state_at, on_bit, length_holds, states_on, moved_by, cleared}
use Rattle.states.proofs.Counted.{on_at_most, none_are_on, moved_twice, short_number_twice, long_number_twice, short_same, long_same, short_number_same, long_number_same}
use Rattle.states.proofs.Laws.{set_twice}
use Rattle.store.specs.Sheet.{Sheets}
use Rattle.board.specs.declared.record.Module.{Module}
use Rattle.board.specs.Board.{Board, board_of, kind_of, holds_half, after_gap, fresh_module, module_possible, restarted_of, first_broken, with_states_on, without_half}
use Rattle.board.proofs.Checked.{Right, right, states_long}
use Rattle.board.proofs.Parts.{apart, gap_possible}
use Rattle.counts.specs.declared.Counts as Given
use Rattle.counts.specs.Counts.{Counts, On, counted_as, shown_of, check_refusal, checked_as, checked_of, ShownPromise, CheckedPromise, refusal_of}
use Rattle.counts.proofs.Told.{told_once}
use Rattle.reactions.specs.Reactions.{with_kept, receiving, halfless, second_half}
use Rattle.effects.specs.Effects.{effect_of, meaning_effect, packet_effect}
use Rattle.effects.specs.Frames.{LongBroadcast, NumberMoved, SaysOne}
use Rattle.effects.proofs.Counted.{still_moved, command_counted, moved_true, broadcast_true, packet_counted}
use Rattle.effects.proofs.LastByte.{LastByte}
use Rattle.module.specs.Application.{Restart, RestartPromise}
use Rattle.module.specs.Bench.{zeros}
use Rattle.module.specs.Edge.{bad_edge, heard_at, board_at, heard_effect, edge_effect}
use Rattle.module.specs.Feed.{FeedOutcome, FeedPromise, feed_of}
use Rattle.module.specs.Frames.{Completes, this_edge, later_edge, taken_by}
use Rattle.module.specs.Whole.{whole_of}
use Rattle.module.proofs.Edges.{byte_last, bit_last_byte, edge_right}
use Rattle.bank.specs.Reply.{at_front}
use Rattle.lines.specs.Taken.{AfterBlock, heard_of, byte_effect, lined, taken_of, WritePromise, Text}
use Rattle.lines.proofs.Blocks.{Ready, taken_ready}
use Rattle.module.proofs.Frames.{gap_stateson, by_whole, by_feed}
use Rattle.demands.specs.Pieces.{Good}
use Rattle.demands.specs.HowManyOn.{Sixteen, LongBroadcastOn, HasBroadcast, HasBroadcastByte, this_byte, later_byte, IsTrue, left_by, after_pair, ShownRow, shown_12, shown_given, CheckRow, check_12, check_4, check_number, check_given, C05}
use Rattle.demands.proofs.Demand3.{demand_3}
use Rattle.demands.proofs.Frames as F
use Rattle.demands.proofs.PauseMeasured.{lined_board}
use Rattle.demands.proofs.Refusals as R
use Rattle.demands.proofs.Staying as S
use Rattle.demands.specs.Rows.{RestartRow, restart_12, restart_4, restart_done, WriteRow, write_board, write_held, write_short, write_done}
use Rattle.demands.proofs.Feeding.{good_passes, good_states}

-- ---- one edge, and one byte

-- a true number has 16 bits
true_small : (b : Board) → IsTrue b → Sixteen b.kept
true_small b is = rw is (omega (arith, on_at_most b.states))

-- two moves are one
then_moved : (b middle after : Board) → NumberMoved b middle → NumberMoved middle after → NumberMoved b after
then_moved b middle after one two =
    two ∙ ap (λ (n : ℕ). moved_by n (states_on middle.states) (states_on after.states)) one
    ∙ moved_twice b.kept.stateson (states_on b.states) (states_on middle.states) (states_on after.states)
    (omega (arith, on_at_most b.states)) (omega (arith, on_at_most middle.states))

-- what was heard: nothing yet, or a packet, which moves the number or says a long broadcast
module _ (b : Board) (sheets : Sheets) (h : Heard) (long : length b.states ≡ 4096) (small : Sixteen b.kept) (l : LastByte h.packet) where
  abbrev Said : Type 0
  Said = SaysOne h.packet (LongBroadcastOn b)

  abbrev HeardCounted : Board → Type 0
  HeardCounted a = (NumberMoved b a ⊎ ((eqb h.packet.length 0 ≡ false) × Said × IsTrue a)) × Sixteen a.kept

  heard_counted : HeardCounted (heard_effect b sheets h).board
  unfolding heard_effect
  heard_counted =
      by (eqb h.packet.length 0) (λ z. rw z (inl (still_moved b (receiving b h.receiver) small refl refl), small))
      (λ z. let p = packet_counted (receiving b h.receiver) sheets long small h.packet l in
      rw z (⊎_elim inl (λ set. inr (refl, set.0, set.1)) p.0, p.1))

  -- and one that says it sets the number
  heard_sets : (h.packet.length ≡ 0 → ⊥) → Said → IsTrue (heard_effect b sheets h).board
  unfolding heard_effect packet_effect meaning_effect
  heard_sets whole one =
      rw (ne_eqb _ 0 whole, one.says) (broadcast_true (receiving b h.receiver) sheets long _ _ one.command one.kind refl refl)

module _ (b : Board) (sheets : Sheets) (room : List ℕ) (e : Edge) (r : Right b sheets room) (g : bad_edge b.kept e ≡ 0) (small : Sixteen b.kept) where
  abbrev gone : Module
  gone = after_gap b.kept e.time

  gone_heard : receiver_possible gone.receiver ≡ true
  gone_heard = (apart gone (gap_possible b.kept e.time r.possible (good_time b.kept.receiver e.time e.level g))).heard

  four_thousand : length b.states ≡ 4096
  four_thousand = states_long b.states b.store sheets room r.buffers

  -- an edge that completes a long broadcast
  completes : eqb (heard_at b e).packet.length 0 ≡ false → SaysOne (heard_at b e).packet (LongBroadcast gone.half gone.halfbyte)
      → Completes LongBroadcastOn b sheets e
  unfolding edge_effect heard_effect packet_effect meaning_effect
  completes z one =
      record { command = one.command; says = one.says; acts = rw z (ap (meaning_effect (board_at b e) sheets) one.says); kind = one.kind }

  abbrev EdgeCounted : Board → Type 0
  EdgeCounted a = (NumberMoved b a ⊎ (Completes LongBroadcastOn b sheets e × IsTrue a)) × Sixteen a.kept

  edge_counted : EdgeCounted (edge_effect b sheets e).board
  unfolding edge_effect
  edge_counted =
      let l : e.level < 2 = omega (arith, good_level b.kept.receiver e.time e.level g) in
      let c =
      heard_counted (with_kept b gone) sheets (heard_at b e) four_thousand (rw (gap_stateson b.kept e.time) small)
      (bit_last_byte gone.receiver e.level gone_heard l) in (
        ⊎_elim
            (λ moved. inl (moved ∙ ap (λ (n : ℕ). moved_by n (states_on b.states) (states_on (edge_effect b sheets e).board.states)) (gap_stateson b.kept e.time)))
            (λ set. inr (completes set.0 set.1, set.2)) c.0,
        c.1,
      )

  edge_sets : Completes LongBroadcastOn b sheets e → IsTrue (edge_effect b sheets e).board
  edge_sets c = rw c.acts (broadcast_true (board_at b e) sheets four_thousand _ _ c.command c.kind refl refl)

-- ---- recordings and calls

-- moved, or set; and set where there is a long broadcast
abbrev Counted : Sheets → Board → List Edge → Board → Type 0
Counted sheets b es after = (NumberMoved b after ⊎ (HasBroadcast sheets b es × IsTrue after)) × (HasBroadcast sheets b es → IsTrue after)

some_edges : (sheets : Sheets) (b : Board) (es : List Edge) → HasBroadcast sheets b es → length es ≡ 0 → ⊥
some_edges sheets b es (this_edge b' e es' g c) none = omega arith
some_edges sheets b es (later_edge b' e es' g s) none = omega arith

module _ (sheets : Sheets) (room : List ℕ) where
  -- what each edge finds and leaves
  abbrev Found : Board → Type 0
  Found b = Right b sheets room × Sixteen b.kept

  found_kept : (b : Board) (e : Edge) → Found b → bad_edge b.kept e ≡ 0 → Found (edge_effect b sheets e).board
  found_kept b e f g = (edge_right b sheets room e f.0 g, (edge_counted b sheets room e f.0 g f.1).1)

  none_counted : (b : Board) → Sixteen b.kept → Counted sheets b [] b
  none_counted b small = (inl (still_moved b b small refl refl), λ has. absurd (some_edges sheets b [] has refl))

  -- a bad edge completes nothing, and none behind it is taken
  bad_first : (b : Board) (e : Edge) (es : List Edge) → (bad_edge b.kept e ≡ 0 → ⊥) → HasBroadcast sheets b (e ∷ es) → ⊥
  bad_first b e es bad (this_edge b' e' es' g c) = bad g
  bad_first b e es bad (later_edge b' e' es' g s) = bad g

  ends_counted : (b : Board) (e : Edge) (es : List Edge) → Found b → (bad_edge b.kept e ≡ 0 → ⊥) → Counted sheets b (e ∷ es) b
  ends_counted b e es f bad = (inl (still_moved b b f.1 refl refl), λ has. absurd (bad_first b e es bad has))

  module _ (b : Board) (e : Edge) (es : List Edge) (after : Board) (f : Found b) (g : bad_edge b.kept e ≡ 0)
      (rest : Counted sheets (edge_effect b sheets e).board es after) where
    abbrev next : Board
    next = (edge_effect b sheets e).board

    -- once it is true, the rest leaves it so
    still_true : IsTrue next → IsTrue after
    still_true is = ⊎_elim (moved_true next after is) (λ set. set.1) rest.0

    has_set : HasBroadcast sheets b (e ∷ es) → IsTrue after
    has_set (this_edge b' e' es' g' c) = still_true (edge_sets b sheets room e f.0 g f.1 c)
    has_set (later_edge b' e' es' g' s) = rest.1 s

    more_counted : Counted sheets b (e ∷ es) after
    more_counted = (
      ⊎_elim
          (λ moved. ⊎_elim (λ on. inl (then_moved b next after moved on)) (λ set. inr (later_edge b e es g set.0, set.1)) rest.0)
          (λ set. inr (this_edge b e es g set.0, still_true set.1)) (edge_counted b sheets room e f.0 g f.1).0,
      has_set,
    )

  counted_whole : (b : Board) (es : List Edge) → Found b → Counted sheets b es (whole_of b sheets 0 es).board
  counted_whole b es f = by_whole sheets Found (Counted sheets) found_kept (λ b f. none_counted b f.1) ends_counted more_counted es b 0 f

  counted_feed : (b : Board) (times levels : List ℕ) → Sixteen b.kept
      → Counted sheets b (taken_by (feed_of b sheets room times levels) (edges_of times levels)) (feed_of b sheets room times levels).board
  counted_feed b times levels small =
      by_feed sheets Found (Counted sheets) found_kept (λ b f. none_counted b f.1) ends_counted more_counted room times levels b
      (λ h. (right b sheets room h, small)) (none_counted b small)

module _ (b : Board) (sheets : Sheets) (es : List Edge) (good : Good b sheets) (small : Sixteen b.kept) where
  whole_counted : Counted sheets b es (whole_of b sheets 0 es).board
  whole_counted = counted_whole sheets (zeros 84) b es (good_passes good (zeros 84) (omega arith), small)

module _ (b : Board) (sheets : Sheets) (room times levels : List ℕ) (o : FeedOutcome) (p : FeedPromise b sheets room times levels o)
    (small : Sixteen b.kept) where
  feed_counted : Counted sheets b (taken_by o (edges_of times levels)) o.board
  unfolding FeedPromise
  feed_counted = rw p (counted_feed sheets room b times levels small)

-- moved where there is no long broadcast; and a true number is true
unbroken : {M S T : Type 0} → M ⊎ (S × T) → (S → ⊥) → M
unbroken c none = ⊎_elim (λ moved. moved) (λ set. absurd (none set.0)) c

stays_true : {S : Type 0} (b after : Board) → IsTrue b → NumberMoved b after ⊎ (S × IsTrue after) → IsTrue after
stays_true b after is = ⊎_elim (moved_true b after is) (λ set. set.1)

whole_true : (b : Board) (sheets : Sheets) (es : List Edge) → Good b sheets → IsTrue b → IsTrue (whole_of b sheets 0 es).board
whole_true b sheets es good is = stays_true b (whole_of b sheets 0 es).board is (whole_counted b sheets es good (true_small b is)).0

-- ---- bytes without times

one_byte : (x : ℕ) → x < 256 → Bytes (x ∷ [])
one_byte x small zero = small
one_byte x small (suc i) = omega arith

byte_ready : (b : Board) (sheets : Sheets) (room : List ℕ) (x : ℕ) → Ready b sheets room → x < 256
    → Ready (byte_effect b sheets x).board sheets (at_front (byte_effect b sheets x).reply room)
unfolding taken_of lined
byte_ready b sheets room x g small =
    let k = (taken_ready (x ∷ []) b sheets room g (one_byte x small)).ready in
    by (eqb (heard_of b x).packet.length 0) (λ z. rw z at k) (λ z. rw z at k)

abbrev CountedBytes : Sheets → Board → List ℕ → Board → Type 0
CountedBytes sheets b xs after =
    (NumberMoved b after ⊎ (HasBroadcastByte sheets b xs × IsTrue after)) × (HasBroadcastByte sheets b xs → IsTrue after)

some_bytes : (sheets : Sheets) (b : Board) (xs : List ℕ) → HasBroadcastByte sheets b xs → length xs ≡ 0 → ⊥
some_bytes sheets b xs (this_byte b' x xs' whole one) none = omega arith
some_bytes sheets b xs (later_byte b' x xs' s) none = omega arith

-- a byte more before others
module _ (b : Board) (sheets : Sheets) (x : ℕ) (xs : List ℕ) (after : Board)
    (first : NumberMoved b (byte_effect b sheets x).board ⊎ (HasBroadcastByte sheets b (x ∷ xs) × IsTrue (byte_effect b sheets x).board))
    (sets : ((heard_of b x).packet.length ≡ 0 → ⊥) → SaysOne (heard_of b x).packet (LongBroadcastOn b) → IsTrue (byte_effect b sheets x).board)
    (rest : CountedBytes sheets (byte_effect b sheets x).board xs after) where
  abbrev next_board : Board
  next_board = (byte_effect b sheets x).board

  true_after : IsTrue next_board → IsTrue after
  true_after is = ⊎_elim (moved_true next_board after is) (λ set. set.1) rest.0

  byte_set : HasBroadcastByte sheets b (x ∷ xs) → IsTrue after
  byte_set (this_byte b' x' xs' whole one) = true_after (sets whole one)
  byte_set (later_byte b' x' xs' s) = rest.1 s

  byte_more_counted : CountedBytes sheets b (x ∷ xs) after
  byte_more_counted = (
    ⊎_elim
        (λ moved. ⊎_elim (λ on. inl (then_moved b next_board after moved on)) (λ set. inr (later_byte b x xs set.0, set.1)) rest.0)
        (λ set. inr (set.0, true_after set.1)) first,
    byte_set,
  )

bytes_counted : (xs : List ℕ) (b : Board) (sheets : Sheets) (room : List ℕ) → Bytes xs → Ready b sheets room → Sixteen b.kept
    → CountedBytes sheets b xs (taken_of b sheets room xs).board
unfolding taken_of
bytes_counted [] b sheets room bytes g small = (inl (still_moved b b small refl refl), λ has. absurd (some_bytes sheets b [] has refl))
bytes_counted (x ∷ xs) b sheets room bytes g small =
    let e = byte_effect b sheets x in
    let long = states_long b.states b.store sheets room g.right_board.buffers in
    let c = heard_counted b sheets (heard_of b x) long small (byte_last b.kept.receiver x (bytes 0)) in
    let later = bytes_counted xs e.board sheets (at_front e.reply room) (λ i. bytes (suc i)) (byte_ready b sheets room x g (bytes 0)) c.1 in
    rw (lined_board (heard_of b x).packet e (taken_of e.board sheets (at_front e.reply room) xs))
    (byte_more_counted b sheets x xs (taken_of e.board sheets (at_front e.reply room) xs).board
    (⊎_elim inl (λ set. inr (this_byte b x xs (eqb-false _ 0 set.0) set.1, set.2)) c.0)
    (λ whole one. heard_sets b sheets (heard_of b x) long small (byte_last b.kept.receiver x (bytes 0)) whole one) later)

-- a call of `write` takes nothing and tells of no text, or takes all
abbrev Untold : Board → AfterBlock → Type 0
Untold b l = ((k : ℕ) → l.given.answer ≡ Text k → ⊥) × (left_by l ≡ b)

write_counted : (b : Board) (sheets : Sheets) (room out bytes : List ℕ) (l : AfterBlock) → Bytes bytes → WritePromise b sheets room out bytes l
    → Sixteen b.kept → Untold b l ⊎ CountedBytes sheets b bytes (left_by l)
write_counted b sheets room out bytes l small p is = each l ((R.write_rows_lem b sheets room out bytes l).0 p)
  where
    each : (q : AfterBlock) → WriteRow b sheets room out bytes q → Untold b q ⊎ CountedBytes sheets b bytes (left_by q)
    each q (write_board k row) = inl (λ n e. let z : ◌≡◌ {A = ℕ} 0 1 = cc in omega arith, refl)
    each q (write_held none n) = inl (λ n e. let z : ◌≡◌ {A = ℕ} 0 1 = cc in omega arith, refl)
    each q (write_short none n s) = inl (λ n e. let z : ◌≡◌ {A = ℕ} 0 1 = cc in omega arith, refl)
    each q (write_done none n s) = inr (bytes_counted bytes b sheets room small (record { right_board = right b sheets room none; no_bits = n }) is)

write_moves : (b : Board) (sheets : Sheets) (room out bytes : List ℕ) (l : AfterBlock) → Bytes bytes → WritePromise b sheets room out bytes l
    → Sixteen b.kept → (HasBroadcastByte sheets b bytes → ⊥) → NumberMoved b (left_by l)
write_moves b sheets room out bytes l small p is none =
    ⊎_elim (λ same. subst (λ (x : Board). NumberMoved b x) (sym same.1) (still_moved b b is refl refl)) (λ c. unbroken c.0 none) (write_counted b sheets room out bytes l small p is)

write_true : (b : Board) (sheets : Sheets) (room out bytes : List ℕ) (l : AfterBlock) → Bytes bytes → WritePromise b sheets room out bytes l
    → IsTrue b → IsTrue (left_by l)
write_true b sheets room out bytes l small p is =
    ⊎_elim (λ same. subst (λ (x : Board). IsTrue x) (sym same.1) is) (λ c. stays_true b (left_by l) is c.0) (write_counted b sheets room out bytes l small p (true_small b is))

write_sets : (b : Board) (sheets : Sheets) (room out bytes : List ℕ) (l : AfterBlock) (k : ℕ) → Bytes bytes → WritePromise b sheets room out bytes l
    → l.given.answer ≡ Text k → Sixteen b.kept → HasBroadcastByte sheets b bytes → IsTrue (left_by l)
write_sets b sheets room out bytes l k small p told is has =
    ⊎_elim (λ none. absurd (none.0 k told)) (λ c. c.1 has) (write_counted b sheets room out bytes l small p is)

-- ---- commands for a state that is so already, and commands given twice

short_already : (b : Board) (sheets : Sheets) → Sixteen b.kept → (number : ℕ) (on : Bool) → (number ≡ 0 → ⊥) → state_at b.states number ≡ on_bit on
    → (effect_of b sheets (ShortState number on)).board ≡ halfless b
unfolding effect_of
short_already b sheets small number on named so =
    ap₂ (λ (n : ℕ) (s : List ℕ). board_of (with_states_on (without_half b.kept) n) s b.store)
    (short_number_same b.states number on named so b.kept.stateson small) (short_same b.states number on named so)

long_already : (b : Board) (sheets : Sheets) → Sixteen b.kept → (low high : ℕ) (on : Bool) → low < 128 → (128 * high + low ≡ 0 → ⊥)
    → state_at b.states (128 * high + low) ≡ on_bit on → after_pair b sheets low high on ≡ halfless b
unfolding effect_of second_half holds_half kind_of
long_already b sheets small low high on few named so =
    let number = 128 * high + low in
    simp (number_read low on few, on_read low on few)
    (ap₂ (λ (n : ℕ) (s : List ℕ). board_of (with_states_on (without_half b.kept) n) s b.store)
    (long_number_same b.states number on named so b.kept.stateson small) (long_same b.states number on named so))

short_twice : (b : Board) (sheets : Sheets) → Good b sheets → (number : ℕ) (on : Bool) → number < 128
    → let once = (effect_of b sheets (ShortState number on)).board in (effect_of once sheets (ShortState number on)).board ≡ once
unfolding effect_of
short_twice b sheets good number on few =
    let long = good_states good in
    ap₂ (λ (n : ℕ) (s : List ℕ). board_of (with_states_on (without_half b.kept) n) s b.store)
    (short_number_twice b.states long number on b.kept.stateson few)
    (set_twice 16 b.states number on (lit< tt) (omega arith) (omega arith))

long_twice : (b : Board) (sheets : Sheets) → Good b sheets → (low high : ℕ) (on : Bool) → low < 128 → high < 256
    → let once = after_pair b sheets low high on in after_pair once sheets low high on ≡ once
unfolding effect_of second_half holds_half kind_of
long_twice b sheets good low high on few byte =
    let long = good_states good in
    let number = 128 * high + part_of (state_byte low on) 0 7 in
    let is-on = eqb (bit_at (state_byte low on) 7) 1 in
    let small : number < 32768 = omega (arith, part_lt (state_byte low on) 0 7) in
    ap₂ (λ (n : ℕ) (s : List ℕ). board_of (with_states_on (without_half b.kept) n) s b.store)
    (long_number_twice b.states long number is-on b.kept.stateson small)
    (set_twice 4096 b.states number is-on (lit< tt) (omega arith) (omega arith))

-- ---- a restart, and a fresh module

restarted_none : (m : Module) → (restarted_of m).stateson ≡ 0
unfolding restarted_of
restarted_none m = refl

restart_sets : (m : Module) (states : List ℕ) (r : Restart) → RestartPromise m states r → r.given.refusal ≡ 0
    → (r.given.kept.stateson ≡ 0) × (states_on r.states ≡ 0)
restart_sets m states r p h = done 0 r (R.row_of_restart m states r p 0 h) refl
  where
    done : (k : ℕ) (q : Restart) → RestartRow m states k q → k ≡ 0 → (q.given.kept.stateson ≡ 0) × (states_on q.states ≡ 0)
    done k q (restart_12 i) z = let w : ⊥ = omega arith in absurd w
    done k q (restart_4 i l) z = let w : ⊥ = omega arith in absurd w
    done k q (restart_done i l) z = (restarted_none m, none_are_on)

restart_true : (m : Module) (states : List ℕ) (r : Restart) → RestartPromise m states r → m.stateson ≡ states_on states
    → r.given.kept.stateson ≡ states_on r.states
restart_true m states r p is = each r.given.refusal r (R.row_of_restart m states r p r.given.refusal refl)
  where
    each : (k : ℕ) (q : Restart) → RestartRow m states k q → q.given.kept.stateson ≡ states_on q.states
    each k q (restart_12 i) = is
    each k q (restart_4 i l) = is
    each k q (restart_done i l) = restarted_none m ∙ sym none_are_on

fresh_true : fresh_module.stateson ≡ states_on (zeros 4096)
unfolding cleared
fresh_true = sym none_are_on

-- ---- the two entries

any_number : (m : Module) (stateson : ℕ) → module_possible (with_states_on m stateson) ≡ module_possible m
unfolding module_possible
any_number m stateson = refl

shown_determined : (m : Module) (a q : Counts) → ShownPromise m a → ShownPromise m q → a ≡ q
unfolding ShownPromise
shown_determined m a q p c = p ∙ sym c

shown_decided : (m : Module) (a q : Result Given.Counts Refusal) → ShownPromise m (counted_as a) → ShownPromise m (counted_as q) → a ≡ q
shown_decided m a q p c = told_once a q (shown_determined m _ _ p c)

checked_determined : (m : Module) (states : List ℕ) (a q : Counts) → CheckedPromise m states a → CheckedPromise m states q → a ≡ q
unfolding CheckedPromise
checked_determined m states a q p c = p ∙ sym c

checked_decided : (m : Module) (states : List ℕ) (a q : Result Given.Counts Refusal) → CheckedPromise m states (counted_as a)
    → CheckedPromise m states (counted_as q) → a ≡ q
checked_decided m states a q p c = told_once a q (checked_determined m states _ _ p c)

module _ (m : Module) where
  shown_answer : ShownRow m (refusal_of (shown_of m)) (shown_of m)
  unfolding shown_of
  shown_answer = by (module_possible m) (λ p. simp p (shown_given p)) (λ p. simp p (shown_12 p))

  shown_back : (k : ℕ) (a : Counts) → ShownRow m k a → (a ≡ shown_of m) × (refusal_of a ≡ k)
  unfolding shown_of
  shown_back k a (shown_12 p) = (sym (simp p), refl)
  shown_back k a (shown_given p) = (sym (simp p), refl)

  shown_rows : (k : ℕ) (a : Counts) → (ShownPromise m a × (refusal_of a ≡ k)) ↔ ShownRow m k a
  unfolding ShownPromise
  shown_rows = R.both_ways (shown_of m) refusal_of (ShownRow m) shown_answer shown_back

module _ (m : Module) (states : List ℕ) where
  check_answer : CheckRow m states (refusal_of (checked_of m states)) (checked_of m states)
  unfolding checked_as check_refusal first_broken
  check_answer =
      by (module_possible m)
      (λ p. by (length_holds states)
      (λ l. by (eqb m.stateson (states_on states)) (λ n. simp (p, l, n) (check_given p (eqb-true _ _ l) (eqb-true _ _ n)))
      (λ n. simp (p, l, n) (check_number p (eqb-true _ _ l) (eqb-false _ _ n))))
      (λ l. simp (p, l) (check_4 p (eqb-false _ _ l))))
      (λ p. simp p (check_12 p))

  check_back : (k : ℕ) (a : Counts) → CheckRow m states k a → (a ≡ checked_of m states) × (refusal_of a ≡ k)
  unfolding checked_as check_refusal first_broken
  check_back k a (check_12 p) = (sym (simp p), refl)
  check_back k a (check_4 p l) = (sym (simp (p, ne_eqb (length states) 4096 l)), refl)
  check_back k a (check_number p l n) = (sym (simp (p, eq-eqb (length states) 4096 l, ne_eqb m.stateson (states_on states) n)), refl)
  check_back k a (check_given p l n) = (sym (simp (p, eq-eqb (length states) 4096 l, eq-eqb m.stateson (states_on states) n)), refl)

  checked_rows : (k : ℕ) (a : Counts) → (CheckedPromise m states a × (refusal_of a ≡ k)) ↔ CheckRow m states k a
  unfolding CheckedPromise
  checked_rows = R.both_ways (checked_of m states) refusal_of (CheckRow m states) check_answer check_back

-- the states 1 to 32767 alone
same_on : (states others : List ℕ) → ((n : ℕ) → 0 < n → n ≤ 32767 → state_at others n ≡ state_at states n) → states_on others ≡ states_on states
unfolding states_on
same_on states others same = same_ones (state_at states) (state_at others) 1 1 32767 (λ k h. same (1 + k) (omega arith) (omega arith))

by_states_alone : (m : Module) (states others : List ℕ) (a : Counts) → length others ≡ length states
    → ((n : ℕ) → 0 < n → n ≤ 32767 → state_at others n ≡ state_at states n) → CheckedPromise m states a → CheckedPromise m others a
unfolding CheckedPromise checked_as check_refusal
by_states_alone m states others a long same p = p ∙ sym (rw (long, same_on states others same))

both_alike : (m : Module) (states : List ℕ) (a q : Counts) → length states ≡ 4096 → m.stateson ≡ states_on states → ShownPromise m a
    → CheckedPromise m states q → a ≡ q
unfolding ShownPromise CheckedPromise shown_of checked_as check_refusal first_broken
both_alike m states a q long is p c =
    p
    ∙ by (module_possible m) (λ h. simp (h, eq-eqb (length states) 4096 long, eq-eqb m.stateson (states_on states) is) (ap (λ (n : ℕ). On n (functions_on m.drive)) is))
    (λ h. simp h) ∙ sym c

-- C-05 HOLDS
pub how_many_on : C05
how_many_on =
    record {
      command_moves = λ b sheets c good small fits none. unbroken (command_counted b sheets (good_states good) small c fits) none;
      whole_moves = λ b sheets es good small none. unbroken (whole_counted b sheets es good small).0 none;
      feed_moves = λ b sheets room times levels o p small none. unbroken (feed_counted b sheets room times levels o p small).0 none;
      write_moves = write_moves;
      broadcast_sets = λ b sheets c good broadcast. broadcast_true b sheets (good_states good) _ _ c broadcast refl refl;
      whole_sets = λ b sheets es good small has. (whole_counted b sheets es good small).1 has;
      feed_sets = λ b sheets room times levels o p small has. (feed_counted b sheets room times levels o p small).1 has;
      write_sets = write_sets;
      restart_sets = restart_sets;
      stateson_only = F.stateson_only;
      post_leaves = λ m message a p. S.post_keeps (λ k. k.stateson) (λ k d. refl) m message a p;
      status_leaves = λ m number value a p. S.status_keeps (λ k. k.stateson) (λ k d. refl) m number value a p;
      wait_leaves = λ m on a p. S.wait_keeps (λ k. k.stateson) (λ k t. refl) m on a p;
      command_true =
          λ b sheets c good fits is.
          stays_true b (effect_of b sheets c).board is (command_counted b sheets (good_states good) (true_small b is) c fits);
      whole_true = whole_true;
      feed_true =
          λ b sheets room times levels o p is. stays_true b o.board is (feed_counted b sheets room times levels o p (true_small b is)).0;
      true_in_pieces =
          λ b sheets good is rooms long pieces spares s fed.
          rw ((demand_3 spares good rooms long _ pieces refl).same s fed) (whole_true b sheets (flatten pieces) good is);
      write_true = write_true;
      restart_true = restart_true;
      fresh_true = fresh_true;
      short_already = short_already;
      long_already = long_already;
      short_twice = short_twice;
      long_twice = long_twice;
      any_number = any_number;
      shown_determined = shown_determined;
      shown_decided = shown_decided;
      shown_rows = shown_rows;
      checked_determined = checked_determined;
      checked_decided = checked_decided;
      checked_rows = checked_rows;
      by_states_alone = by_states_alone;
      both_alike = both_alike;
    }
