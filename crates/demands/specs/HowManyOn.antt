-- C-05, "How many states are on": a record whose fields are the request's sentences. proofs/HowManyOn.antt shows that it holds.
use Rattle.std.specs.Prelude.{ℕ, ◌+◌, ◌*◌, ◌≤◌, ◌<◌, Bool, true, false, List, ◌∷◌, ◌↔◌, ◌≡◌, length, Result}
use Rattle.bits.specs.Bits.{Bytes}
use Rattle.refusals.specs.declared.Refusal.{Refusal}
use Rattle.line.specs.Wire.{Edge, edges_of}
use Rattle.command.specs.declared.Command.{Command}
use Rattle.command.specs.declared.Command.TheVariants.{ShortState, LongLow, LongHigh}
use Rattle.command.specs.Room.{InRoom}
use Rattle.drive.specs.Drive.{functions_on}
use Rattle.states.specs.States.{state_at, on_bit, states_on}
use Rattle.store.specs.Sheet.{Sheets}
use Rattle.board.specs.declared.record.Module.{Module}
use Rattle.board.specs.Board.{Board, board_of, fresh_module, with_states_on, module_possible, NumberTrue}
use Rattle.counts.specs.declared.Counts as Given
use Rattle.counts.specs.Counts.{Counts, Refused, On, counted_as, ShownPromise, CheckedPromise, refusal_of}
use Rattle.effects.specs.Effects.{effect_of}
use Rattle.reactions.specs.Reactions.{halfless}
use Rattle.effects.specs.Frames.{SetsStates, LongBroadcast, NumberMoved, SaysOne}
use Rattle.module.specs.Application.{Kept, Restart, RestartPromise, PostPromise, StatusPromise, WaitPromise}
use Rattle.module.specs.Bench.{zeros}
use Rattle.module.specs.Feed.{FeedOutcome, FeedPromise}
use Rattle.module.specs.Frames.{SomeEdge, taken_by}
use Rattle.module.specs.Whole.{Story, whole_of}
use Rattle.lines.specs.Taken.{Text, AfterBlock, heard_of, byte_effect, WritePromise}
use Rattle.demands.specs.Frames.{OnlyBy}
use Rattle.demands.specs.Pieces.{Good, LongRooms, Feeds}

-- the number has 16 bits: every such one is possible, so this is all that is known of it, and the record's type says it
abbrev pub Sixteen : Module → Type 0
Sixteen m = m.stateson < 65536

-- a long broadcast, on the board on which it acts
abbrev pub LongBroadcastOn : Board → Command → Type 0
LongBroadcastOn b c = LongBroadcast b.kept.half b.kept.halfbyte c

-- some edge of a recording completes one; some byte of those that have no times (the bench's) does
abbrev pub HasBroadcast : Sheets → Board → List Edge → Type 0
HasBroadcast = SomeEdge LongBroadcastOn

pub data HasBroadcastByte (sheets : Sheets) : Board → List ℕ → Type 0 where
  this_byte : (b : Board) (byte : ℕ) (bytes : List ℕ) → ((heard_of b byte).packet.length ≡ 0 → ⊥)
      → SaysOne (heard_of b byte).packet (LongBroadcastOn b) → HasBroadcastByte sheets b (byte ∷ bytes)
  later_byte : (b : Board) (byte : ℕ) (bytes : List ℕ) → HasBroadcastByte sheets (byte_effect b sheets byte).board bytes
      → HasBroadcastByte sheets b (byte ∷ bytes)

-- the number of a board is true of its states
abbrev pub IsTrue : Board → Type 0
IsTrue b = NumberTrue b.kept b.states

-- the board that a call of `lines::write` leaves
abbrev pub left_by : AfterBlock → Board
left_by l = board_of l.given.kept l.states l.store

-- the board after a long pair
abbrev pub after_pair : Board → Sheets → ℕ → ℕ → Bool → Board
after_pair b sheets low high on = (effect_of (effect_of b sheets (LongLow low on)).board sheets (LongHigh high)).board

-- THE ROWS of the two entries
pub data ShownRow (m : Module) : ℕ → Counts → Type 0 where
  shown_12 : module_possible m ≡ false → ShownRow m 12 (Refused 12)
  shown_given : module_possible m ≡ true → ShownRow m 0 (On m.stateson (functions_on m.drive))

pub data CheckRow (m : Module) (states : List ℕ) : ℕ → Counts → Type 0 where
  check_12 : module_possible m ≡ false → CheckRow m states 12 (Refused 12)
  -- "states not .. 4,096 bytes"
  check_4 : module_possible m ≡ true → (length states ≡ 4096 → ⊥) → CheckRow m states 4 (Refused 4)
  -- "a record whose number disagrees with the lent states is refused with 12 by that entry only, after 4"
  check_number : module_possible m ≡ true → length states ≡ 4096 → (NumberTrue m states → ⊥) → CheckRow m states 12 (Refused 12)
  check_given : module_possible m ≡ true → length states ≡ 4096 → NumberTrue m states
      → CheckRow m states 0 (On (states_on states) (functions_on m.drive))

pub record C05 : Type 0 where
  -- "every other change moves it by its difference modulo 65,536", whatever it was: each command that is no long broadcast; each recording,
  -- and each call of the feed, of any record and buffers, in which no edge completes one; bytes without times, likewise
  pub command_moves : (b : Board) (sheets : Sheets) (c : Command) → Good b sheets → Sixteen b.kept → InRoom c
      → (LongBroadcastOn b c → ⊥) → NumberMoved b (effect_of b sheets c).board
  pub whole_moves : (b : Board) (sheets : Sheets) (es : List Edge) → Good b sheets → Sixteen b.kept
      → (HasBroadcast sheets b es → ⊥) → NumberMoved b (whole_of b sheets 0 es).board
  pub feed_moves : (b : Board) (sheets : Sheets) (room times levels : List ℕ) (o : FeedOutcome) → FeedPromise b sheets room times levels o
      → Sixteen b.kept → (HasBroadcast sheets b (taken_by o (edges_of times levels)) → ⊥) → NumberMoved b o.board
  pub write_moves : (b : Board) (sheets : Sheets) (room out bytes : List ℕ) (l : AfterBlock) → Bytes bytes
      → WritePromise b sheets room out bytes l → Sixteen b.kept → (HasBroadcastByte sheets b bytes → ⊥) → NumberMoved b (left_by l)
  -- "a long broadcast or a restart sets the count": after one it is true, whatever it was; of `write`, which may refuse, where it tells of
  -- text
  pub broadcast_sets : (b : Board) (sheets : Sheets) (c : Command) → Good b sheets → LongBroadcastOn b c
      → IsTrue (effect_of b sheets c).board
  pub whole_sets : (b : Board) (sheets : Sheets) (es : List Edge) → Good b sheets → Sixteen b.kept → HasBroadcast sheets b es
      → IsTrue (whole_of b sheets 0 es).board
  pub feed_sets : (b : Board) (sheets : Sheets) (room times levels : List ℕ) (o : FeedOutcome) → FeedPromise b sheets room times levels o
      → Sixteen b.kept → HasBroadcast sheets b (taken_by o (edges_of times levels)) → IsTrue o.board
  pub write_sets : (b : Board) (sheets : Sheets) (room out bytes : List ℕ) (l : AfterBlock) (k : ℕ) → Bytes bytes
      → WritePromise b sheets room out bytes l → l.given.answer ≡ Text k → Sixteen b.kept → HasBroadcastByte sheets b bytes
      → IsTrue (left_by l)
  pub restart_sets : (m : Module) (states : List ℕ) (r : Restart) → RestartPromise m states r → r.given.refusal ≡ 0
      → (r.given.kept.stateson ≡ 0) × (states_on r.states ≡ 0)
  -- nothing but 0x6D, and 0x6F after its low half, changes it, and of the application's calls a restart alone
  pub stateson_only : (sheets : Sheets)
      → OnlyBy (λ (b : Board). b.kept.stateson) (λ (b : Board). SetsStates b.kept.half) sheets
  pub post_leaves : (m : Module) (message : List ℕ) (a : Kept) → PostPromise m message a → a.kept.stateson ≡ m.stateson
  pub status_leaves : (m : Module) (number value : ℕ) (a : Kept) → StatusPromise m number value a → a.kept.stateson ≡ m.stateson
  pub wait_leaves : (m : Module) (on : Bool) (a : Kept) → WaitPromise m on a → a.kept.stateson ≡ m.stateson
  -- "so a true count stays true": after each command, recording, call, and any pieces; a fresh module with all states off has a true one
  pub command_true : (b : Board) (sheets : Sheets) (c : Command) → Good b sheets → InRoom c → IsTrue b → IsTrue (effect_of b sheets c).board
  pub whole_true : (b : Board) (sheets : Sheets) (es : List Edge) → Good b sheets → IsTrue b → IsTrue (whole_of b sheets 0 es).board
  pub feed_true : (b : Board) (sheets : Sheets) (room times levels : List ℕ) (o : FeedOutcome) → FeedPromise b sheets room times levels o
      → IsTrue b → IsTrue o.board
  pub true_in_pieces : (b : Board) (sheets : Sheets) → Good b sheets → IsTrue b → (rooms : ℕ → List ℕ) → LongRooms rooms
      → (pieces : List (List Edge)) (spares : Bool) (s : Story) → Feeds spares sheets rooms b pieces s → IsTrue s.board
  pub write_true : (b : Board) (sheets : Sheets) (room out bytes : List ℕ) (l : AfterBlock) → Bytes bytes
      → WritePromise b sheets room out bytes l → IsTrue b → IsTrue (left_by l)
  pub restart_true : (m : Module) (states : List ℕ) (r : Restart) → RestartPromise m states r → NumberTrue m states
      → NumberTrue r.given.kept r.states
  pub fresh_true : NumberTrue fresh_module (zeros 4096)
  -- "Setting a state twice changes nothing.": a command for a state that is so already leaves the board but for a held half, by both forms;
  -- and any command for states, those for all too, given a second time leaves the board as it was
  pub short_already : (b : Board) (sheets : Sheets) → Sixteen b.kept → (number : ℕ) (on : Bool) → (number ≡ 0 → ⊥)
      → state_at b.states number ≡ on_bit on → (effect_of b sheets (ShortState number on)).board ≡ halfless b
  pub long_already : (b : Board) (sheets : Sheets) → Sixteen b.kept → (low high : ℕ) (on : Bool) → low < 128
      → (128 * high + low ≡ 0 → ⊥) → state_at b.states (128 * high + low) ≡ on_bit on → after_pair b sheets low high on ≡ halfless b
  pub short_twice : (b : Board) (sheets : Sheets) → Good b sheets → (number : ℕ) (on : Bool) → number < 128
      → let once = (effect_of b sheets (ShortState number on)).board in (effect_of once sheets (ShortState number on)).board ≡ once
  pub long_twice : (b : Board) (sheets : Sheets) → Good b sheets → (low high : ℕ) (on : Bool) → low < 128 → high < 256
      → let once = after_pair b sheets low high on in after_pair once sheets low high on ≡ once
  -- "refused with 12 by that entry only": whether a record is possible does not hang on the number, and every other entry that is handed one
  -- gives 12 exactly if it is not possible (demand 1)
  pub any_number : (m : Module) (stateson : ℕ) → module_possible (with_states_on m stateson) ≡ module_possible m
  -- the two entries: no two outcomes keep a promise, nor do two results of the code; each number exactly by its row. Record and states are
  -- only read
  pub shown_determined : (m : Module) (a q : Counts) → ShownPromise m a → ShownPromise m q → a ≡ q
  pub shown_decided : (m : Module) (a q : Result Given.Counts Refusal) → ShownPromise m (counted_as a) → ShownPromise m (counted_as q)
      → a ≡ q
  pub shown_rows : (m : Module) (k : ℕ) (a : Counts) → (ShownPromise m a × (refusal_of a ≡ k)) ↔ ShownRow m k a
  pub checked_determined : (m : Module) (states : List ℕ) (a q : Counts) → CheckedPromise m states a → CheckedPromise m states q → a ≡ q
  pub checked_decided : (m : Module) (states : List ℕ) (a q : Result Given.Counts Refusal) → CheckedPromise m states (counted_as a)
      → CheckedPromise m states (counted_as q) → a ≡ q
  pub checked_rows : (m : Module) (states : List ℕ) (k : ℕ) (a : Counts)
      → (CheckedPromise m states a × (refusal_of a ≡ k)) ↔ CheckRow m states k a
  -- "bit 0 of byte 0 left out": only the states 1 to 32767 are looked at
  pub by_states_alone : (m : Module) (states others : List ℕ) (a : Counts) → length others ≡ length states
      → ((n : ℕ) → 0 < n → n ≤ 32767 → state_at others n ≡ state_at states n) → CheckedPromise m states a → CheckedPromise m others a
  -- where the number is true, both entries say the same, unless the states' length is refused
  pub both_alike : (m : Module) (states : List ℕ) (a q : Counts) → length states ≡ 4096 → NumberTrue m states → ShownPromise m a
      → CheckedPromise m states q → a ≡ q
