-- THE ROWS of document 01's table "Numbers given back when we say no", for each entry of the module: what must hold for a number to be
-- given, no earlier row of that entry holding, and what is then left. Number 0 stands for no refusal.
use Rattle.std.specs.Prelude.{ℕ, ◌+◌, ◌*◌, ◌≤◌, ◌<◌, List, [], ◌∷◌, ◌++◌, Bool, true, false, ◌⊎◌, ◌≡◌, length}
use Rattle.line.specs.Wire.{Edge, edges_of}
use Rattle.states.specs.States.{cleared}
use Rattle.store.specs.Sheet.{Sheets, sheets_hold}
use Rattle.cells.specs.Settings.{with_wait}
use Rattle.bank.specs.Reply.{at_front}
use Rattle.bidi.specs.Messages.{message_legal, status_legal}
use Rattle.bidi.specs.Bidi.{joined_by, with_queue, with_status}
use Rattle.board.specs.declared.record.Module.{Module}
use Rattle.board.specs.Board.{Board, module_possible, buffers_hold, board_refusal, restarted_of, with_settings, with_bidi}
use Rattle.module.specs.Application.{Kept, keeping, Restart, restart}
use Rattle.module.specs.Feed.{Refused, BadEdge, Silent, Acknowledged, FeedOutcome, ending}
use Rattle.module.specs.Edge.{bad_edge, edge_effect}
use Rattle.lines.specs.Taken.{Refused as Untaken, BitsHeld, NoRoomForText, AfterBlock, untaken, taken_of, wrote}

-- a number that is one of these
abbrev pub Among : ℕ → List ℕ → Type 0
Among k [] = ⊥
Among k (n ∷ ns) = (k ≡ n) ⊎ Among k ns

-- edges of which none is bad and none completes an acknowledged command, from a board to the board after them
pub data Quietly (sheets : Sheets) : Board → List Edge → Board → Type 0 where
  quiet_end : (b : Board) → Quietly sheets b [] b
  quiet_edge : (b : Board) (e : Edge) (es : List Edge) (after : Board) → bad_edge b.kept e ≡ 0
      → (edge_effect b sheets e).acknowledged ≡ false
      → Quietly sheets (edge_effect b sheets e).board es after → Quietly sheets b (e ∷ es) after

-- of these edges, such ones come before this one: it finds that board, and so many came before
pub record First (sheets : Sheets) (b : Board) (es : List Edge) (e : Edge) (at : Board) (count : ℕ) : Type 0 where
  pub before : List Edge
  pub after : List Edge
  pub split : es ≡ before ++ (e ∷ after)
  pub quiet : Quietly sheets b before at
  pub counted : count ≡ length before

-- record, buffers, sheets and list lengths give no cause
pub record Accepted (b : Board) (sheets : Sheets) (room times levels : List ℕ) : Type 0 where
  pub passes : board_refusal b sheets room ≡ 0
  pub lengths : length times ≡ length levels

-- the first edge of a recording that is bad, before any acknowledgement: its number, the board before it, the count of those before
pub record FirstBad (sheets : Sheets) (b : Board) (es : List Edge) (number : ℕ) (at : Board) (count : ℕ) : Type 0 where
  pub edge : Edge
  pub first : First sheets b es edge at count
  pub bad : bad_edge at.kept edge ≡ number

-- there is one, of this number
abbrev pub BadAt : Sheets → Board → List Edge → ℕ → Type 0
BadAt sheets b es number = (at : Board) × (count : ℕ) × FirstBad sheets b es number at count

-- 12, 4 and 5, which come first wherever a record and its buffers are handed over
pub data BoardRow (b : Board) (sheets : Sheets) (room : List ℕ) : ℕ → Type 0 where
  -- "record impossible"
  row_12 : module_possible b.kept ≡ false → BoardRow b sheets room 12
  -- "store, size sheet, states not 10,240, 256, 4,096 bytes; reply room under 84"; C-13: the fixed sheet not 40
  row_4 : module_possible b.kept ≡ true → buffers_hold b.states b.store sheets room ≡ false → BoardRow b sheets room 4
  -- "size sheet breaks its rule"; C-13: or byte 1 of the fixed sheet is not 11
  row_5 : module_possible b.kept ≡ true → buffers_hold b.states b.store sheets room ≡ true → sheets_hold sheets ≡ false
      → BoardRow b sheets room 5

-- `feed`: 12, 4, 5, 1 leave all; 2 and 3 leave what the edges before left, and give their count
pub data FeedRow (b : Board) (sheets : Sheets) (room times levels : List ℕ) : ℕ → FeedOutcome → Type 0 where
  -- 12, 4, 5
  feed_board : (k : ℕ) → BoardRow b sheets room k → FeedRow b sheets room times levels k (ending b room (Refused k))
  -- "list lengths differ"
  feed_1 : module_possible b.kept ≡ true → buffers_hold b.states b.store sheets room ≡ true → sheets_hold sheets ≡ true
      → (length times ≡ length levels → ⊥) → FeedRow b sheets room times levels 1 (ending b room (Refused 1))
  -- "level not 0 or 1", at the first edge that is bad, before any acknowledgement
  feed_2 : Accepted b sheets room times levels → (e : Edge) (at : Board) (count : ℕ) → First sheets b (edges_of times levels) e at count
      → 1 < e.level → FeedRow b sheets room times levels 2 (ending at room (BadEdge 2 count))
  -- "time below the edge before, since restart"
  feed_3 : Accepted b sheets room times levels → (e : Edge) (at : Board) (count : ℕ) → First sheets b (edges_of times levels) e at count
      → e.level ≤ 1 → e.time < at.kept.receiver.last → FeedRow b sheets room times levels 3 (ending at room (BadEdge 3 count))
  -- none: an acknowledged command, its reply at the front of the room, and the count of edges, that one included
  feed_stopped : Accepted b sheets room times levels → (e : Edge) (at : Board) (count : ℕ)
      → First sheets b (edges_of times levels) e at count
      → bad_edge at.kept e ≡ 0 → (edge_effect at sheets e).acknowledged ≡ true
      → FeedRow b sheets room times levels 0
      (ending (edge_effect at sheets e).board (at_front (edge_effect at sheets e).reply room)
      (Acknowledged (count + 1) (length (edge_effect at sheets e).reply)))
  -- none: all edges, and no answer
  feed_through : Accepted b sheets room times levels → (at : Board) → Quietly sheets b (edges_of times levels) at
      → FeedRow b sheets room times levels 0 (ending at room (Silent (length (edges_of times levels))))

-- `restart`
pub data RestartRow (m : Module) (states : List ℕ) : ℕ → Restart → Type 0 where
  restart_12 : module_possible m ≡ false → RestartRow m states 12 (restart (keeping 12 m) states)
  -- "states not .. 4,096 bytes"
  restart_4 : module_possible m ≡ true → (length states ≡ 4096 → ⊥) → RestartRow m states 4 (restart (keeping 4 m) states)
  restart_done : module_possible m ≡ true → length states ≡ 4096 → RestartRow m states 0 (restart (keeping 0 (restarted_of m)) cleared)

-- `post`
pub data PostRow (m : Module) (message : List ℕ) : ℕ → Kept → Type 0 where
  post_12 : module_possible m ≡ false → PostRow m message 12 (keeping 12 m)
  -- "posted message not legal"
  post_6 : module_possible m ≡ true → message_legal message ≡ false → PostRow m message 6 (keeping 6 m)
  -- "queue holds 8"
  post_7 : module_possible m ≡ true → message_legal message ≡ true → 8 ≤ m.bidi.queued → PostRow m message 7 (keeping 7 m)
  post_done : module_possible m ≡ true → message_legal message ≡ true → m.bidi.queued < 8
      → PostRow m message 0
      (keeping 0 (with_bidi m (with_queue m.bidi (m.bidi.queued + 1) (joined_by m.bidi.queue m.bidi.queued message))))

-- `set_status`
pub data StatusRow (m : Module) (number value : ℕ) : ℕ → Kept → Type 0 where
  status_12 : module_possible m ≡ false → StatusRow m number value 12 (keeping 12 m)
  -- "status number over 1, or status with a reserved bit"
  status_11 : module_possible m ≡ true → status_legal number value ≡ false → StatusRow m number value 11 (keeping 11 m)
  status_done : module_possible m ≡ true → status_legal number value ≡ true
      → StatusRow m number value 0 (keeping 0 (with_bidi m (with_status m.bidi number value).bidi))

-- `set_wait`
pub data WaitRow (m : Module) (on : Bool) : ℕ → Kept → Type 0 where
  wait_12 : module_possible m ≡ false → WaitRow m on 12 (keeping 12 m)
  wait_done : module_possible m ≡ true → WaitRow m on 0 (keeping 0 (with_settings m (with_wait m.settings on)))

-- `lines::write`: the table's 12, 4, 5, then its own two causes, which are no numbers of the paper; all of them leave all
pub data WriteRow (b : Board) (sheets : Sheets) (room out input : List ℕ) : AfterBlock → Type 0 where
  -- 12, 4, 5
  write_board : (k : ℕ) → BoardRow b sheets room k → WriteRow b sheets room out input (untaken b room out (Untaken k))
  -- the receiver holds bits
  write_held : board_refusal b sheets room ≡ 0 → (b.kept.receiver.count ≡ 0 → ⊥)
      → WriteRow b sheets room out input (untaken b room out BitsHeld)
  -- less than 128 bytes of room for each byte and two more
  write_short : board_refusal b sheets room ≡ 0 → b.kept.receiver.count ≡ 0 → length out < 128 * (length input + 2)
      → WriteRow b sheets room out input (untaken b room out NoRoomForText)
  -- all bytes are taken, their text stands at the front
  write_done : board_refusal b sheets room ≡ 0 → b.kept.receiver.count ≡ 0 → 128 * (length input + 2) ≤ length out
      → WriteRow b sheets room out input (wrote (taken_of b sheets room input) out)
