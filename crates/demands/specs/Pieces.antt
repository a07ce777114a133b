-- A RECORDING IN PIECES, each fed on from where the feed stopped until it is used up. proofs/Demand3.antt shows that this comes to an
-- end, and that it gives what the whole recording gives.
use Rattle.std.specs.Prelude.{ℕ, ◌≤◌, List, map, Bool, ◌≡◌, length, take}
use Rattle.running.specs.Running.{at_end, at_bad, at_answer, at_once, Call, call}
use Rattle.running.specs.Pieces.{Caller, PiecesFed, AsTheWhole}
use Rattle.line.specs.Wire.{Edge}
use Rattle.store.specs.Sheet.{Sheets}
use Rattle.board.specs.Board.{Board, board_refusal}
use Rattle.module.specs.Feed.{Answer, Refused, BadEdge, Silent, Acknowledged, FeedOutcome, FeedPromise}
use Rattle.module.specs.Whole.{edge_rule, Story}

-- a possible record with good buffers: whatever reply room of 84 bytes or more is lent, none of 12, 4, 5 is given
pub record Good (b : Board) (sheets : Sheets) : Type 0 where
  pub passes : (room : List ℕ) → 84 ≤ length room → board_refusal b sheets room ≡ 0

-- the reply rooms that the calls lend, the first to call 0: of any content, each of 84 bytes or more
abbrev pub LongRooms : (ℕ → List ℕ) → Type 0
LongRooms rooms = (call : ℕ) → 84 ≤ length (rooms call)

-- what a call is handed for edges: their times and their levels
abbrev pub times_in : List Edge → List ℕ
times_in es = map (λ (e : Edge). e.time) es

abbrev pub levels_in : List Edge → List ℕ
levels_in es = map (λ (e : Edge). e.level) es

-- what an outcome says of a call: how many edges it took, and why it stopped; a reply is the front of the room
unfoldable pub answer_says : Board → List ℕ → Answer → Call Board (List ℕ)
answer_says b room (Refused number) = call b 0 (at_once number)
answer_says b room (BadEdge number edges) = call b edges (at_bad number)
answer_says b room (Silent edges) = call b edges at_end
answer_says b room (Acknowledged edges bytes) = call b edges (at_answer (take bytes room))

abbrev pub call_says : FeedOutcome → Call Board (List ℕ)
call_says o = answer_says o.board o.room o.answer

-- THE FEED'S CALLS, call number k with room number k: of each nothing is known but the feed's promise. What it is to feed pieces
-- by calls, and what the demand asks of a way of cutting, is said for any calls: `PiecesFed` and `AsTheWhole` of the crate `running`.
abbrev pub feeding : Sheets → (ℕ → List ℕ) → Caller Board Edge (List ℕ) FeedOutcome
feeding sheets rooms =
    record { promise = λ b k piece o. FeedPromise b sheets (rooms k) (times_in piece) (levels_in piece) o; says = call_says }

-- pieces fed from the first call on, and the story that comes of it
abbrev pub Feeds : Bool → Sheets → (ℕ → List ℕ) → Board → List (List Edge) → Story → Type 0
Feeds spares sheets rooms b pieces s = PiecesFed (feeding sheets rooms) spares b 0 0 pieces s

-- fed so, the pieces give what the whole recording gives
abbrev pub FedAsTheWhole : Bool → Board → Sheets → (ℕ → List ℕ) → List Edge → List (List Edge) → Type 0
FedAsTheWhole spares b sheets rooms recording pieces = AsTheWhole (edge_rule sheets) (feeding sheets rooms) spares b recording pieces
