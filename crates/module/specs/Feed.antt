-- One call of the feed: edges to the first that completes an acknowledged command, or to the end.
use Rattle.std.specs.Prelude.{ℕ, List, Bool, true, false, cond, ◌≡◌, eqb, length, Result, Ok, Err}
use Rattle.refusals.specs.declared.Refusal.{Refusal}
use Rattle.refusals.specs.Numbers.{paper_number}
use Rattle.running.specs.Running.{CallEnd, at_end, at_bad, at_answer, at_once, Call, call_of}
use Rattle.store.specs.Sheet.{Sheets}
use Rattle.bank.specs.Reply.{at_front}
use Rattle.line.specs.Wire.{Edge, edges_of}
use Rattle.board.specs.declared.record.Module.{Module}
use Rattle.board.specs.Board.{Board, board_of, board_refusal}
use Rattle.module.specs.declared.feeding.Answer as code
use Rattle.module.specs.declared.feeding.Answer.TheVariants as case
use Rattle.module.specs.declared.feeding.Fed.{Fed}
use Rattle.module.specs.Whole.{edge_rule}

-- an answer: 12, 4, 5 or 1 of the whole call; 2 or 3 of an edge, and how many were taken before it; all edges taken, so many, and nothing
-- acknowledged; so many taken, the last of which completed an acknowledged command, and the length of its reply
pub data Answer : Type 0 where
  Refused : (number : ℕ) → Answer
  BadEdge : (number edges : ℕ) → Answer
  Silent : (edges : ℕ) → Answer
  Acknowledged : (edges length : ℕ) → Answer

-- what a call leaves and answers: the board, the reply room, the answer
pub record FeedOutcome : Type 0 where
  pub board : Board
  pub room : List ℕ
  pub answer : Answer

abbrev pub ending : Board → List ℕ → Answer → FeedOutcome
ending b room a = record { board = b; room = room; answer = a }

-- "takes edges until one completes an acknowledged command, or to the piece's end, and reports the edges taken, that one
-- included": what a call tells of where it stopped, n edges being taken
unfoldable pub tells_at : List ℕ → Board → ℕ → CallEnd (List ℕ) → FeedOutcome
tells_at room b n at_end = ending b room (Silent n)
tells_at room b n (at_bad number) = ending b room (BadEdge number n)
tells_at room b n (at_answer reply) = ending b (at_front reply room) (Acknowledged n (length reply))
tells_at room b n (at_once number) = ending b room (Refused number)

abbrev pub tells : List ℕ → Call Board (List ℕ) → FeedOutcome
tells room c = tells_at room c.board c.taken c.stop

-- the edges of a call, n of which were taken before
unfoldable pub run_of : Board → Sheets → List ℕ → ℕ → List Edge → FeedOutcome
run_of b sheets room n es = tells room (call_of (edge_rule sheets) b n es)

-- a feed: from board, sheets, reply room, times and levels to what it leaves and answers
abbrev pub Feed : Type 0
Feed = Board → Sheets → List ℕ → List ℕ → List ℕ → FeedOutcome

-- a feed by what it makes of the edges of a call: 12, 4, 5, then 1, then the edges
unfoldable pub feed_by : (Board → Sheets → List ℕ → List Edge → FeedOutcome) → Feed
feed_by run b sheets room times levels =
    cond (eqb (board_refusal b sheets room) 0)
    (cond (eqb (length times) (length levels)) (run b sheets room (edges_of times levels)) (ending b room (Refused 1)))
    (ending b room (Refused (board_refusal b sheets room)))

abbrev pub feed_of : Feed
feed_of = feed_by (λ b sheets room es. run_of b sheets room 0 es)

-- WHAT `feed` PROMISES of what it gives back and of the lent buffers at exit
abbrev pub answer_as : code.Answer → Answer
answer_as (case.BadEdge why edges) = BadEdge (paper_number why) edges
answer_as (case.Silent edges) = Silent edges
answer_as (case.Acknowledged edges length) = Acknowledged edges length

abbrev pub ran_as : Fed → List ℕ → List ℕ → List ℕ → FeedOutcome
ran_as fed states store room = ending (board_of fed.kept states store) room (answer_as fed.answer)

-- of a refused call the caller has the record still
abbrev pub fed_as : Module → Result Fed Refusal → List ℕ → List ℕ → List ℕ → FeedOutcome
fed_as kept (Ok fed) states store room = ran_as fed states store room
fed_as kept (Err why) states store room = ending (board_of kept states store) room (Refused (paper_number why))

unfoldable pub FeedPromise : Board → Sheets → List ℕ → List ℕ → List ℕ → FeedOutcome → Type 0
FeedPromise b sheets room times levels o = o ≡ feed_of b sheets room times levels

-- the paper's number of an answer (0: none), its count of edges, its acknowledgement and the reply's length
pub record Paper : Type 0 where
  pub number : ℕ
  pub edges : ℕ
  pub acknowledged : Bool
  pub length : ℕ

abbrev pub paper_of : Answer → Paper
paper_of (Refused number) = record { number = number; edges = 0; acknowledged = false; length = 0 }
paper_of (BadEdge number edges) = record { number = number; edges = edges; acknowledged = false; length = 0 }
paper_of (Silent edges) = record { number = 0; edges = edges; acknowledged = false; length = 0 }
paper_of (Acknowledged edges length) = record { number = 0; edges = edges; acknowledged = true; length = length }
