-- A feed of the edges from a place on, and the place from which to go on.
use Rattle.std.specs.Prelude.{ℕ, ◌+◌, List, cond, ltb, length, drop, Result, Ok, Err}
use Rattle.refusals.specs.declared.Refusal.{Refusal}
use Rattle.refusals.specs.Numbers.{paper_number}
use Rattle.store.specs.Sheet.{Sheets}
use Rattle.board.specs.Board.{Board, board_of}
use Rattle.board.specs.declared.record.Module.{Module}
use Rattle.module.specs.Feed.{Answer, Refused, BadEdge, Silent, Acknowledged, FeedOutcome, feed_of}
use Rattle.onward.specs.declared.Stop as code
use Rattle.onward.specs.Stop as stop
use Rattle.onward.specs.declared.Stop.TheVariants as case
use Rattle.onward.specs.declared.Turn.{Turn}

-- what a turn leaves and answers: the board, the reply room, why it stopped, and the place from which to go on
pub record Onward : Type 0 where
  pub board : Board
  pub room : List ℕ
  pub stop : stop.Stop
  pub at : ℕ

-- a place past the end of a list counts as its end
unfoldable pub start_of : ℕ → ℕ → ℕ
start_of at n = cond (ltb at n) at n

-- the edges that are behind by an answer, a bad one included
abbrev pub edges_behind : Answer → ℕ
edges_behind (Refused number) = 0
edges_behind (BadEdge number edges) = edges + 1
edges_behind (Silent edges) = 0
edges_behind (Acknowledged edges length) = edges

-- the place behind them; a refusal and silence end the n edges
abbrev pub place_after : ℕ → ℕ → Answer → ℕ
place_after n start (Refused number) = n
place_after n start (BadEdge number edges) = start + edges + 1
place_after n start (Silent edges) = n
place_after n start (Acknowledged edges length) = start + edges

abbrev pub stop_of : Answer → stop.Stop
stop_of (Refused number) = stop.Refused number
stop_of (BadEdge number edges) = stop.BadEdge number
stop_of (Silent edges) = stop.Silent
stop_of (Acknowledged edges length) = stop.Acknowledged length

abbrev pub turn_after : ℕ → ℕ → FeedOutcome → Onward
turn_after n start o = record { board = o.board; room = o.room; stop = stop_of o.answer; at = place_after n start o.answer }

-- a turn: the feed of the edges from a place on
unfoldable pub onward_of : Board → Sheets → List ℕ → List ℕ → List ℕ → ℕ → Onward
onward_of b sheets room times levels at =
    turn_after (length times) (start_of at (length times)) (feed_of b sheets room (drop at times) (drop at levels))

-- WHAT `feed` PROMISES is that this is the turn: what it gives back, with the lent buffers at exit
abbrev pub stop_as : code.Stop → stop.Stop
stop_as (case.BadEdge why) = stop.BadEdge (paper_number why)
stop_as case.Silent = stop.Silent
stop_as (case.Acknowledged length) = stop.Acknowledged length

abbrev pub turned : Turn → List ℕ → List ℕ → List ℕ → Onward
turned turn states store room = record { board = board_of turn.kept states store; room = room; stop = stop_as turn.stop; at = turn.at }

-- of a refused turn the caller has the record still, and its place is the end of the n edges
abbrev pub turn_as : Module → ℕ → Result Turn Refusal → List ℕ → List ℕ → List ℕ → Onward
turn_as kept n (Ok turn) states store room = turned turn states store room
turn_as kept n (Err why) states store room =
    record { board = board_of kept states store; room = room; stop = stop.Refused (paper_number why); at = n }
