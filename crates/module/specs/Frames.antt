-- An edge that completes a command of a kind, and a recording that has such an edge: what the laws of "which command can change
-- what" say of edges.
use Rattle.std.specs.Prelude.{List, ◌∷◌, ◌≡◌, take}
use Rattle.line.specs.Wire.{Edge}
use Rattle.command.specs.declared.Command.{Command}
use Rattle.std.specs.Prelude.{Some}
use Rattle.command.specs.Meaning.{meaning_of}
use Rattle.store.specs.Sheet.{Sheets}
use Rattle.board.specs.Board.{Board}
use Rattle.effects.specs.Effects.{effect_of}
use Rattle.module.specs.Edge.{bad_edge, heard_at, board_at, edge_effect}
use Rattle.module.specs.Feed.{FeedOutcome, paper_of}

-- an edge completes a command of a kind, and its effect is that command's
pub record Completes (Q : Board → Command → Type 0) (b : Board) (sheets : Sheets) (e : Edge) : Type 0 where
  pub command : Command
  pub says : meaning_of (heard_at b e).packet ≡ Some command
  pub acts : edge_effect b sheets e ≡ effect_of (board_at b e) sheets command
  pub kind : Q (board_at b e) command

-- some edge of a recording, with none bad up to it, completes a command of a kind
pub data SomeEdge (Q : Board → Command → Type 0) (sheets : Sheets) : Board → List Edge → Type 0 where
  this_edge : (b : Board) (e : Edge) (es : List Edge) → bad_edge b.kept e ≡ 0 → Completes Q b sheets e → SomeEdge Q sheets b (e ∷ es)
  later_edge : (b : Board) (e : Edge) (es : List Edge) → bad_edge b.kept e ≡ 0 → SomeEdge Q sheets (edge_effect b sheets e).board es
      → SomeEdge Q sheets b (e ∷ es)

-- the edges that a call took: as many as it says, from the first on
abbrev pub taken_by : FeedOutcome → List Edge → List Edge
taken_by o es = take (paper_of o.answer).edges es
