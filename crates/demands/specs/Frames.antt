-- What it says that a part of a board changes only by commands of a kind.
use Rattle.std.specs.Prelude.{List, ◌⊎◌, ◌≡◌, ℕ}
use Rattle.line.specs.Wire.{Edge, edges_of}
use Rattle.command.specs.declared.Command.{Command}
use Rattle.store.specs.Sheet.{Sheets}
use Rattle.board.specs.Board.{Board}
use Rattle.module.specs.Feed.{FeedOutcome, FeedPromise}
use Rattle.module.specs.Whole.{whole_of}
use Rattle.module.specs.Frames.{SomeEdge, taken_by}

-- Only commands of the kind Q change this part of a board: at the end of every recording, and after every call that keeps the feed's
-- promise, the part is as it was, or some edge, with none bad up to it, completed such a command; in a call, an edge that it took. The
-- kind may hang on the board on which the command acts.
pub record OnlyBy {A : Type 0} (part : Board → A) (Q : Board → Command → Type 0) (sheets : Sheets) : Type 0 where
  pub in_recording : (b : Board) (es : List Edge) → (part (whole_of b sheets 0 es).board ≡ part b) ⊎ SomeEdge Q sheets b es
  pub in_call : (b : Board) (room times levels : List ℕ) (o : FeedOutcome) → FeedPromise b sheets room times levels o
      → (part o.board ≡ part b) ⊎ SomeEdge Q sheets b (taken_by o (edges_of times levels))

-- by no command at all
pub record Never {A : Type 0} (part : Board → A) (sheets : Sheets) : Type 0 where
  pub in_recording : (b : Board) (es : List Edge) → part (whole_of b sheets 0 es).board ≡ part b
  pub in_call : (b : Board) (room times levels : List ℕ) (o : FeedOutcome) → FeedPromise b sheets room times levels o
      → part o.board ≡ part b

-- a command of that one kind
abbrev pub Tells : (ℕ → Command) → Command → Type 0
Tells kind c = (value : ℕ) × (c ≡ kind value)
