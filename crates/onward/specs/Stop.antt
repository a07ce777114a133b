-- Why a feed stopped.
use Rattle.std.specs.Prelude.{ℕ}

-- refused by 12, 4, 5 or 1; at a bad edge, by 2 or 3; at the end of the edges; at an acknowledged command, whose reply has this length
pub data Stop : Type 0 where
  Refused : (number : ℕ) → Stop
  BadEdge : (number : ℕ) → Stop
  Silent : Stop
  Acknowledged : (length : ℕ) → Stop
