-- A STEP OF PROOFS: bytes in blocks, calls of `write` in turn, each with what the one before left.
use Rattle.std.specs.Prelude.{ℕ, ◌+◌, ◌*◌, ◌≤◌, List, [], ◌∷◌, ◌++◌, length, take}
use Rattle.bits.specs.Bits.{Bytes}
use Rattle.store.specs.Sheet.{Sheets}
use Rattle.board.specs.Board.{Board, board_of}
use Rattle.lines.specs.Taken.{AfterBlock, text_length, write_of}

-- the text that a call gives: as many bytes of the front of `out` as it says
abbrev pub text_given : AfterBlock → List ℕ
text_given l = take (text_length l.given.answer) l.out

unfoldable pub calls_of : Board → Sheets → List ℕ → List ℕ → List (List ℕ) → List ℕ
calls_of b sheets room out [] = []
calls_of b sheets room out (block ∷ blocks) =
    let l = write_of b sheets room out block in
    text_given l ++ calls_of (board_of l.given.kept l.states l.store) sheets l.room l.out blocks

-- blocks of bytes, each with room for its lines where there are n bytes of room
abbrev pub Blocks : ℕ → List (List ℕ) → Type 0
Blocks n [] = Unit
Blocks n (block ∷ blocks) = Bytes block × (128 * (length block + 2) ≤ n) × Blocks n blocks
