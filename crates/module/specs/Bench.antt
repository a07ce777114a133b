-- THE BENCH of document 01, "Bench program": its board and sheets, and bus bytes as a recording. The table of examples and
-- the bench's lines stand on it.
use Rattle.std.specs.Prelude.{ℕ, zero, suc, ◌+◌, ◌*◌, List, [], ◌∷◌, ◌++◌, length, replicate}
use Rattle.line.specs.Wire.{Edge, edges_of, levels_of}
use Rattle.store.specs.Sheet.{Sheets, sheets_of, zero_store}
use Rattle.board.specs.Board.{Board, board_of, fresh_module}
use Rattle.module.specs.Whole.{Story, whole_of}

-- "module 1 (CV 897 is 1, CV 1021 is 0)", "store zero"; size sheets with these sizes of banks 0 and 1, 2 for bank 254, else 0; C-13: a
-- fixed sheet of 0, 11 and zeros
abbrev pub zeros : ℕ → List ℕ
zeros n = replicate n 0

abbrev pub bench : Board
bench = board_of fresh_module (zeros 4096) zero_store

abbrev pub bench_fixed : List ℕ
bench_fixed = 0 ∷ 11 ∷ zeros 38

abbrev pub sized : ℕ → ℕ → Sheets
sized bank0 bank1 = sheets_of (bank0 ∷ bank1 ∷ (zeros 252 ++ (2 ∷ 0 ∷ []))) bench_fixed

-- "sizes 40 for banks 0 and 1, 2 for bank 254, else 0"
abbrev pub bench_sheets : Sheets
bench_sheets = sized 40 40

-- "bus bytes .., 100 µs a bit"
abbrev pub bit_times : ℕ → ℕ → List ℕ
bit_times zero time = []
bit_times (suc n) time = time ∷ bit_times n (time + 100)

abbrev pub edges_of_bytes : List ℕ → List Edge
edges_of_bytes bytes = edges_of (bit_times (8 * length bytes) 0) (levels_of bytes)

-- what becomes of the bench's board of bytes
abbrev pub after_bytes : List ℕ → Story
after_bytes bytes = whole_of bench bench_sheets 0 (edges_of_bytes bytes)
