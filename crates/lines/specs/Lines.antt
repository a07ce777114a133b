-- WHAT THE BENCH WRITES: document 01, "Bench program". "It writes one line for each command: `-` or `ACK` and reply bytes."
use Rattle.std.specs.Prelude.{ℕ, Bool, cond, List, [], ◌∷◌, ◌++◌, eqb}
use Rattle.text.specs.Text.{hex_of}
use Rattle.line.specs.Wire.{Noted, spelled}
use Rattle.module.specs.Bench.{after_bytes}
use Rattle.module.specs.Whole.{Answered}

-- ---- A line, as bytes of text: space 32, "-" 45, "ACK" 65 67 75, line feed 10.

-- reply bytes, each with a space before its two digits
unfoldable pub spaced : List ℕ → List ℕ
spaced [] = []
spaced (b ∷ bs) = 32 ∷ (hex_of b ++ spaced bs)

abbrev pub dash : List ℕ
dash = 45 ∷ 10 ∷ []

abbrev pub ack : List ℕ → List ℕ
ack reply = 65 ∷ 67 ∷ 75 ∷ (spaced reply ++ (10 ∷ []))

unfoldable pub line_of : Bool → List ℕ → List ℕ
line_of acknowledged reply = cond acknowledged (ack reply) dash

-- ---- THE BENCH'S TEXT, by the whole recording's definition.

-- the line of the command that the nth edge completed: that of the answer given there, or a dash where none was
unfoldable pub answer_line : ℕ → List Answered → List ℕ
answer_line n [] = dash
answer_line n (a ∷ rest) = cond (eqb a.after n) (ack a.reply) (answer_line n rest)

-- a line for each command
unfoldable pub command_lines : List Answered → List Noted → List ℕ
command_lines answers [] = []
command_lines answers (p ∷ ps) = answer_line p.after answers ++ command_lines answers ps

-- the commands are the packets that the bytes spell ("An unfinished packet at the end gives no line"); the answers are those of
-- the recording in which the bytes are clocked into the bench's board
unfoldable pub bench_text : List ℕ → List ℕ
bench_text bytes = command_lines (after_bytes bytes).answers (spelled 0 [] bytes).packets
