-- A block of bus bytes: what it leaves of a board, and the lines of the commands that it completes.
use Rattle.std.specs.Prelude.{ℕ, ◌+◌, ◌*◌, Bool, cond, List, [], ◌∷◌, ◌++◌, ◌≡◌, leb, eqb, length, take, drop, Result, Ok, Err}
use Rattle.refusals.specs.Numbers.{paper_number}
use Rattle.line.specs.declared.packet.Packet.{Packet}
use Rattle.line.specs.Line.{Heard, byte_of}
use Rattle.store.specs.Sheet.{Sheets}
use Rattle.bank.specs.Reply.{at_front}
use Rattle.board.specs.declared.record.Module.{Module}
use Rattle.board.specs.Board.{Board, board_refusal}
use Rattle.reactions.specs.Reactions.{Effect}
use Rattle.module.specs.Edge.{heard_effect}
use Rattle.lines.specs.declared.Lines as code
use Rattle.lines.specs.declared.Untaken.{Untaken}
use Rattle.lines.specs.declared.Untaken.TheVariants as cause
use Rattle.lines.specs.Lines.{line_of}

-- what bytes leave: the board, the reply room, and the text of their lines
pub record Taken : Type 0 where
  pub board : Board
  pub room : List ℕ
  pub text : List ℕ

-- text before that of other bytes
abbrev pub following : List ℕ → Taken → Taken
following text t = record { board = t.board; room = t.room; text = text ++ t.text }

-- a whole byte joins those that the receiver holds: no packet is complete, or one is, and has its effect. It has no time of its own, so it
-- starts the clock at the last edge's (C-03)
abbrev pub heard_of : Board → ℕ → Heard
heard_of b byte = byte_of b.kept.receiver byte

abbrev pub byte_effect : Board → Sheets → ℕ → Effect
byte_effect b sheets byte = heard_effect b sheets (heard_of b byte)

-- only a completed packet has a line
unfoldable pub lined : Packet → Effect → Taken → Taken
lined p e t = cond (eqb p.length 0) t (following (line_of e.acknowledged e.reply) t)

unfoldable pub taken_of : Board → Sheets → List ℕ → List ℕ → Taken
taken_of b sheets room [] = record { board = b; room = room; text = [] }
taken_of b sheets room (byte ∷ bytes) =
    lined (heard_of b byte).packet (byte_effect b sheets byte)
    (taken_of (byte_effect b sheets byte).board sheets (at_front (byte_effect b sheets byte).reply room) bytes)

-- bytes at a place, and what lies before and past them as it was
abbrev pub placed : ℕ → List ℕ → List ℕ → List ℕ
placed at bytes out = take at out ++ at_front bytes (drop at out)

-- ---- A call of `write`.

-- a command has two bytes at least, and a line at most 4 + 3·84; two bytes may be held before
abbrev pub long_enough : List ℕ → List ℕ → Bool
long_enough input out = leb (128 * (length input + 2)) (length out)

-- what a block of bytes comes to: 12, 4 or 5; bits are held; too little room for text; or so many bytes of text
pub data Block : Type 0 where
  Refused : (number : ℕ) → Block
  BitsHeld : Block
  NoRoomForText : Block
  Text : (bytes : ℕ) → Block

-- the record after a block, and its answer
pub record Lines : Type 0 where
  pub kept : Module
  pub answer : Block

-- what a call gives, and the lent buffers at exit
pub record AfterBlock : Type 0 where
  pub given : Lines
  pub states : List ℕ
  pub store : List ℕ
  pub room : List ℕ
  pub out : List ℕ

abbrev pub leaving : Lines → List ℕ → List ℕ → List ℕ → List ℕ → AfterBlock
leaving given states store room out = record { given = given; states = states; store = store; room = room; out = out }

-- all bytes taken, their text at the front
abbrev pub wrote : Taken → List ℕ → AfterBlock
wrote t out =
    leaving (record {
      kept = t.board.kept;
      answer = Text (length t.text);
    }) t.board.states t.board.store t.room (at_front t.text out)

-- nothing taken, and all as it was
abbrev pub untaken : Board → List ℕ → List ℕ → Block → AfterBlock
untaken b room out answer = leaving (record { kept = b.kept; answer = answer }) b.states b.store room out

-- 12, 4, 5 by the table; then two causes of its own, that are no numbers of the paper: whole bytes cannot join held bits, and the
-- text needs its room
unfoldable pub write_of : Board → Sheets → List ℕ → List ℕ → List ℕ → AfterBlock
write_of b sheets room out input =
    cond (eqb (board_refusal b sheets room) 0)
    (cond (eqb b.kept.receiver.count 0)
    (cond (long_enough input out) (wrote (taken_of b sheets room input) out) (untaken b room out NoRoomForText))
    (untaken b room out BitsHeld))
    (untaken b room out (Refused (board_refusal b sheets room)))

-- the paper's number of an answer (0: none), and how many bytes of text it tells of
abbrev pub block_number : Block → ℕ
block_number (Refused number) = number
block_number BitsHeld = 0
block_number NoRoomForText = 0
block_number (Text bytes) = 0

abbrev pub text_length : Block → ℕ
text_length (Refused number) = 0
text_length BitsHeld = 0
text_length NoRoomForText = 0
text_length (Text bytes) = bytes

-- the code's answer, said so: of a call that takes nothing the caller has the record still. No two answers are said alike: law
-- `given_once`
abbrev pub wrote_as : code.Lines → Lines
wrote_as l = record { kept = l.kept; answer = Text l.text }

abbrev pub untaken_as : Untaken → Block
untaken_as (cause.Refused why) = Refused (paper_number why)
untaken_as cause.BitsHeld = BitsHeld
untaken_as cause.NoRoomForText = NoRoomForText

abbrev pub given_as : Module → Result code.Lines Untaken → Lines
given_as kept (Ok l) = wrote_as l
given_as kept (Err why) = record { kept = kept; answer = untaken_as why }

-- WHAT `write` PROMISES
unfoldable pub WritePromise : Board → Sheets → List ℕ → List ℕ → List ℕ → AfterBlock → Type 0
WritePromise b sheets room out input l = l ≡ write_of b sheets room out input
