-- The grammar of scenarios: docs/REPLAY.md has it as a table; here is a line for each of its rows.
use Rattle.std.specs.Prelude.{Option, Some, None, ℕ, zero, suc, Bool, true, false, cond, ◌&&◌, List, [], ◌∷◌, eqb, leb, length, drop}
use Prim.Native.String.{String}
use Rattle.board.specs.declared.record.Half.TheVariants.{NoHalf, AddressHalf, StateHalf, PositionHalf}
use Rattle.position.specs.Position.{position_at}
use Rattle.command.specs.declared.Command.{Command}
use Rattle.command.specs.declared.Command.TheVariants as command
use Rattle.scenario.specs.declared.grammar.Statement.{Statement}
use Rattle.scenario.specs.declared.grammar.Statement.TheVariants.{Blank, Wrong, Edge, Cut, Post, Status, Wait, Restart, Size}
use Rattle.scenario.specs.declared.grammar.Statement.TheVariants.{Locate, Counts, Check, StateByte, FixedByte, View}
use Rattle.scenario.specs.declared.grammar.Statement.TheVariants.{Cell, Show, Set, Hold, Queue, Length, Uneven, Encode, Read, Bytes}
use Rattle.scenario.specs.declared.grammar.Field.{Field}
use Rattle.scenario.specs.declared.grammar.Field.TheVariants as field
use Rattle.scenario.specs.declared.grammar.Buffer.TheVariants.{Store, Sheet, States, Room, Fixed}
use Rattle.scenario.specs.Words.{Word, text, uncommented, words_of, word_at, same}
use Rattle.scenario.specs.Numbers.{between, none, within, value_of, pair_of}
use Rattle.scenario.specs.Forms.{fits}

-- the numbers of a statement, by the places of their words
abbrev pub byte_word : List Word → ℕ → ℕ
byte_word words k = value_of 255 (word_at words k)

abbrev pub short_word : List Word → ℕ → ℕ
short_word words k = value_of 65535 (word_at words k)

abbrev pub large_word : List Word → ℕ → ℕ
large_word words k = value_of 18446744073709551615 (word_at words k)

abbrev pub flag_word : List Word → ℕ → Bool
flag_word words k = eqb (value_of 1 (word_at words k)) 1

-- a row of the grammar: a form, and what a line says that fits it
pub record FormRow (A : Type 0) : Type 0 where
  pub form : List ℕ
  pub says : A

abbrev row : {A : Type 0} → String → A → FormRow A
row form says = record { form = text form; says = says }

abbrev pub forms : {A : Type 0} → List (FormRow A) → List (List ℕ)
forms [] = []
forms (r ∷ rows) = r.form ∷ forms rows

abbrev pub rows_say : {A : Type 0} → List (FormRow A) → List A
rows_say [] = []
rows_say (r ∷ rows) = r.says ∷ rows_say rows

-- the statement of the first row that words fit; where there is none, something else
unfoldable pub first_fitting : {A : Type 0} → (A → Statement) → List (FormRow A) → List Word → Statement → Statement
first_fitting statement [] words other = other
first_fitting statement (r ∷ rows) words other =
    cond (fits (words_of r.form) words) (statement r.says) (first_fitting statement rows words other)

-- the statements of which each says its own; a, b, c, d are the bytes behind the first word, m and n the first and the second
-- word behind it as 16 bits
abbrev pub plain_rows : ℕ → Bool → ℕ → ℕ → ℕ → ℕ → ℕ → ℕ → List (FormRow Statement)
plain_rows time flag a b c d m n =
    row "18446744073709551615 255" (Edge time a)
    ∷ row "cut" Cut
    ∷ row "post 255 255 255 255" (Post a b c d)
    ∷ row "status 255 255" (Status a b)
    ∷ row "wait 1" (Wait flag)
    ∷ row "restart" Restart
    ∷ row "size 255 255" (Size a b)
    ∷ row "cell 255 39 255" (Cell a b c)
    ∷ row "show" Show
    ∷ row "set half none" (Hold NoHalf)
    ∷ row "set half address" (Hold AddressHalf)
    ∷ row "set half state" (Hold StateHalf)
    ∷ row "set half position" (Hold PositionHalf)
    ∷ row "set position unknown" (Locate None)
    ∷ row "set position 65535 1" (Locate (Some (position_at n (eqb c 1))))
    ∷ row "set queue 31 255" (Queue b c)
    ∷ row "length store 10300" (Length Store n)
    ∷ row "length sheet 300" (Length Sheet n)
    ∷ row "length states 4200" (Length States n)
    ∷ row "length room 200" (Length Room n)
    ∷ row "uneven" Uneven
    ∷ row "counts" Counts
    ∷ row "check" Check
    ∷ row "states 4095 255" (StateByte m b)
    ∷ row "fixed 39 255" (FixedByte a b)
    ∷ row "view 255" (View a)
    ∷ row "length fixed 60" (Length Fixed n)
    ∷ []

-- the same of a line, by its words
abbrev pub plain_rows_of : List Word → List (FormRow Statement)
plain_rows_of words =
    plain_rows (large_word words 0) (flag_word words 1) (byte_word words 1) (byte_word words 2) (byte_word words 3) (byte_word words 4)
    (short_word words 1) (short_word words 2)

-- `set`: the fields that hold a number
abbrev pub field_rows : List (FormRow Field)
field_rows =
    row "set last 18446744073709551615" field.Last
    ∷ row "set bits 255" field.Bits
    ∷ row "set count 255" field.Count
    ∷ row "set first 255" field.First
    ∷ row "set second 255" field.Second
    ∷ row "set held 255" field.Held
    ∷ row "set start 18446744073709551615" field.Start
    ∷ row "set started 255" field.Started
    ∷ row "set halfbyte 255" field.Halfbyte
    ∷ row "set actual 255" field.Actual
    ∷ row "set wanted 255" field.Wanted
    ∷ row "set load 255" field.Load
    ∷ row "set address 65535" field.Address
    ∷ row "set functions 4294967295" field.Functions
    ∷ row "set control 255" field.Control
    ∷ row "set number 255" field.Number
    ∷ row "set wait 255" field.Wait
    ∷ row "set bank 255" field.Bank
    ∷ row "set status0 255" field.Status0
    ∷ row "set status1 255" field.Status1
    ∷ row "set registered 1" field.Registered
    ∷ row "set queued 255" field.Queued
    ∷ row "set stateson 65535" field.Stateson
    ∷ []

-- `encode`: "CV has 16 bits, ON and FORCED are 0 or 1, all others are bytes"; a, b, c are the bytes behind the command's name
abbrev pub command_rows : ℕ → ℕ → ℕ → ℕ → Bool → List (FormRow Command)
command_rows cv a b c on =
    row "encode noop" command.NoOperation
    ∷ row "encode actual 255" (command.ActualSpeed a)
    ∷ row "encode wanted 255" (command.WantedSpeed a)
    ∷ row "encode load 255" (command.Load a)
    ∷ row "encode addresslow 255" (command.AddressLow a)
    ∷ row "encode addresshigh 255" (command.AddressHigh a)
    ∷ row "encode functions0 255" (command.FunctionsFrom0 a)
    ∷ row "encode functions5 255" (command.FunctionsFrom5 a)
    ∷ row "encode functions13 255" (command.FunctionsFrom13 a)
    ∷ row "encode functions21 255" (command.FunctionsFrom21 a)
    ∷ row "encode control 255" (command.Control a)
    ∷ row "encode state 255 1" (command.ShortState a on)
    ∷ row "encode longlow 255 1" (command.LongLow a on)
    ∷ row "encode longhigh 255" (command.LongHigh a)
    ∷ row "encode verify 65535 255" (command.VerifyByte cv b)
    ∷ row "encode write 65535 255" (command.WriteByte cv b)
    ∷ row "encode verifybit 65535 255 255" (command.VerifyBit cv b c)
    ∷ row "encode writebit 65535 255 255" (command.WriteBit cv b c)
    ∷ row "encode call 255 1 255" (command.Call a on c)
    ∷ row "encode bank 255 255" (command.BankRead a b)
    ∷ row "encode readcv 65535" (command.ReadCv cv)
    ∷ row "encode positionhigh 255" (command.PositionHigh a)
    ∷ row "encode positionlow 255" (command.PositionLow a)
    ∷ []

-- the same of a line, by its words
abbrev pub command_rows_of : List Word → List (FormRow Command)
command_rows_of words = command_rows (short_word words 2) (byte_word words 2) (byte_word words 3) (byte_word words 4) (flag_word words 3)

-- a byte, as a number of the grammar or as two hexadecimal digits
unfoldable pub is_byte_word : Bool → Word → Bool
is_byte_word false w = within 255 w
is_byte_word true w = (pair_of w).good

unfoldable pub all_bytes : Bool → List Word → Bool
all_bytes pairs [] = true
all_bytes pairs (w ∷ words) = is_byte_word pairs w && all_bytes pairs words

-- how many words there are, if all are bytes and there are at most 300; else 301
unfoldable pub bytes_in : Bool → List Word → ℕ
bytes_in pairs words = cond (all_bytes pairs words && leb (length words) 300) (length words) 301

-- the same as it is handed on: so many, or none
unfoldable pub bytes_found : Bool → List Word → Option ℕ
bytes_found pairs words = cond (leb (bytes_in pairs words) 300) (Some (bytes_in pairs words)) None

-- `bytes`: a time of at most 63 bits, and 1 to 300 bytes of two hexadecimal digits
unfoldable pub bytes_statement : List Word → Statement
bytes_statement words =
    cond (within 9223372036854775807 (word_at words 1) && between 1 (bytes_in true (drop 2 words)) 300)
    (Bytes (large_word words 1) (bytes_in true (drop 2 words)))
    Wrong

-- `read`: 0 to 300 bytes
unfoldable pub read_statement : List Word → Statement
read_statement words = cond (leb (bytes_in false (drop 1 words)) 300) (Read (bytes_in false (drop 1 words))) Wrong

-- the bytes that the first n words say; a word that is not there counts 0
unfoldable pub first_bytes : List Word → ℕ → List ℕ
first_bytes words zero = []
first_bytes words (suc n) = value_of 255 (word_at words 0) ∷ first_bytes (drop 1 words) n

-- the first n bytes of a `read` line
abbrev pub bytes_read : List ℕ → ℕ → List ℕ
bytes_read line n = first_bytes (drop 1 (words_of (uncommented line))) n

-- the statements that take as many bytes as there are
unfoldable pub list_of : List Word → Statement
list_of words =
    cond (same (word_at words 0) (text "read")) (read_statement words)
    (cond (same (word_at words 0) (text "bytes")) (bytes_statement words)
    Wrong)

-- the tables, one after the other
unfoldable pub encode_of : List Word → Statement
encode_of words =
    first_fitting Encode
    (command_rows (short_word words 2) (byte_word words 2) (byte_word words 3) (byte_word words 4) (flag_word words 3)) words (list_of words)

unfoldable pub set_of : List Word → Statement
set_of words = first_fitting (λ f. Set f (large_word words 2)) field_rows words (encode_of words)

unfoldable pub plain_of : List Word → Statement
plain_of words =
    first_fitting (λ s. s)
    (plain_rows (large_word words 0) (flag_word words 1) (byte_word words 1) (byte_word words 2) (byte_word words 3) (byte_word words 4)
    (short_word words 1) (short_word words 2))
    words
    (set_of words)

-- "a line without words says nothing"
unfoldable pub words_say : List Word → Statement
words_say words = cond (none words) Blank (plain_of words)

-- what a line says: its comment is cut off, the rest split into words
unfoldable pub statement_of : List ℕ → Statement
statement_of line = words_say (words_of (uncommented line))
