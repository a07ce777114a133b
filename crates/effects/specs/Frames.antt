-- WHICH COMMANDS CAN CHANGE WHICH PART of a board. proofs/Frames.antt shows that nothing else does.
use Rattle.std.specs.Prelude.{ℕ, ◌+◌, ◌-◌, ◌*◌, Bool, true, ◌≡◌}
use Rattle.bits.specs.Bits.{part_of}
use Rattle.line.specs.declared.packet.Packet.{Packet}
use Rattle.command.specs.declared.Command.{Command}
use Rattle.command.specs.declared.Command.TheVariants as C
use Rattle.std.specs.Prelude.{Some}
use Rattle.command.specs.Meaning.{meaning_of}
use Rattle.command.specs.Saying.{state_byte}
use Rattle.states.specs.States.{states_on, moved_by}
use Rattle.store.specs.Sheet.{Sheets}
use Rattle.cells.specs.Settings.{effective_number}
use Rattle.board.specs.declared.record.Half.{Half}
use Rattle.board.specs.declared.record.Half.TheVariants.{AddressHalf, StateHalf, PositionHalf}
use Rattle.board.specs.Board.{Board}
use Rattle.effects.specs.Effects.{effect_of}

-- states: 0x6D, and 0x6F where its own low half was the command just before
pub data SetsStates : Half → Command → Type 0 where
  short_state : {half : Half} (number : ℕ) (on : Bool) → SetsStates half (C.ShortState number on)
  long_state_lem : (high : ℕ) → SetsStates StateHalf (C.LongHigh high)

-- C-05, of these a long broadcast: 0x6F that makes number 0 with its own low half
pub data LongBroadcast : Half → ℕ → Command → Type 0 where
  all_long : (low : ℕ) → part_of low 0 7 ≡ 0 → LongBroadcast StateHalf low (C.LongHigh 0)

-- C-05: from one board to another the number kept moved by the difference from the first one's states to the second's
abbrev pub NumberMoved : Board → Board → Type 0
NumberMoved b after = after.kept.stateson ≡ moved_by b.kept.stateson (states_on b.states) (states_on after.states)

-- speeds, load, functions, control: the rows 0x24 to 0x26, 0x60 to 0x63 and 0x6C of the first table; address: 0x5F after its own
-- low half
pub data TellsDrive : Half → Command → Type 0 where
  tells_actual : {half : Half} (speed : ℕ) → TellsDrive half (C.ActualSpeed speed)
  tells_wanted : {half : Half} (speed : ℕ) → TellsDrive half (C.WantedSpeed speed)
  tells_load : {half : Half} (load : ℕ) → TellsDrive half (C.Load load)
  tells_address : (high : ℕ) → TellsDrive AddressHalf (C.AddressHigh high)
  tells_from_0 : {half : Half} (on : ℕ) → TellsDrive half (C.FunctionsFrom0 on)
  tells_from_5 : {half : Half} (on : ℕ) → TellsDrive half (C.FunctionsFrom5 on)
  tells_from_13 : {half : Half} (on : ℕ) → TellsDrive half (C.FunctionsFrom13 on)
  tells_from_21 : {half : Half} (on : ℕ) → TellsDrive half (C.FunctionsFrom21 on)
  tells_control : {half : Half} (control : ℕ) → TellsDrive half (C.Control control)

-- of these the address: 0x5F where its own low half was the command just before
pub data SetsAddress : Half → Command → Type 0 where
  high_half : (half : ℕ) → SetsAddress AddressHalf (C.AddressHigh half)

-- F0 to F28: 0x60 to 0x63, and 0x6C
pub data SetsFunctions : Command → Type 0 where
  functions_from_0 : (on : ℕ) → SetsFunctions (C.FunctionsFrom0 on)
  functions_from_5 : (on : ℕ) → SetsFunctions (C.FunctionsFrom5 on)
  functions_from_13 : (on : ℕ) → SetsFunctions (C.FunctionsFrom13 on)
  functions_from_21 : (on : ℕ) → SetsFunctions (C.FunctionsFrom21 on)
  functions_off : (control : ℕ) → SetsFunctions (C.Control control)

-- C-12: the position: 0x89 where its own high half was the command just before
pub data SetsPosition : Half → Command → Type 0 where
  low_half : (low : ℕ) → SetsPosition PositionHalf (C.PositionLow low)

-- the half that comes first of two: which, and the byte that is held
pub data FirstHalf : Command → Half → ℕ → Type 0 where
  low_address : (byte : ℕ) → FirstHalf (C.AddressLow byte) AddressHalf byte
  low_state : (low : ℕ) (on : Bool) → FirstHalf (C.LongLow low on) StateHalf (state_byte low on)
  high_position : (high : ℕ) → FirstHalf (C.PositionHigh high) PositionHalf high

-- a write to a CV, of a byte or of a bit
pub data Writes : ℕ → Command → Type 0 where
  write_byte : (cv value : ℕ) → Writes cv (C.WriteByte cv value)
  write_bit : (cv place value : ℕ) → Writes cv (C.WriteBit cv place value)

-- a call of a module
pub data Calls : ℕ → Command → Type 0 where
  a_call : (number : ℕ) (forced : Bool) (status : ℕ) → Calls number (C.Call number forced status)

-- an acknowledged write to a CV
pub record WriteDone (b : Board) (sheets : Sheets) (cv : ℕ) (c : Command) : Type 0 where
  pub writes : Writes cv c
  pub acknowledged : (effect_of b sheets c).acknowledged ≡ true

-- "Module n owns CVs 900+40(n-1) to 939+40(n-1)"; "The bank is the value of CV 1021."
abbrev pub cell_cv : Board → ℕ → ℕ
cell_cv b offset = 900 + 40 * (effective_number b.kept.settings - 1) + offset

-- an acknowledged write to the cell at an offset of a bank: that bank is selected
pub record WritesCell (b : Board) (sheets : Sheets) (bank offset : ℕ) (c : Command) : Type 0 where
  pub selected : bank ≡ b.kept.settings.bank
  pub written : WriteDone b sheets (cell_cv b offset) c

-- an acknowledged call of this module
pub record CallAnswered (b : Board) (sheets : Sheets) (c : Command) : Type 0 where
  pub own : Calls (effective_number b.kept.settings) c
  pub acknowledged : (effect_of b sheets c).acknowledged ≡ true

-- a packet that says a command of a kind
pub record SaysOne (p : Packet) (Q : Command → Type 0) : Type 0 where
  pub command : Command
  pub says : meaning_of p ≡ Some command
  pub kind : Q command
