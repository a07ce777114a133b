-- A STEP OF PROOFS: what `has_room` of Saying.antt says of a command, number by number. That it says no more and no less is shown in
-- proofs/Room.antt.
use Rattle.std.specs.Prelude.{ℕ, ◌-◌, ◌≤◌, ◌<◌}
use Rattle.command.specs.declared.Command.{Command}
use Rattle.command.specs.declared.Command.TheVariants.{NoOperation, ActualSpeed, WantedSpeed, Load, AddressLow, AddressHigh}
use Rattle.command.specs.declared.Command.TheVariants.{FunctionsFrom0, FunctionsFrom5, FunctionsFrom13, FunctionsFrom21, Control}
use Rattle.command.specs.declared.Command.TheVariants.{ShortState, LongLow, LongHigh, VerifyByte, WriteByte, VerifyBit, WriteBit}
use Rattle.command.specs.declared.Command.TheVariants.{Call, BankRead, ReadCv, PositionHigh, PositionLow}

-- the room of each number; of a number that fills a byte it is what `Byte` says of it
abbrev pub RoomOf : (ℕ → Type 0) → Command → Type 0
RoomOf Byte NoOperation = Unit
RoomOf Byte (ActualSpeed speed) = Byte speed
RoomOf Byte (WantedSpeed speed) = Byte speed
RoomOf Byte (Load load) = load < 128
RoomOf Byte (AddressLow half) = Byte half
RoomOf Byte (AddressHigh half) = Byte half
RoomOf Byte (FunctionsFrom0 set) = set < 32
RoomOf Byte (FunctionsFrom5 set) = Byte set
RoomOf Byte (FunctionsFrom13 set) = Byte set
RoomOf Byte (FunctionsFrom21 set) = Byte set
RoomOf Byte (Control control) = control < 4
RoomOf Byte (ShortState n on) = n < 128
RoomOf Byte (LongLow low on) = low < 128
RoomOf Byte (LongHigh high) = Byte high
RoomOf Byte (VerifyByte cv value) = ((897 ≤ cv) × (cv ≤ 1024)) × Byte value
RoomOf Byte (WriteByte cv value) = ((897 ≤ cv) × (cv ≤ 1024)) × Byte value
RoomOf Byte (VerifyBit cv place value) = ((897 ≤ cv) × (cv ≤ 1024)) × ((place < 8) × (value < 2))
RoomOf Byte (WriteBit cv place value) = ((897 ≤ cv) × (cv ≤ 1024)) × ((place < 8) × (value < 2))
RoomOf Byte (Call called forced status) = (called < 4) × (status < 4)
RoomOf Byte (BankRead asked bank) = ((1 ≤ asked) × (asked ≤ 3)) × Byte bank
RoomOf Byte (ReadCv cv) = (769 ≤ cv) × Byte (cv - 769)
RoomOf Byte (PositionHigh high) = high < 16
RoomOf Byte (PositionLow low) = Byte low

-- every number has room: one that fills a byte is below 256
abbrev pub InRoom : Command → Type 0
InRoom = RoomOf (λ (n : ℕ). n < 256)

-- the same of the numbers that are less than a whole byte; a number that is one is below 256 by its type
abbrev pub RoomOfNumbers : Command → Type 0
RoomOfNumbers = RoomOf (λ (n : ℕ). Unit)
