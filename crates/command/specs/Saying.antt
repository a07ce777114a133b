-- From a command to its packet: the tables of Meaning.antt the other way round. proofs/Laws.antt shows that what has room, and what
-- packet says it, follow from what packets mean; to be believed besides are `bits_read`, `UnreadZero`, `ThreeBytes` and `state_byte`.
use Rattle.std.specs.Prelude.{ℕ, ◌+◌, ◌-◌, ◌*◌, ◌<◌, ◌≡◌, Bool, true, cond, ◌&&◌, [], ◌∷◌, ltb, leb, eqb, length}
use Rattle.bits.specs.Bits.{part_of, bit_at}
use Rattle.line.specs.declared.packet.Packet.{Packet}
use Rattle.line.specs.Line.{packet_of2, packet_of3}
use Rattle.command.specs.declared.Command.{Command}
use Rattle.command.specs.declared.Command.TheVariants.{NoOperation, ActualSpeed, WantedSpeed, Load, AddressLow, AddressHigh}
use Rattle.command.specs.declared.Command.TheVariants.{FunctionsFrom0, FunctionsFrom5, FunctionsFrom13, FunctionsFrom21, Control}
use Rattle.command.specs.declared.Command.TheVariants.{ShortState, LongLow, LongHigh, VerifyByte, WriteByte, VerifyBit, WriteBit}
use Rattle.command.specs.declared.Command.TheVariants.{Call, BankRead, ReadCv, PositionHigh, PositionLow}
use Rattle.command.specs.Meaning.{byte_at}

-- a number between two others, or one of them
unfoldable pub between : ℕ → ℕ → ℕ → Bool
between low n high = leb low n && leb n high

unfoldable pub room_for_byte : ℕ → ℕ → Bool
room_for_byte cv value = between 897 cv 1024 && ltb value 256

unfoldable pub room_for_bit : ℕ → ℕ → ℕ → Bool
room_for_bit cv place value = between 897 cv 1024 && (ltb place 8 && ltb value 2)

unfoldable pub room_for_call : ℕ → ℕ → Bool
room_for_call called status = ltb called 4 && ltb status 4

unfoldable pub room_for_bank : ℕ → ℕ → Bool
room_for_bank asked bank = between 1 asked 3 && ltb bank 256

-- row 8: "CV, bit, number or value that a command has no room for"
unfoldable pub has_room : Command → Bool
has_room NoOperation = true
has_room (ActualSpeed speed) = ltb speed 256
has_room (WantedSpeed speed) = ltb speed 256
has_room (Load load) = ltb load 128
has_room (AddressLow half) = ltb half 256
has_room (AddressHigh half) = ltb half 256
has_room (FunctionsFrom0 set) = ltb set 32
has_room (FunctionsFrom5 set) = ltb set 256
has_room (FunctionsFrom13 set) = ltb set 256
has_room (FunctionsFrom21 set) = ltb set 256
has_room (Control control) = ltb control 4
has_room (ShortState n on) = ltb n 128
has_room (LongLow low on) = ltb low 128
has_room (LongHigh high) = ltb high 256
has_room (VerifyByte cv value) = room_for_byte cv value
has_room (WriteByte cv value) = room_for_byte cv value
has_room (VerifyBit cv place value) = room_for_bit cv place value
has_room (WriteBit cv place value) = room_for_bit cv place value
has_room (Call called forced status) = room_for_call called status
has_room (BankRead asked bank) = room_for_bank asked bank
has_room (ReadCv cv) = between 769 cv 1024
has_room (PositionHigh high) = ltb high 16
has_room (PositionLow low) = ltb low 256

-- "bit 4 is F0, bits 0..3 are F1..F4"
unfoldable pub functions_byte : ℕ → ℕ
functions_byte set = 16 * bit_at set 0 + part_of set 1 4

-- a number in bits 0..6, on or off in bit 7
unfoldable pub state_byte : ℕ → Bool → ℕ
state_byte n on = cond on 128 0 + n

-- "bits 0, 1 the module number .., bit 2 forced, bits 3, 4 status number"
unfoldable pub call_byte : ℕ → Bool → ℕ → ℕ
call_byte called forced status = 8 * status + cond forced 4 0 + called

-- "second byte is 128+V, CV = 897+V"
unfoldable pub cv_byte : ℕ → ℕ
cv_byte cv = 128 + (cv - 897)

-- "111K DBBB"
unfoldable pub bit_byte : ℕ → ℕ → ℕ → ℕ
bit_byte k d b = 224 + 16 * k + 8 * d + b

-- "0x0C, 0x0D, 0x0E .. (modules 1, 2, 3)"
unfoldable pub bank_first : ℕ → ℕ
bank_first asked = cond (eqb asked 1) 0x0C (cond (eqb asked 2) 0x0D 0x0E)

-- the packet that says a command which has room; "It writes unread bits as 0"
unfoldable pub packet_saying : Command → Packet
packet_saying NoOperation = packet_of2 0x00 0
packet_saying (ActualSpeed speed) = packet_of2 0x24 speed
packet_saying (WantedSpeed speed) = packet_of2 0x25 speed
packet_saying (Load load) = packet_of2 0x26 load
packet_saying (AddressLow half) = packet_of2 0x5E half
packet_saying (AddressHigh half) = packet_of2 0x5F half
packet_saying (FunctionsFrom0 set) = packet_of2 0x60 (functions_byte set)
packet_saying (FunctionsFrom5 set) = packet_of2 0x61 set
packet_saying (FunctionsFrom13 set) = packet_of2 0x62 set
packet_saying (FunctionsFrom21 set) = packet_of2 0x63 set
packet_saying (Control control) = packet_of2 0x6C control
packet_saying (ShortState n on) = packet_of2 0x6D (state_byte n on)
packet_saying (LongLow low on) = packet_of2 0x6E (state_byte low on)
packet_saying (LongHigh high) = packet_of2 0x6F high
packet_saying (VerifyByte cv value) = packet_of3 0x77 (cv_byte cv) value
packet_saying (WriteByte cv value) = packet_of3 0x7F (cv_byte cv) value
packet_saying (VerifyBit cv place value) = packet_of3 0x7B (cv_byte cv) (bit_byte 0 value place)
packet_saying (WriteBit cv place value) = packet_of3 0x7B (cv_byte cv) (bit_byte 1 value place)
packet_saying (Call called forced status) = packet_of2 0x01 (call_byte called forced status)
packet_saying (BankRead asked bank) = packet_of2 (bank_first asked) bank
packet_saying (ReadCv cv) = packet_of2 0x0F (cv - 769)
packet_saying (PositionHigh high) = packet_of2 0x88 high
packet_saying (PositionLow low) = packet_of2 0x89 low

-- what of a second byte is read: nothing at 0x00, bits 0..4 at 0x60 and 0x01, bits 0, 1 at 0x6C, else all of it
unfoldable pub bits_read : ℕ → ℕ → ℕ
bits_read first second =
    cond (eqb first 0x00) 0
    (cond (eqb first 0x60) (part_of second 0 5)
    (cond (eqb first 0x6C) (part_of second 0 2)
    (cond (eqb first 0x01) (part_of second 0 5) second)))

-- its unread bits are 0: "packets of that form come back byte for byte"
abbrev pub UnreadZero : Packet → Type 0
UnreadZero p = bits_read (byte_at p 0) (byte_at p 1) ≡ byte_at p 1

-- the packet with its unread bits put to 0
abbrev pub unread_cleared : Packet → Packet
unread_cleared p = record { length = p.length; bytes = byte_at p 0 ∷ bits_read (byte_at p 0) (byte_at p 1) ∷ byte_at p 2 ∷ [] }

-- three bytes, as every packet of the code has, whatever its length says
pub record ThreeBytes (p : Packet) : Type 0 where
  pub three : length p.bytes ≡ 3
  pub first : byte_at p 0 < 256
  pub second : byte_at p 1 < 256
  pub third : byte_at p 2 < 256
