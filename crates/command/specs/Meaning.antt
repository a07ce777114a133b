-- What a packet means: document 01, "Commands", and the calls of "BiDi (001)"; C-12. Each row of the tables is a line here.
use Rattle.std.specs.Prelude.{ℕ, ◌+◌, ◌*◌, Bool, cond, ◌&&◌, ◌||◌, ◌≡◌, Option, Some, None, ltb, leb, eqb, get_or}
use Rattle.bits.specs.Bits.{part_of, bit_at}
use Rattle.line.specs.declared.packet.Packet.{Packet}
use Rattle.line.specs.Line.{packet_length, From70To7F}
use Rattle.command.specs.declared.Command.{Command}
use Rattle.command.specs.declared.Command.TheVariants.{NoOperation, ActualSpeed, WantedSpeed, Load, AddressLow, AddressHigh}
use Rattle.command.specs.declared.Command.TheVariants.{FunctionsFrom0, FunctionsFrom5, FunctionsFrom13, FunctionsFrom21, Control}
use Rattle.command.specs.declared.Command.TheVariants.{ShortState, LongLow, LongHigh, VerifyByte, WriteByte, VerifyBit, WriteBit}
use Rattle.command.specs.declared.Command.TheVariants.{Call, BankRead, ReadCv, PositionHigh, PositionLow}

-- a byte of a packet
abbrev pub byte_at : Packet → ℕ → ℕ
byte_at p i = get_or p.bytes i 0

-- a packet has as many bytes as its first one asks for, and where those are two, the third place is 0
unfoldable pub is_packet : Packet → Bool
is_packet p = eqb p.length (packet_length (byte_at p 0)) && (eqb p.length 3 || eqb (byte_at p 2) 0)

-- "load 0..127; bit 7 set: ignored (H)"
unfoldable pub load_of : ℕ → Option Command
load_of second = cond (ltb second 128) (Some (Load second)) None

-- "bit 4 is F0, bits 0..3 are F1..F4": the lowest function comes to bit 0
unfoldable pub functions_of : ℕ → ℕ
functions_of second = bit_at second 4 + 2 * part_of second 0 4

-- "0x01: bits 0, 1 the module number .., bit 2 forced, bits 3, 4 status number, rest not read"
unfoldable pub call_said : ℕ → Command
call_said second = Call (part_of second 0 2) (eqb (bit_at second 2) 1) (part_of second 3 2)

-- bit 7 of a second byte, and the number below it
abbrev pub bit7 : ℕ → Bool
bit7 second = eqb (bit_at second 7) 1

abbrev pub below7 : ℕ → ℕ
below7 second = part_of second 0 7

-- "second byte is 128+V, CV = 897+V. Bit 7 clear: ignored."
unfoldable pub cv_of : ℕ → ℕ
cv_of second = 897 + below7 second

unfoldable pub of_cv : Bool → Command → Option Command
of_cv marked command = cond marked (Some command) None

-- "third byte 111K DBBB: K=0 verifies bit B against D, K=1 writes it; other top bits: ignored"
unfoldable pub bit_form : Bool → ℕ → ℕ → Option Command
bit_form marked cv third =
    cond (eqb (part_of third 5 3) 7)
    (cond (eqb (bit_at third 4) 0)
    (of_cv marked (VerifyBit cv (part_of third 0 3) (bit_at third 3)))
    (of_cv marked (WriteBit cv (part_of third 0 3) (bit_at third 3))))
    None

-- C-12, position high: "with data over 15 ignored"
unfoldable pub position_high_of : ℕ → Option Command
position_high_of second = cond (leb second 15) (Some (PositionHigh second)) None

-- the tables, by the first byte; "Every other first byte: two bytes, no effect" (C-02: thirteen of these have three; C-12: 0x88 and 0x89
-- are rows now)
unfoldable pub said_by : ℕ → ℕ → ℕ → Option Command
said_by first second third =
    cond (eqb first 0x00) (Some NoOperation)
    (cond (eqb first 0x24) (Some (ActualSpeed second))
    (cond (eqb first 0x25) (Some (WantedSpeed second))
    (cond (eqb first 0x26) (load_of second)
    (cond (eqb first 0x5E) (Some (AddressLow second))
    (cond (eqb first 0x5F) (Some (AddressHigh second))
    (cond (eqb first 0x60) (Some (FunctionsFrom0 (functions_of second)))
    (cond (eqb first 0x61) (Some (FunctionsFrom5 second))
    (cond (eqb first 0x62) (Some (FunctionsFrom13 second))
    (cond (eqb first 0x63) (Some (FunctionsFrom21 second))
    (cond (eqb first 0x6C) (Some (Control (part_of second 0 2)))
    (cond (eqb first 0x6D) (Some (ShortState (below7 second) (bit7 second)))
    (cond (eqb first 0x6E) (Some (LongLow (below7 second) (bit7 second)))
    (cond (eqb first 0x6F) (Some (LongHigh second))
    (cond (eqb first 0x01) (Some (call_said second))
    (cond (eqb first 0x0C) (Some (BankRead 1 second))
    (cond (eqb first 0x0D) (Some (BankRead 2 second))
    (cond (eqb first 0x0E) (Some (BankRead 3 second))
    (cond (eqb first 0x0F) (Some (ReadCv (second + 769)))
    (cond (eqb first 0x77) (of_cv (bit7 second) (VerifyByte (cv_of second) third))
    (cond (eqb first 0x7F) (of_cv (bit7 second) (WriteByte (cv_of second) third))
    (cond (eqb first 0x7B) (bit_form (bit7 second) (cv_of second) third)
    (cond (eqb first 0x88) (position_high_of second)
    (cond (eqb first 0x89) (Some (PositionLow second))
    None)))))))))))))))))))))))

-- C-02: "the thirteen others" of the sixteen first bytes from 0x70 to 0x7F: they begin no CV packet, and mean nothing (law `means_nothing`)
pub record OneOfThirteen (first : ℕ) : Type 0 where
  pub among : From70To7F first
  pub no_verify : first ≡ 0x77 → ⊥
  pub no_bit : first ≡ 0x7B → ⊥
  pub no_write : first ≡ 0x7F → ⊥

-- what is no packet means nothing
unfoldable pub meaning_of : Packet → Option Command
meaning_of p = cond (is_packet p) (said_by (byte_at p 0) (byte_at p 1) (byte_at p 2)) None
