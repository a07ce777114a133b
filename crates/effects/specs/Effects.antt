-- THE TABLES of document 01, and the two rows of C-12: what a completed command does to a board and what it answers, a line for each.
use Rattle.line.specs.declared.packet.Packet.{Packet}
use Rattle.command.specs.declared.Command.{Command}
use Rattle.command.specs.declared.Command.TheVariants as C
use Rattle.std.specs.Prelude.{Option, Some, None}
use Rattle.command.specs.Meaning.{meaning_of}
use Rattle.command.specs.Saying.{state_byte}
use Rattle.drive.specs.Drive.{with_actual, with_wanted, with_load, with_functions, with_control}
use Rattle.store.specs.Sheet.{Sheets}
use Rattle.cells.specs.Settings.{verify_byte_of, verify_bit_of, write_byte_of, write_bit_of}
use Rattle.board.specs.declared.record.Half.TheVariants.{AddressHalf, StateHalf, PositionHalf}
use Rattle.board.specs.Board.{Board}
use Rattle.reactions.specs.Reactions.{Effect, no_effect, drive_effect, short_effect, half_effect, address_effect, long_effect, position_low_effect}
use Rattle.reactions.specs.Reactions.{verify_effect, write_effect, call_effect, bank_effect, cv_effect}

unfoldable pub effect_of : Board → Sheets → Command → Effect
effect_of b sheets C.NoOperation = no_effect b
effect_of b sheets (C.ActualSpeed speed) = drive_effect b (with_actual b.kept.drive speed)
effect_of b sheets (C.WantedSpeed speed) = drive_effect b (with_wanted b.kept.drive speed)
effect_of b sheets (C.Load load) = drive_effect b (with_load b.kept.drive load)
effect_of b sheets (C.AddressLow byte) = half_effect b AddressHalf byte
effect_of b sheets (C.AddressHigh byte) = address_effect b byte
effect_of b sheets (C.FunctionsFrom0 on) = drive_effect b (with_functions b.kept.drive 0 5 on)
effect_of b sheets (C.FunctionsFrom5 on) = drive_effect b (with_functions b.kept.drive 5 8 on)
effect_of b sheets (C.FunctionsFrom13 on) = drive_effect b (with_functions b.kept.drive 13 8 on)
effect_of b sheets (C.FunctionsFrom21 on) = drive_effect b (with_functions b.kept.drive 21 8 on)
effect_of b sheets (C.Control control) = drive_effect b (with_control b.kept.drive control)
effect_of b sheets (C.ShortState number on) = short_effect b number on
effect_of b sheets (C.LongLow low on) = half_effect b StateHalf (state_byte low on)
effect_of b sheets (C.LongHigh high) = long_effect b high
effect_of b sheets (C.VerifyByte cv value) = verify_effect b (verify_byte_of b.kept.settings cv value b.store sheets)
effect_of b sheets (C.WriteByte cv value) = write_effect b (write_byte_of b.kept.settings cv value b.store sheets.sizes)
effect_of b sheets (C.VerifyBit cv place value) = verify_effect b (verify_bit_of b.kept.settings cv place value b.store sheets)
effect_of b sheets (C.WriteBit cv place value) = write_effect b (write_bit_of b.kept.settings cv place value b.store sheets)
effect_of b sheets (C.Call number forced status) = call_effect b number forced status
effect_of b sheets (C.BankRead number bank) = bank_effect b sheets number bank
effect_of b sheets (C.ReadCv cv) = cv_effect b sheets cv
effect_of b sheets (C.PositionHigh high) = half_effect b PositionHalf high
effect_of b sheets (C.PositionLow low) = position_low_effect b low

-- a completed packet: its command, or nothing, which drops a held half too
unfoldable pub meaning_effect : Board → Sheets → Option Command → Effect
meaning_effect b sheets (Some command) = effect_of b sheets command
meaning_effect b sheets None = no_effect b

unfoldable pub packet_effect : Board → Sheets → Packet → Effect
packet_effect b sheets p = meaning_effect b sheets (meaning_of p)
