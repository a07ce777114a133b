-- Lines and what they say.
use mathlib.Core.Bool.{false}
use mathlib.Core.Path.{◌≡◌, refl}
use Prim.Native.String.{String}
use Rattle.command.specs.declared.Command.TheVariants.{Call}
use Rattle.scenario.specs.declared.grammar.Statement.{Statement}
use Rattle.scenario.specs.declared.grammar.Statement.TheVariants.{Blank, Wrong, Edge, Post, Cell, Set, Length, Encode, Read, Bytes}
use Rattle.scenario.specs.declared.grammar.Field.TheVariants as field
use Rattle.scenario.specs.declared.grammar.Buffer.TheVariants.{Room}
use Rattle.scenario.specs.Words.{text, up_to, pieces, parts_of, same}
use Rattle.scenario.specs.Numbers.{digit_value, all_digits, digits_value, is_numeral, numeral_of, is_hex, word_number, within, value_of, pair_of}
use Rattle.scenario.specs.Forms.{fits_word, fits}
use Rattle.scenario.specs.Statements.{first_fitting, is_byte_word, all_bytes, bytes_in, bytes_statement, read_statement, list_of, encode_of, set_of, plain_of, words_say, statement_of}

abbrev Says : String → Statement → Type 0
Says line says = statement_of (text line) ≡ says

examples :
    (Says "# a write to CV 902" Blank)
    × (Says "0 1 # an edge" (Edge 0 1))
    × (Says "100 256" Wrong)
    × (Says "  post 0x83  1 0x83 2" (Post 131 1 131 2))
    × (Says "cell 0 39 9" (Cell 0 39 9))
    × (Says "cell 0 40 9" Wrong)
    × (Says "cell 0 2" Wrong)
    × (Says "set address 65535" (Set field.Address 65535))
    × (Says "set address 65536" Wrong)
    × (Says "length room 200" (Length Room 200))
    × (Says "encode call 1 0 2" (Encode (Call 1 false 2)))
    × (Says "read 9 0xff" (Read 2))
    × (Says "bytes 0 7F 85 0a" (Bytes 0 3))
    × (Says "bytes 9223372036854775808 7F" Wrong)
    × (Says "bytes 0 0x7F" Wrong)
    × (Says "bytes 0" Wrong)
    × (Says "Cut" Wrong)
unfolding up_to pieces parts_of same digit_value all_digits digits_value is_numeral numeral_of is_hex word_number within value_of pair_of fits_word fits first_fitting is_byte_word all_bytes bytes_in bytes_statement read_statement list_of encode_of set_of plain_of words_say statement_of
examples = (refl, refl, refl, refl, refl, refl, refl, refl, refl, refl, refl, refl, refl, refl, refl, refl, refl)
