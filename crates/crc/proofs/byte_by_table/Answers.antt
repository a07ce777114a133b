-- `crc::byte_by_table` meets its contract: the index is the exclusive or, and the table's rule at it is what a byte does.
use lib.Bits.{bit_xor, xor_lt}
use borrow.Author.Rules.{rules}
use Rattle.crc.specs.Crc.{crc_byte}
use Rattle.crc.proofs.byte_by_table.Goals as goal

pub bounds-table-from : goal.bounds-table-from
bounds-table-from c = let index = xor_lt 8 c.args.crc c.args.value (search rules) (search rules) in rw c.from.ensures index

pub returns : goal.returns
unfolding crc_byte
returns c =
    let x = c.args in
    rw c.from.ensures (c.requires (bit_xor x.crc x.value) (xor_lt 8 x.crc x.value (search rules) (search rules)))
