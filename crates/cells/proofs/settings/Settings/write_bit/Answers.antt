use mathlib.Core.Path.{refl, sym, ◌∙◌}
use Rattle.store.proofs.Sizes.{store_long_lem, sizes_long_lem}
use Rattle.cells.specs.Settings.{write_bit_of, bit_written}
use Rattle.cells.proofs.settings.Settings.write_bit.Goals as goal

pub returns-in_err-byte : goal.returns-in_err-byte
unfolding write_bit_of bit_written
returns-in_err-byte c =
    rw (sym c.read.ensures ∙ c.in_err-byte.was) (record { value = rw c.from_residual.ensures; store_after = refl })

pub write_byte-requires : goal.write_byte-requires
write_byte-requires c =
    let l = c.requires.fixed_value in
    record { store_value = store_long_lem _ _ l; sheet_value = sizes_long_lem _ _ l }

pub returns : goal.returns
unfolding write_bit_of bit_written
returns c =
    rw (← c.read.ensures, c.in_ok-byte.was)
    (rw c.with_bit.ensures at c.write_byte.ensures)
