use mathlib.Core.Path.{sym, ◌∙◌}
use native.Mathlib.Omega.{arith}
use Rattle.store.specs.Sheet.{sheets_of}
use Rattle.store.specs.Store.{cell_of}
use Rattle.store.proofs.Sizes.{sizes_long_lem}
use Rattle.store.proofs.Reading.{readable_used, used_length}
use Rattle.store.proofs.cell.read_cell.Goals as goal

pub readable-requires : goal.readable-requires
readable-requires c = sizes_long_lem _ _ c.requires.fixed_value

pub returns-then-not-readable : goal.returns-then-not-readable
unfolding cell_of
returns-then-not-readable c = simp (sym c.readable.ensures ∙ c.if-not-readable.true)

-- the cell is readable, so it is a used one
pub bounds-cells-from : goal.bounds-cells-from
bounds-cells-from c =
    let sheets = sheets_of c.args.sheets.sizes.now c.args.sheets.fixed.now in
    let long = used_length c.args.store.now sheets c.args.bank c.requires.fixed_value c.requires.fixed_value_2 in
    let there = readable_used c.args.sheets.sizes.now c.args.bank c.args.offset (sym c.readable.ensures ∙ c.if-not-readable.false) in
    rw c.used_cells-cells.ensures (omega (arith, long, there, c.from.ensures))

pub returns : goal.returns
unfolding cell_of
returns c = simp (sym c.readable.ensures ∙ c.if-not-readable.false, c.from.ensures, c.used_cells-cells.ensures)
