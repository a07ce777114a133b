use mathlib.Core.Path.{sym}
use native.Mathlib.Omega.{arith}
use lib.Seq.{length-take-le}
use Rattle.store.specs.Sheet.{sheets_of}
use Rattle.store.specs.Store.{bank_cells}
use Rattle.store.proofs.Sizes.{sizes_long_lem, leading_used}
use Rattle.store.proofs.Reading.{used_length}
use Rattle.store.proofs.cell.bank_cells.Goals as goal

pub leading-requires : goal.leading-requires
leading-requires c = sizes_long_lem _ _ c.requires.fixed_value

pub slice_bounds-result-end : goal.slice_bounds-result-end
slice_bounds-result-end c =
    let sheets = sheets_of c.args.sheets.sizes.now c.args.sheets.fixed.now in
    let long = used_length c.args.store.now sheets c.args.bank c.requires.fixed_value c.requires.fixed_value_2 in
    sym (length-take-le _ c.used_cells-cells.result.now (rw c.used_cells-cells.ensures (omega (arith, long, c.from-count.ensures, c.leading.ensures, leading_used c.args.sheets.sizes.now c.args.bank))))

pub returns : goal.returns
unfolding bank_cells
returns c = rw (c.from-count.ensures, c.leading.ensures, c.used_cells-cells.ensures)
