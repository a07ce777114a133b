use Prim.Native.Nat.{◌+◌, ◌-◌}
use mathlib.Core.Path.{◌≡◌, sym}
use native.Mathlib.Omega.{arith}
use lib.Seq.{length-take-le}
use borrow.Author.Tests.{eq-eqb, ne_eqb}
use Rattle.store.specs.Sheet.{sheets_of}
use Rattle.store.specs.Store.{used_cells}
use Rattle.store.proofs.Reading.{used_in_store, used_in_fixed}
use Rattle.store.proofs.Sizes.{sizes_long_lem}
use Rattle.store.proofs.cell.used_cells.Goals as goal

pub size_of-requires : goal.size_of-requires
size_of-requires c = sizes_long_lem _ _ c.requires.fixed_value

pub slice_bounds-result-end : goal.slice_bounds-result-end
slice_bounds-result-end c =
    let fits = used_in_fixed c.args.store.now (sheets_of c.args.sheets.sizes.now c.args.sheets.fixed.now) c.args.bank c.requires.fixed_value c.requires.fixed_value_2 in
    sym (length-take-le _ c.args.sheets.fixed.now (rw (c.from-size.ensures, c.size_of.ensures) fits))

pub returns-then-bank-eq-FIXED_BANK : goal.returns-then-bank-eq-FIXED_BANK
unfolding used_cells
returns-then-bank-eq-FIXED_BANK c = rw (eq-eqb _ _ c.if-bank-eq-FIXED_BANK.true, c.from-size.ensures, c.size_of.ensures)

pub overflow_add-result : goal.overflow_add-result
overflow_add-result c =
    omega (arith, used_in_store c.args.store.now (sheets_of c.args.sheets.sizes.now c.args.sheets.fixed.now) c.args.bank c.requires.fixed_value c.requires.fixed_value_2 (omega arith), c.cell_place-start.ensures, c.from-size.ensures, c.size_of.ensures)

pub slice_bounds-result-end-2 : goal.slice_bounds-result-end-2
slice_bounds-result-end-2 c =
    omega (arith, used_in_store c.args.store.now (sheets_of c.args.sheets.sizes.now c.args.sheets.fixed.now) c.args.bank c.requires.fixed_value c.requires.fixed_value_2 (omega arith), c.cell_place-start.ensures, c.from-size.ensures, c.size_of.ensures)

pub returns : goal.returns
unfolding used_cells
returns c =
    let e : c.cell_place-start.result + c.from-size.result - c.cell_place-start.result ≡ c.from-size.result = omega arith in
    rw (e, ne_eqb _ _ c.if-bank-eq-FIXED_BANK.false, c.cell_place-start.ensures, c.from-size.ensures, c.size_of.ensures)
