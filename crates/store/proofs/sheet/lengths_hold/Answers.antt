use mathlib.Core.Path.{sym, ◌∙◌}
use borrow.Author.Tests.{eq-eqb, ne_eqb}
use Rattle.bits.proofs.Tests.{clash}
use Rattle.store.specs.Sheet.{store_long, sizes_long, fixed_long, lengths_hold}
use Rattle.store.proofs.sheet.lengths_hold.Goals as goal
use Rattle.store.proofs.sheet.lengths_hold.Goals.{then-store-eq-STORE_BYTES, else-store-eq-STORE_BYTES}

pub returns-then-sheets-eq-BANKS : goal.returns-then-sheets-eq-BANKS
unfolding lengths_hold store_long sizes_long fixed_long
returns-then-sheets-eq-BANKS c =
    elim c.if-store-eq-STORE_BYTES.branch [
      | then-store-eq-STORE_BYTES w ↦ simp (eq-eqb _ _ w.if-store-eq-STORE_BYTES.true, sym w.value-is ∙ c.if-sheets-eq-BANKS.true)
      | else-store-eq-STORE_BYTES w ↦ clash c.if-sheets-eq-BANKS.true (w.value-is ∙ ne_eqb _ _ w.if-store-eq-STORE_BYTES.false)
    ]

pub returns-else-sheets-eq-BANKS : goal.returns-else-sheets-eq-BANKS
unfolding lengths_hold store_long sizes_long fixed_long
returns-else-sheets-eq-BANKS c =
    elim c.if-store-eq-STORE_BYTES.branch [
      | then-store-eq-STORE_BYTES w ↦ simp (eq-eqb _ _ w.if-store-eq-STORE_BYTES.true, c.if-sheets-eq-BANKS.false, sym w.value-is ∙ c.if-sheets-eq-BANKS.false)
      | else-store-eq-STORE_BYTES w ↦ simp (w.value-is, ne_eqb _ _ w.if-store-eq-STORE_BYTES.false)
    ]
