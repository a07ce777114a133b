-- `view::view_refusal` meets its contract: past the first test store and sheets have their lengths (`long`).
use mathlib.Core.Bool.{true}
use mathlib.Core.Path.{◌≡◌, sym, ◌∙◌}
use Rattle.store.specs.Sheet.{sheets_of, lengths_hold}
use Rattle.store.proofs.Sizes.{sizes_long_lem, fixed_long_lem}
use Rattle.view.specs.View.{view_refusal, ViewRefusalPromise}
use Rattle.view.proofs.view_refusal.Goals as goal

pub returns-then-not-lengths_hold : goal.returns-then-not-lengths_hold
unfolding ViewRefusalPromise view_refusal
returns-then-not-lengths_hold c = simp (sym c.lengths_hold.ensures ∙ c.if-not-lengths_hold.true)

pub sheets_hold-requires : goal.sheets_hold-requires
sheets_hold-requires c =
    let long : lengths_hold c.args.store.now (sheets_of c.args.sheets.sizes.now c.args.sheets.fixed.now) ≡ true = sym c.lengths_hold.ensures ∙ c.if-not-lengths_hold.false in
    record { sheet_value = sizes_long_lem _ _ long; fixed_value = fixed_long_lem _ _ long }

pub returns-then-not-sheets_hold : goal.returns-then-not-sheets_hold
unfolding ViewRefusalPromise view_refusal
returns-then-not-sheets_hold c =
    let long : lengths_hold c.args.store.now (sheets_of c.args.sheets.sizes.now c.args.sheets.fixed.now) ≡ true = sym c.lengths_hold.ensures ∙ c.if-not-lengths_hold.false in
    simp (long, sym c.sheets_hold.ensures ∙ c.if-not-sheets_hold.true)

pub returns : goal.returns
unfolding ViewRefusalPromise view_refusal
returns c =
    let long : lengths_hold c.args.store.now (sheets_of c.args.sheets.sizes.now c.args.sheets.fixed.now) ≡ true = sym c.lengths_hold.ensures ∙ c.if-not-lengths_hold.false in
    simp (long, sym c.sheets_hold.ensures ∙ c.if-not-sheets_hold.false)
