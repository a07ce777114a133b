use mathlib.Core.Path.{◌≡◌, sym, ◌∙◌}
use mathlib.Core.Bool.{true}
use Rattle.board.specs.Board.{module_possible, buffers_hold, first_broken, board_refusal}
use Rattle.store.proofs.Sizes.{sizes_long_lem, fixed_long_lem}
use Rattle.board.proofs.Checked.{lengths_right}
use Rattle.store.specs.Sheet.{sheets_of}
use Rattle.board.proofs.record.Module.refusal.Goals as goal

pub returns-then-not-possible : goal.returns-then-not-possible
unfolding board_refusal first_broken
returns-then-not-possible c = simp (sym c.possible.ensures ∙ c.if-not-possible.true)

pub returns-then-not-buffers_hold : goal.returns-then-not-buffers_hold
unfolding board_refusal first_broken
returns-then-not-buffers_hold c =
    let kept-possible : module_possible c.args.self ≡ true = sym c.possible.ensures ∙ c.if-not-possible.false in
    simp (kept-possible, sym c.buffers_hold.ensures ∙ c.if-not-buffers_hold.true)

pub sheets_hold-requires : goal.sheets_hold-requires
sheets_hold-requires c =
    let a = c.args in
    let buffers-right : buffers_hold a.states.now a.store.now (sheets_of a.sheets.sizes.now a.sheets.fixed.now) a.room.now ≡ true = sym c.buffers_hold.ensures ∙ c.if-not-buffers_hold.false in
    let l = lengths_right _ _ _ _ buffers-right in
    record { sheet_value = sizes_long_lem _ _ l; fixed_value = fixed_long_lem _ _ l }

pub returns-then-not-sheets_hold : goal.returns-then-not-sheets_hold
unfolding board_refusal first_broken
returns-then-not-sheets_hold c =
    let kept-possible : module_possible c.args.self ≡ true = sym c.possible.ensures ∙ c.if-not-possible.false in
    let buffers-right : let a = c.args in buffers_hold a.states.now a.store.now (sheets_of a.sheets.sizes.now a.sheets.fixed.now) a.room.now ≡ true = sym c.buffers_hold.ensures ∙ c.if-not-buffers_hold.false in
    simp (kept-possible, buffers-right, sym c.sheets_hold.ensures ∙ c.if-not-sheets_hold.true)

pub returns : goal.returns
unfolding board_refusal first_broken
returns c =
    let kept-possible : module_possible c.args.self ≡ true = sym c.possible.ensures ∙ c.if-not-possible.false in
    let buffers-right : let a = c.args in buffers_hold a.states.now a.store.now (sheets_of a.sheets.sizes.now a.sheets.fixed.now) a.room.now ≡ true = sym c.buffers_hold.ensures ∙ c.if-not-buffers_hold.false in
    simp (kept-possible, buffers-right, sym c.sheets_hold.ensures ∙ c.if-not-sheets_hold.false)
