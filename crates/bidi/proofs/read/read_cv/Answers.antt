use mathlib.Core.Path.{sym, ◌∙◌}
use Rattle.bidi.specs.Read.{answers, own_half, reply_to, read_cv_of}
use Rattle.bidi.proofs.Reading.{own_read, not_own_read, next_fits, joined_halves}
use borrow.Author.Rules.{rules}
use Rattle.bidi.proofs.read.read_cv.Goals as goal

pub overflow_add-cv : goal.overflow_add-cv
overflow_add-cv c =
    let own = own_read c.args.settings c.args.cv _ _ _ (sym c.own_cell.ensures ∙ c.in_ok-own.was) in
    record { fits = next_fits c.args.settings c.args.cv (search rules) own }

pub returns : goal.returns
unfolding read_cv_of answers reply_to own_half
returns c =
    let s = c.args in
    let e = sym c.own_cell.ensures ∙ c.in_ok-own.was in
    rw (own_read s.settings s.cv _ _ _ e, e, ← c.cell_half-first.ensures, ← c.own_cell-2.ensures, ← c.own_half-second.ensures, joined_halves c.cell_half-first.result c.own_half-second.result (search rules) (search rules))

pub returns-in_err-own : goal.returns-in_err-own
unfolding read_cv_of answers
returns-in_err-own c =
    let s = c.args in
    rw (not_own_read s.settings s.cv _ _ (sym c.own_cell.ensures ∙ c.in_err-own.was), c.from_residual.ensures)
