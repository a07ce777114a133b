use mathlib.Core.Path.{refl, sym, ◌∙◌}
use native.Mathlib.Omega.{arith}
use borrow.Author.Tests.{eq-eqb, ne_eqb}
use Rattle.store.specs.Sheet.{sheets_of}
use Rattle.store.proofs.Sizes.{sizes_long_lem, leading_at_most}
use Rattle.store.proofs.Reading.{bank_length}
use Rattle.reactions.specs.Reactions.{bytes_if, bank_answers}
use Rattle.reactions.proofs.replies.bank_read.Goals as goal

pub returns-then-asked-module_number : goal.returns-then-asked-module_number
unfolding bytes_if bank_answers
returns-then-asked-module_number c =
    simp (ne_eqb _ _ (λ e. c.if-asked-module_number.true (e ∙ sym c.module_number.ensures))) (record { value = c.nothing.ensures; room_after = refl })

pub size_of-requires : goal.size_of-requires
size_of-requires c =
    sizes_long_lem _ _ c.requires.fixed_value

pub returns-then-size_of-eq0 : goal.returns-then-size_of-eq0
unfolding bytes_if bank_answers
returns-then-size_of-eq0 c =
    simp (eq-eqb _ _ (c.if-asked-module_number.false ∙ c.module_number.ensures), eq-eqb _ _ (sym c.size_of.ensures ∙ c.if-size_of-eq0.true)) (record { value = c.nothing-then-size_of-eq0.ensures; room_after = refl })

pub write_reply-length-requires : goal.write_reply-length-requires
write_reply-length-requires c =
    let h = leading_at_most (sheets_of c.args.sheets.sizes.now c.args.sheets.fixed.now) c.requires.fixed_value_2 c.args.bank in
    let l = bank_length c.args.store.now (sheets_of c.args.sheets.sizes.now c.args.sheets.fixed.now) c.args.bank c.requires.fixed_value c.requires.fixed_value_2 in
    record { cells_len_bound = rw c.bank_cells.ensures (omega (arith, l, h)); in_bounds = c.requires.in_bounds }

pub returns : goal.returns
unfolding bytes_if bank_answers
returns c =
    simp (eq-eqb _ _ (c.if-asked-module_number.false ∙ c.module_number.ensures), ne_eqb _ _ (λ e. c.if-size_of-eq0.false (c.size_of.ensures ∙ e)))
    (record { value = rw (c.without_half.ensures, c.write_reply-length.ensures.value, c.bank_cells.ensures) refl; room_after = c.write_reply-length.ensures.room_after ∙ rw c.bank_cells.ensures })
