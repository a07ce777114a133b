use Rattle.command.specs.Meaning.{bit_form}
use borrow.Author.Tests.{ne_eqb, eq-eqb}
use mathlib.Core.Path.{◌≡◌, sym, ◌∙◌}
use mathlib.Core.Bool.{true}
use lib.Dec.{eqb}
use Rattle.bits.specs.Bits.{part_of}
use Rattle.command.proofs.decoding.bit_form.Goals as goal

pub returns-then-part_of-ne7 : goal.returns-then-part_of-ne7
unfolding bit_form
returns-then-part_of-ne7 c = simp (ne_eqb _ _ (λ e. c.if-part_of-ne7.true (c.part_of.ensures ∙ e)))

pub returns-then-bit_at-eq0 : goal.returns-then-bit_at-eq0
unfolding bit_form
returns-then-bit_at-eq0 c =
    let top-bits : eqb (part_of c.args.third 5 3) 7 ≡ true = eq-eqb _ _ (sym c.part_of.ensures ∙ c.if-part_of-ne7.false) in
    simp (top-bits, eq-eqb _ _ (sym c.bit_at.ensures ∙ c.if-bit_at-eq0.true), ← c.part_of-place.ensures, ← c.bit_at-value.ensures)
    c.of_cv.ensures

pub returns : goal.returns
unfolding bit_form
returns c =
    let top-bits : eqb (part_of c.args.third 5 3) 7 ≡ true = eq-eqb _ _ (sym c.part_of.ensures ∙ c.if-part_of-ne7.false) in
    simp (top-bits, ne_eqb _ _ (λ e. c.if-bit_at-eq0.false (c.bit_at.ensures ∙ e)), ← c.part_of-place.ensures, ← c.bit_at-value.ensures)
    c.of_cv-2.ensures
