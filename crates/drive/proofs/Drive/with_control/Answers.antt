use mathlib.Core.Path.{sym, ◌∙◌}
use borrow.Author.Tests.{eq-eqb, ne_eqb}
use Rattle.drive.specs.Drive.{with_control}
use Rattle.drive.proofs.Drive.with_control.Goals as goal

pub returns-then-bit_at-eq0 : goal.returns-then-bit_at-eq0
unfolding with_control
returns-then-bit_at-eq0 c = simp (eq-eqb _ _ (sym c.bit_at.ensures ∙ c.if-bit_at-eq0.true))

pub returns-else-bit_at-eq0 : goal.returns-else-bit_at-eq0
unfolding with_control
returns-else-bit_at-eq0 c = simp (ne_eqb _ _ (λ e. c.if-bit_at-eq0.false (c.bit_at.ensures ∙ e)))
