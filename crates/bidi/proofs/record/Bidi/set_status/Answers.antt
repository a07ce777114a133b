use mathlib.Core.Path.{sym, ◌∙◌}
use borrow.Author.Tests.{eq-eqb, ne_eqb}
use Rattle.bidi.specs.Bidi.{with_status}
use Rattle.bidi.proofs.record.Bidi.set_status.Goals as goal

pub returns-then-not-legal_status : goal.returns-then-not-legal_status
unfolding with_status
returns-then-not-legal_status c = simp (sym c.legal_status.ensures ∙ c.if-not-legal_status.true)

pub returns-then-number-eq0 : goal.returns-then-number-eq0
unfolding with_status
returns-then-number-eq0 c = simp (sym c.legal_status.ensures ∙ c.if-not-legal_status.false, eq-eqb _ _ c.if-number-eq0.true)

pub returns-else-number-eq0 : goal.returns-else-number-eq0
unfolding with_status
returns-else-number-eq0 c = simp (sym c.legal_status.ensures ∙ c.if-not-legal_status.false, ne_eqb _ _ c.if-number-eq0.false)
