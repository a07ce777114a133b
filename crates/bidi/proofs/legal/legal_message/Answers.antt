use mathlib.Core.Path.{sym, ◌∙◌}
use borrow.Author.Tests.{eq-eqb, ne_eqb}
use Rattle.bidi.specs.Messages.{message_legal}
use Rattle.bidi.proofs.legal.legal_message.Goals as goal

pub returns-then-header : goal.returns-then-header
unfolding message_legal
returns-then-header c = simp (eq-eqb _ _ c.if-header.true) c.position_legal.ensures

pub returns-then-half_legal : goal.returns-then-half_legal
unfolding message_legal
returns-then-half_legal c =
    simp (ne_eqb _ _ c.if-header.false, sym c.half_legal.ensures ∙ c.if-half_legal.true) c.half_legal-then-half_legal.ensures

pub returns-else-half_legal : goal.returns-else-half_legal
unfolding message_legal
returns-else-half_legal c =
    simp (ne_eqb _ _ c.if-header.false, sym c.half_legal.ensures ∙ c.if-half_legal.false) c.if-half_legal.false
