use borrow.Author.Tests.{eq-eqb, ne_eqb}
use Rattle.bidi.specs.Bidi.{called_of}
use Rattle.bidi.proofs.record.Bidi.call.Goals as goal

pub returns-then-number-eq-NOBODY : goal.returns-then-number-eq-NOBODY
unfolding called_of
returns-then-number-eq-NOBODY c = simp (eq-eqb _ _ c.if-number-eq-NOBODY.true) c.silent.ensures

pub returns-then-number-own : goal.returns-then-number-own
unfolding called_of
returns-then-number-own c = simp (ne_eqb _ _ c.if-number-eq-NOBODY.false, ne_eqb _ _ c.if-number-own.true) c.silent-then-number-own.ensures

pub returns-then-forced : goal.returns-then-forced
unfolding called_of
returns-then-forced c =
    simp (ne_eqb _ _ c.if-number-eq-NOBODY.false, eq-eqb _ _ c.if-number-own.false, c.if-forced.true, c.answering.ensures, c.forced_reply.ensures)

pub returns : goal.returns
unfolding called_of
returns c =
    simp (ne_eqb _ _ c.if-number-eq-NOBODY.false, eq-eqb _ _ c.if-number-own.false, c.if-forced.false) c.unforced.ensures
