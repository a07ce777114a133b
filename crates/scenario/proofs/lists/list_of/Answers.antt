use mathlib.Core.Path.{sym, ◌∙◌}
use Rattle.scenario.specs.Statements.{list_of}
use Rattle.scenario.proofs.Fitting as laws
use Rattle.scenario.proofs.lists.list_of.Goals as goal

pub returns-then-same : goal.returns-then-same
unfolding list_of
returns-then-same c =
    simp (laws.named _ c.word-first.ensures ∙ sym c.same.ensures ∙ c.if-same.true) c.read_of.ensures

pub returns-then-same-2 : goal.returns-then-same-2
unfolding list_of
returns-then-same-2 c =
    let w = c.word-first.ensures in
    simp (laws.named _ w ∙ sym c.same.ensures ∙ c.if-same.false, laws.named _ w ∙ sym c.same-2.ensures ∙ c.if-same-2.true) c.bytes_of.ensures

pub returns : goal.returns
unfolding list_of
returns c =
    let w = c.word-first.ensures in
    simp (laws.named _ w ∙ sym c.same.ensures ∙ c.if-same.false, laws.named _ w ∙ sym c.same-2.ensures ∙ c.if-same-2.false)
