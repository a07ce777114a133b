use mathlib.Core.Path.{refl, sym, ◌∙◌}
use Rattle.reactions.specs.Reactions.{second_half}
use Rattle.reactions.proofs.reaction.position_low.Goals as goal

pub returns-then-not-holds_half : goal.returns-then-not-holds_half
unfolding second_half
returns-then-not-holds_half c = simp (sym c.holds_half.ensures ∙ c.if-not-holds_half.true) c.nothing.ensures

pub returns : goal.returns
unfolding second_half
returns c =
    simp (sym c.holds_half.ensures ∙ c.if-not-holds_half.false) (rw (c.with_position.ensures, c.without_half.ensures, c.heard-position.ensures) refl)
