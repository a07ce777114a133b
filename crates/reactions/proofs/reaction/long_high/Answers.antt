use mathlib.Core.Path.{refl, sym, ◌∙◌}
use native.Mathlib.Omega.{arith}
use Rattle.bits.proofs.Parts.{part_lt}
use Rattle.reactions.specs.Reactions.{second_half}
use Rattle.reactions.proofs.reaction.long_high.Goals as goal

pub returns-then-not-holds_half : goal.returns-then-not-holds_half
unfolding second_half
returns-then-not-holds_half c =
    simp (sym c.holds_half.ensures ∙ c.if-not-holds_half.true) (record { value = c.nothing.ensures; states_after = refl })

pub stateson_after_long-stateson-requires : goal.stateson_after_long-stateson-requires
stateson_after_long-stateson-requires c =
    record { states_len = c.requires; number_bound = omega (arith, c.part_of.ensures, part_lt c.args.kept.halfbyte 0 7) }

pub set_long-requires : goal.set_long-requires
set_long-requires c =
    record { states_len = c.requires; number_bound = omega (arith, c.part_of.ensures, part_lt c.args.kept.halfbyte 0 7) }

pub returns : goal.returns
unfolding second_half
returns c =
    simp (sym c.holds_half.ensures ∙ c.if-not-holds_half.false) (record { value = c.switched.ensures ∙ rw (c.stateson_after_long-stateson.ensures, c.from.ensures, c.from-2.ensures, c.part_of.ensures, c.bit_at-on.ensures); states_after = c.set_long.ensures ∙ rw (c.from.ensures, c.from-2.ensures, c.part_of.ensures, c.bit_at-on.ensures) })
