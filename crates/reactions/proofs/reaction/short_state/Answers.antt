use mathlib.Core.Path.{◌∙◌}
use Rattle.reactions.proofs.reaction.short_state.Goals as goal

pub returns : goal.returns
returns c =
    record { value = c.switched.ensures ∙ rw c.stateson_after_short-stateson.ensures; states_after = c.set_short.ensures }
