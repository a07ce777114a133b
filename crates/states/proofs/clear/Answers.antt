use mathlib.Core.Path.{◌∙◌}
use Rattle.states.proofs.Filled.{filled_whole}
use Rattle.states.specs.States.{cleared}
use Rattle.states.proofs.clear.Goals as goal

pub returns : goal.returns
unfolding cleared
returns c =
    c.fill.ensures ∙ filled_whole c.args.states.now 4096 0 c.requires
