use mathlib.Core.Path.{refl}
use Rattle.lines.specs.Lines.{line_of}
use Rattle.lines.proofs.put_dash.Goals as goal

pub returns-clause-value : goal.returns-clause-value
unfolding line_of
returns-clause-value c = refl

pub returns-clause-out_after : goal.returns-clause-out_after
unfolding line_of
returns-clause-out_after c = c.put.ensures
