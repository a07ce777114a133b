use mathlib.Core.Logic.{⊎_elim}
use Rattle.std.proofs.Common.{arith}
use Rattle.std.proofs.lemmas.Bool.Decides.{nat_tests}
use Rattle.bidi.specs.Messages.{signal_legal}
use Rattle.bidi.proofs.legal.signal_legal.Goals as goal

pub returns-in-0 : goal.returns-in-0
unfolding signal_legal
returns-in-0 c = ⊎_elim (λ e. rw e) (λ w. ⊎_elim (λ e. rw e) (λ e. rw e) w) c.in-0.is

pub returns-in_default : goal.returns-in_default
unfolding signal_legal
returns-in_default c = grind (arith, nat_tests)
