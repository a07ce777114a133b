use Rattle.bits.proofs.Tests.{by}
use Rattle.cells.specs.Settings.{with_wait}
use Rattle.cells.proofs.settings.Settings.with_wait.Goals as goal

pub returns : goal.returns
unfolding with_wait
returns c = by c.args.on (λ on. rw (c.from.ensures, on)) (λ off. rw (c.from.ensures, off))
