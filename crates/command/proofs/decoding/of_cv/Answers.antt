use Rattle.command.specs.Meaning.{of_cv}
use Rattle.command.proofs.decoding.of_cv.Goals as goal

pub returns-then-marked : goal.returns-then-marked
unfolding of_cv
returns-then-marked c = rw c.if-marked.true

pub returns-else-marked : goal.returns-else-marked
unfolding of_cv
returns-else-marked c = rw c.if-marked.false
