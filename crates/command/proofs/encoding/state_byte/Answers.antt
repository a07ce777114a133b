use Rattle.bits.proofs.Tests.{by}
use Rattle.command.specs.Saying.{state_byte}
use Rattle.command.proofs.encoding.state_byte.Goals as goal

pub returns : goal.returns
unfolding state_byte
returns c = by c.args.on (λ on. rw (c.from.ensures, on)) (λ off. rw (c.from.ensures, off))
