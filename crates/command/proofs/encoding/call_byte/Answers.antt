use Rattle.bits.proofs.Tests.{by}
use Rattle.command.specs.Saying.{call_byte}
use Rattle.command.proofs.encoding.call_byte.Goals as goal

pub returns : goal.returns
unfolding call_byte
returns c = by c.args.forced (λ on. rw (c.from.ensures, on)) (λ off. rw (c.from.ensures, off))
