use Rattle.lines.proofs.Spaced.{begun, turned}
use Rattle.lines.proofs.put_reply.Goals as goal

pub loop-i-init : goal.loop-i-init
loop-i-init c = begun _ _ _

pub loop-i-preserved : goal.loop-i-preserved
loop-i-preserved c =
    rw c.put_byte.ensures (turned c.requires c.loop-i.invariant c.loop-i-test.true)
