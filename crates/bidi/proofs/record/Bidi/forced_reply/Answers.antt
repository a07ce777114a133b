use Rattle.bits.proofs.Tests.{picks}
use Rattle.bidi.specs.Bidi.{forced_reply}
use Rattle.bidi.proofs.record.Bidi.forced_reply.Goals as goal

pub returns-then-status-le-STATUS_LAST : goal.returns-then-status-le-STATUS_LAST
unfolding forced_reply
returns-then-status-le-STATUS_LAST c = search picks

pub returns : goal.returns
unfolding forced_reply
returns c = search picks
