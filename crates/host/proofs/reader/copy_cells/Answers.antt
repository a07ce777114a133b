-- `host::reader::copy_cells` meets its contract. The invariant: the first k data bytes stand at the front.
use mathlib.Core.Path.{refl, ◌∙◌}
use Rattle.host.proofs.Copying.{turned, ended}
use Rattle.host.proofs.reader.copy_cells.Goals as goal

pub loop-k-preserved : goal.loop-k-preserved
loop-k-preserved c =
    let going = c.loop-k.invariant in
    let step = rw c.in-Some.is at c.next.ensures.steps in
    let cut = step.0 in
    (cut.0 ∙ going.0, rw (step.1, step.2) (turned going.1 c.in-Some.pair.now _ cut.1.0 (cut.1.1 ∙ going.0)))

pub returns : goal.returns
returns c =
    let going = c.loop-k.invariant in
    let step = rw c.in-None.is at c.next.ensures.steps in
    ended going.1 c.args.n c.args.reply.now refl c.requires.0 (rw going.0 at step.0.1.0)
