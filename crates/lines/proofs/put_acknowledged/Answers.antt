use mathlib.Core.Path.{◌∙◌}
use Rattle.lines.proofs.Spaced.{acknowledged}
use Rattle.lines.proofs.put_acknowledged.Goals as goal

pub returns-clause-value : goal.returns-clause-value
returns-clause-value c =
    (acknowledged c.args.out.now c.args.at c.args.reply.now c.requires.at_in_bounds c.requires.reply_len_bound).0

pub returns-clause-out_after : goal.returns-clause-out_after
returns-clause-out_after c =
    let law = acknowledged c.args.out.now c.args.at c.args.reply.now c.requires.at_in_bounds c.requires.reply_len_bound in
    c.put-2.ensures ∙ rw (c.put_reply.ensures, c.put.ensures) law.1
