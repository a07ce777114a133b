-- `bank::group_at` meets its contract: the bytes at a place are those that the rest begins with.
use mathlib.Core.Path.{◌∙◌, sym}
use native.Mathlib.Omega.{arith}
use Rattle.bank.proofs.Groups.{too_short, more_behind, open_there, last_there}
use Rattle.bank.proofs.group_at.Goals as goal

pub returns-then-reply-lt4 : goal.returns-then-reply-lt4
returns-then-reply-lt4 c =
    let x = c.args in sym (too_short x.closes x.reply.now x.at (omega arith))

pub returns-then-last-at : goal.returns-then-last-at
returns-then-last-at c =
    let x = c.args in sym (too_short x.closes x.reply.now x.at (omega arith))

pub returns-then-at-last : goal.returns-then-at-last
returns-then-at-last c =
    let x = c.args in
    rw c.if-closes.true (sym (more_behind x.reply.now x.at (omega arith)))

pub returns-then-closes : goal.returns-then-closes
returns-then-closes c =
    let x = c.args in
    rw c.if-closes.true (c.last_of.ensures ∙ sym (last_there x.reply.now x.at (omega arith)))

pub returns : goal.returns
returns c =
    let x = c.args in
    rw c.if-closes.false (c.group_of.ensures ∙ sym (open_there x.reply.now x.at (omega arith)))
