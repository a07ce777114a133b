-- `host::reader::closed` meets its contract.
-- the group that was read
use mathlib.Core.Bool.{true}
use mathlib.Core.Path.{◌≡◌, sym, ◌∙◌}
use native.Mathlib.Omega.{arith}
use lib.ListN.{drop}
use lib.Seq.{length-take-le}
use Rattle.bank.specs.declared.Group.TheVariants as G
use Rattle.bank.specs.Group.{group_at}
use Rattle.host.proofs.Walk.{no_checksum, at_end, summed, not_summed}
use Rattle.host.proofs.reader.closed.Goals as goal

pub returns-in_default : goal.returns-in_default
returns-in_default c = rw (← c.group_at.ensures) (no_checksum _ _ c.group_at.result c.in_default.not-Checksum)

pub slice_bounds-checksum-end : goal.slice_bounds-checksum-end
slice_bounds-checksum-end c =
    let group : group_at true (drop c.args.at c.args.reply.now) ≡ G.Checksum c.in-Checksum.c = sym c.group_at.ensures ∙ c.in-Checksum.is in
    let x = c.args in
    sym (length-take-le x.at x.reply.now (omega (arith, at_end x.reply.now x.at _ group)))

pub returns-then-c-checksum : goal.returns-then-c-checksum
returns-then-c-checksum c =
    let group : group_at true (drop c.args.at c.args.reply.now) ≡ G.Checksum c.in-Checksum.c = sym c.group_at.ensures ∙ c.in-Checksum.is in
    summed _ _ _ _ group (c.if-c-checksum.true ∙ c.checksum.ensures)

pub returns-else-c-checksum : goal.returns-else-c-checksum
returns-else-c-checksum c =
    let group : group_at true (drop c.args.at c.args.reply.now) ≡ G.Checksum c.in-Checksum.c = sym c.group_at.ensures ∙ c.in-Checksum.is in
    not_summed _ _ _ _ group (λ e. c.if-c-checksum.false (e ∙ sym c.checksum.ensures))
