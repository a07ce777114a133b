-- `states::fill` meets its contract.
use Rattle.std.proofs.lemmas.List.{length-take-le}
use Rattle.states.proofs.fill.Goals as goal

pub returns : goal.returns
returns c = rw (c.fill.ensures.after, length-take-le c.args.count c.args.states.now c.requires)
