use Rattle.states.proofs.Filled.{flag_bit}
use Rattle.states.proofs.stateson.stateson_after_one.Goals as goal

pub returns : goal.returns
returns c = rw (c.moved.ensures, c.from.ensures, c.from-2.ensures, flag_bit c.args.on, c.bit_at.ensures, c.from-at.ensures)
