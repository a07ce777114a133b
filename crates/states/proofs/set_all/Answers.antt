use native.Mathlib.Omega.{arith}
use lib.ListN.{drop}
use Rattle.states.specs.States.{all_of, with_all}
use Rattle.states.proofs.Filled.{first_other}
use Rattle.states.proofs.set_all.Goals as goal

pub returns-then-on : goal.returns-then-on
unfolding with_all all_of
returns-then-on c =
    let a = c.args in
    rw (c.if-on.true, c.fill.ensures)
    (first_other a.count 255 254 (drop a.count a.states.now) (omega arith))

pub returns-else-on : goal.returns-else-on
unfolding with_all all_of
returns-else-on c = rw c.if-on.false c.fill-else-on.ensures
