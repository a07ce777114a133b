use native.Mathlib.Omega.{arith}
use Rattle.cells.specs.Roles.{offset_of}
use Rattle.cells.proofs.Owning.{own_from, own_to}
use Rattle.cells.proofs.role.offset_of.Goals as goal

pub overflow_sub-result : goal.overflow_sub-result
overflow_sub-result c =
    let a = c.args in
    omega (arith, own_from a.number a.cv c.requires.cv_value, c.shift.ensures)

pub overflow_cast-result : goal.overflow_cast-result
overflow_cast-result c =
    let a = c.args in
    omega (arith, own_from a.number a.cv c.requires.cv_value, own_to a.number a.cv c.requires.cv_value, c.shift.ensures)

pub returns : goal.returns
unfolding offset_of
returns c = rw c.shift.ensures
