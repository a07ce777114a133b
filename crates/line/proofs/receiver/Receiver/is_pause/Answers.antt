use native.Mathlib.Omega.{arith}
use Rattle.line.specs.Line.{late, is_pause}
use Rattle.line.proofs.Laws.{start_le}
use Rattle.line.proofs.receiver.Receiver.is_pause.Goals as goal

pub overflow_sub-result : goal.overflow_sub-result
overflow_sub-result c =
    omega (arith, c.start_for.ensures, start_le c.args.self c.requires.self_value c.args.time c.requires.last_le_time)

pub returns : goal.returns
unfolding is_pause late
returns c = rw c.start_for.ensures
