-- `host::reader::read_bank` meets its contract: what was judged decides what is copied.
use mathlib.Core.Path.{◌≡◌, ap}
use native.Mathlib.Omega.{arith}
use Rattle.std.proofs.Common.{rules, Err}
use Rattle.host.specs.ReadBank.{small_room, read_as}
use Rattle.host.proofs.Walk.{there, written, kept}
use Rattle.host.proofs.reader.read_bank.Goals as goal

pub returns-then-room-lt-MOST_CELLS : goal.returns-then-room-lt-MOST_CELLS
returns-then-room-lt-MOST_CELLS c = small_room (omega arith)

pub returns-in_err-n : goal.returns-in_err-n
returns-in_err-n c =
    let x = c.args in
    let same : c.from_residual.result ≡ Err c.in_err-n.field-0.0 = search rules in
    let refused = ap read_as c.in_err-n.was in
    rw same (rw refused at (kept x.reply.now x.room.now (read_as c.judge.result) c.judge.ensures.0 _ (omega arith) c.judge.ensures.1 refused))

pub copy_cells-requires : goal.copy_cells-requires
copy_cells-requires c =
    let t = there c.args.reply.now (read_as c.judge.result) c.judge.ensures.0 _ c.judge.ensures.1 (ap read_as c.in_ok-n.was) in
    (t.0, omega (arith, t.1))

pub returns : goal.returns
returns c =
    let x = c.args in
    rw c.copy_cells.ensures
    (written x.reply.now x.room.now (read_as c.judge.result) c.judge.ensures.0 _ (omega arith) c.judge.ensures.1 (ap read_as c.in_ok-n.was))
