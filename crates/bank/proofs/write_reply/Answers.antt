-- `bank::write_reply` meets its contract: behind the body stands the group with its checksum.
-- the body leaves room for a group
use Prim.Native.Nat.{◌≤◌}
use mathlib.Core.List.{[], ◌∷◌}
use mathlib.Core.Path.{◌≡◌, sym, ◌∙◌, ap}
use native.Mathlib.Omega.{arith}
use lib.Seq.{length-take-le}
use Rattle.bank.specs.Reply.{body_of, closed_by, checksum_of, reply_of}
use Rattle.bank.proofs.Lists.{front_taken, finished}
use Rattle.bank.proofs.Shape.{body_fits}
use Rattle.bank.proofs.write_reply.Goals as goal

pub slice_bounds-checksum-end : goal.slice_bounds-checksum-end
slice_bounds-checksum-end c =
    let short : c.write_body-at.result ≤ 80 = omega (arith, body_fits c.args.cells.now c.requires.cells_len_bound, c.write_body-at.ensures.value) in
    omega (arith, short)

pub slice_bounds-checksum-end-2 : goal.slice_bounds-checksum-end-2
slice_bounds-checksum-end-2 c =
    let short : c.write_body-at.result ≤ 80 = omega (arith, body_fits c.args.cells.now c.requires.cells_len_bound, c.write_body-at.ensures.value) in
    sym (length-take-le _ _ (omega (arith, short)))

pub put-requires : goal.put-requires
put-requires c =
    let short : c.write_body-at.result ≤ 80 = omega (arith, body_fits c.args.cells.now c.requires.cells_len_bound, c.write_body-at.ensures.value) in
    omega (arith, short)

pub overflow_add-result : goal.overflow_add-result
overflow_add-result c =
    let short : c.write_body-at.result ≤ 80 = omega (arith, body_fits c.args.cells.now c.requires.cells_len_bound, c.write_body-at.ensures.value) in
    omega (arith, short)

pub returns : goal.returns
unfolding reply_of closed_by
returns c =
    let x = c.args in
    let sum : c.checksum-c.result ≡ checksum_of (body_of x.cells.now) =
    c.checksum-c.ensures ∙ ap checksum_of (front_taken (body_of x.cells.now) x.room.now _ c.write_body-at.result c.write_body-at.ensures.value c.write_body-at.ensures.room_after) in
    let f = finished (body_of x.cells.now) (0x8F ∷ c.checksum-c.result ∷ 0x8F ∷ 0x00 ∷ []) (reply_of x.cells.now) x.room.now _ c.write_body-at.result
    c.write_body-at.ensures.value c.write_body-at.ensures.room_after (rw sum) in
    record { value = f.0; room_after = c.put.ensures ∙ f.1 }
