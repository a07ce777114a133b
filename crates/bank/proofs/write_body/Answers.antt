-- `bank::write_body` meets its contract: behind the pairs stands the end that the number of cells asks for.
-- the pairs leave room for a group
use Prim.Native.Nat.{ℕ, ◌-◌, ◌≤◌}
use mathlib.Core.List.{List, [], ◌∷◌}
use mathlib.Core.Path.{◌≡◌, sym, ◌∙◌, ap}
use native.Mathlib.Omega.{arith}
use lib.ListN.{length, get_or}
use Rattle.bank.specs.Reply.{pairs_of, body_of, at_front}
use Rattle.bank.proofs.Lists.{finished}
use Rattle.bank.proofs.Shape.{body_ended, body_full, end_odd, end_even, pairs_length}
use Rattle.bank.proofs.write_body.Goals as goal

pub returns-then-n-eq-MOST_CELLS : goal.returns-then-n-eq-MOST_CELLS
returns-then-n-eq-MOST_CELLS c =
    let cells = c.args.cells.now in
    let e : pairs_of cells ≡ body_of cells = sym (body_full cells (omega arith)) in
    record { value = c.write_pairs-at.ensures.value ∙ ap length e; room_after = c.write_pairs-at.ensures.room_after ∙ ap (λ (xs : List ℕ). at_front xs c.args.room.now) e }

pub put-requires : goal.put-requires
put-requires c =
    let short : c.write_pairs-at.result ≤ 80 = omega (arith, pairs_length c.args.cells.now, c.write_pairs-at.ensures.value) in
    omega (arith, short)

pub overflow_add-result : goal.overflow_add-result
overflow_add-result c =
    let short : c.write_pairs-at.result ≤ 80 = omega (arith, pairs_length c.args.cells.now, c.write_pairs-at.ensures.value) in
    omega (arith, short)

pub returns-then-n-eq1 : goal.returns-then-n-eq1
returns-then-n-eq1 c =
    let x = c.args in
    let odd = c.if-n-eq1.true in
    let f = finished (pairs_of x.cells.now) (0x8F ∷ get_or x.cells.now (length x.cells.now - 1) 0 ∷ 0x8E ∷ 0x01 ∷ []) (body_of x.cells.now) x.room.now _ c.write_pairs-at.result
    c.write_pairs-at.ensures.value c.write_pairs-at.ensures.room_after (body_ended x.cells.now (omega arith) ∙ rw (end_odd x.cells.now odd)) in
    record { value = f.0; room_after = c.put.ensures ∙ f.1 }

pub put-requires-2 : goal.put-requires-2
put-requires-2 c =
    let short : c.write_pairs-at.result ≤ 80 = omega (arith, pairs_length c.args.cells.now, c.write_pairs-at.ensures.value) in
    omega (arith, short)

pub overflow_add-result-2 : goal.overflow_add-result-2
overflow_add-result-2 c =
    let short : c.write_pairs-at.result ≤ 80 = omega (arith, pairs_length c.args.cells.now, c.write_pairs-at.ensures.value) in
    omega (arith, short)

pub returns : goal.returns
returns c =
    let x = c.args in
    let f = finished (pairs_of x.cells.now) (0x8E ∷ 0x01 ∷ 0x8E ∷ 0x01 ∷ []) (body_of x.cells.now) x.room.now _ c.write_pairs-at.result
    c.write_pairs-at.ensures.value c.write_pairs-at.ensures.room_after (body_ended x.cells.now (omega arith) ∙ rw (end_even x.cells.now (omega arith))) in
    record { value = f.0; room_after = c.put-2.ensures ∙ f.1 }
