-- `bidi::legal_status` meets its contract: that a mask picks the bits of a status is computed for every byte.
use Prim.Native.Nat.{◌+◌, ◌*◌}
use mathlib.Core.Path.{refl, ap}
use native.Mathlib.Omega.{arith}
use lib.Bits.{bit_and}
use lib.Dec.{eqb}
use borrow.Author.Tests.{ne_eqb}
use Rattle.bits.specs.Bits.{part_of, bit_at}
use Rattle.bits.proofs.Tests.{equal_below}
use Rattle.bidi.specs.Messages.{status_legal}
use Rattle.bidi.proofs.legal.legal_status.Goals as goal

pub returns-in-0 : goal.returns-in-0
unfolding status_legal part_of
returns-in-0 c =
    let s = c.args.value in
    let e = equal_below 256 (λ n. bit_and n 0x13) (λ n. bit_at n 0 + 2 * bit_at n 1 + 16 * bit_at n 4) refl s (omega arith) in
    rw c.in-0.is (ap (eqb s) e)

pub returns-in-1 : goal.returns-in-1
unfolding status_legal part_of
returns-in-1 c =
    let s = c.args.value in
    let e = equal_below 256 (λ n. bit_and n 0x03) (λ n. bit_at n 0 + 2 * bit_at n 1) refl s (omega arith) in
    rw c.in-1.is (ap (eqb s) e)

pub returns-in_default : goal.returns-in_default
unfolding status_legal
returns-in_default c = simp (ne_eqb c.args.number 0 (λ e. omega arith), ne_eqb c.args.number 1 (λ e. omega arith))
