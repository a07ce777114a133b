-- `history::unused_zero` meets its contract. The invariant: the rest is 0 if no bit was seen and the bytes from i on are 0.
-- two numbers have no bit together exactly if neither has one
use Prim.Native.Nat.{ℕ, ◌+◌, ◌-◌, ◌*◌, ◌≤◌, ◌<◌}
use mathlib.Core.Bool.{Bool, true, false, ◌&&◌}
use mathlib.Core.List.{List}
use mathlib.Core.Path.{◌≡◌, refl, sym, ◌∙◌}
use native.Mathlib.Nat.{le_of_eq}
use native.Mathlib.Omega.{arith}
use native.Mathlib.Numerals.{add-one}
use lib.Bits.{bit_or, or_add_and, and_le_l, and_le_r}
use lib.Dec.{eqb}
use lib.ListN.{length, get_or, take, drop, length-drop, drop_of_length-le}
use lib.Seq.{take_all, drop-cons}
use borrow.Author.Tests.{eqb-true, eqb-false, eq-eqb, ne_eqb}
use Rattle.bits.proofs.Tests.{by}
use Rattle.slots.specs.Slots.{all_zero, unused_zero}
use Rattle.history.proofs.unused_zero.Goals as goal

none-of-both : (a b : ℕ) → eqb (bit_or a b) 0 ≡ (eqb a 0 && eqb b 0)
none-of-both a b =
    by (eqb a 0)
    (λ x. by (eqb b 0) (λ y. let e : bit_or a b ≡ 0 = omega (arith, or_add_and a b, eqb-true a 0 x, eqb-true b 0 y) in simp (x, y, eq-eqb (bit_or a b) 0 e))
    (λ y. simp (x, y, ne_eqb (bit_or a b) 0 (λ z. eqb-false b 0 y (omega (arith, or_add_and a b, and_le_l a b, eqb-true a 0 x, z))))))
    (λ x. simp (x, ne_eqb (bit_or a b) 0 (λ z. eqb-false a 0 x (omega (arith, or_add_and a b, and_le_r a b, z)))))

together : (a b c : Bool) → (a && (b && c)) ≡ ((a && b) && c)
together true b c = refl
together false b c = refl

turn : (l : List ℕ) (seen i : ℕ) → i < length l → (eqb seen 0 && all_zero (drop i l)) ≡ (eqb (bit_or seen (get_or l i 0)) 0 && all_zero (drop (i + 1) l))
unfolding all_zero
turn l seen i h = rw (none-of-both seen (get_or l i 0), add-one i, drop-cons l i 0 h) (together (eqb seen 0) (eqb (get_or l i 0) 0) _)

and_true : (a : Bool) → (a && true) ≡ a
and_true true = refl
and_true false = refl

pub loop-byte-init : goal.loop-byte-init
unfolding unused_zero
loop-byte-init c =
    let a = c.args in
    let here = c.in-Some.ensures.lookup.0 in
    let same : 3 * a.reach ≡ a.reach * 3 = omega arith in
    let all : take (length a.changes.now - a.reach * 3) (drop (a.reach * 3) a.changes.now) ≡ drop (a.reach * 3) a.changes.now =
    take_all (length a.changes.now - a.reach * 3) (drop (a.reach * 3) a.changes.now) (le_of_eq (length-drop (a.reach * 3) a.changes.now)) in
    rw (same, here.2, c.from.ensures, all)

pub loop-byte-preserved : goal.loop-byte-preserved
loop-byte-preserved c =
    c.loop-byte.invariant ∙ turn c.in-Some.unused.now c.loop-byte.seen c.loop-byte.byte-index c.loop-byte-test.true

pub returns : goal.returns
unfolding all_zero
returns c =
    let l = c.loop-byte in
    sym (l.invariant ∙ rw (drop_of_length-le c.in-Some.unused.now c.loop-byte-test.false) (and_true (eqb l.seen 0)))

pub returns-in_default : goal.returns-in_default
unfolding unused_zero all_zero
returns-in_default c =
    let short : length c.args.changes.now ≤ 3 * c.args.reach = grind arith in
    rw (drop_of_length-le c.args.changes.now short)
