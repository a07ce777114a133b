use Prim.Native.Nat.{suc, ◌+◌, ◌*◌, ◌^◌, ◌<◌, ◌≤◌}
use mathlib.Core.Path.{◌≡◌, sym, ◌∙◌, ap}
use native.Mathlib.Omega.{arith}
use native.Mathlib.Numerals.{add-one}
use lib.ListN.{get_or, drop}
use Rattle.std.proofs.Common.{eqb-true}
use Rattle.scenario.specs.Numbers.{numbered, digit_value}
use Rattle.scenario.proofs.Numerals as laws
use Rattle.scenario.proofs.numbers.numeral.Goals as goal
use Rattle.scenario.proofs.numbers.numeral.Goals.{then-is_empty-via-then-is_empty, then-is_empty-via-else-is_empty+then-digits-gt-MOST_DIGITS}

pub returns-then-is_empty : goal.returns-then-is_empty
returns-then-is_empty c =
    elim c.then-is_empty.branch [
      | then-is_empty-via-then-is_empty w ↦ sym (laws.no_digits _ _ (eqb-true _ _ (sym c.is_empty.ensures ∙ w.if-is_empty.true)))
      | then-is_empty-via-else-is_empty+then-digits-gt-MOST_DIGITS w ↦ sym (laws.too_many _ _ w.if-digits-gt-MOST_DIGITS.true)
    ]

pub returns-in_err-digit : goal.returns-in_err-digit
returns-in_err-digit c =
    let l = c.loop-byte in
    let x = c.args in
    let w = x.digits.now in
    let none = laws.not_digit _ (sym c.in_err-digit.was ∙ c.digit.ensures) in
    ap numbered c.from_residual.ensures
    ∙ sym (laws.not_digits x.base w l.invariant.0 l.invariant.1 (l.invariant.2 ∙ laws.digit_wrong x.base w l.byte-index c.loop-byte-test.true (omega (arith, none))))

pub returns-then-base-d : goal.returns-then-base-d
returns-then-base-d c =
    let l = c.loop-byte in
    let x = c.args in
    let w = x.digits.now in
    let said = laws.digit_is _ _ (sym c.in_ok-digit.was ∙ c.digit.ensures) in
    sym (laws.not_digits x.base w l.invariant.0 l.invariant.1 (l.invariant.2 ∙ laws.digit_wrong x.base w l.byte-index c.loop-byte-test.true (omega (arith, said))))

pub returns-in_err-checked_mul : goal.returns-in_err-checked_mul
returns-in_err-checked_mul c =
    let l = c.loop-byte in
    let x = c.args in
    let w = x.digits.now in
    let t = c.loop-byte-test.true in
    let d = digit_value (get_or w l.byte-index 0) in
    let over : 2 ^ 64 ≤ l.value * x.base = omega (arith, laws.no_room _ _ _ c.checked_mul.ensures c.in_err-checked_mul.was) in
    let more = laws.count_grows x.base (l.value * x.base + d) (drop (suc l.byte-index) w) c.requires.lt_base in
    ap numbered c.from_residual-in_err-checked_mul.ensures
    ∙ sym (laws.over_room x.base w l.invariant.0 l.invariant.1 (omega (arith, over, more, l.invariant.3, laws.digit_counts x.base w l.byte-index t l.value)))

pub returns-in_err-value : goal.returns-in_err-value
returns-in_err-value c =
    let l = c.loop-byte in
    let x = c.args in
    let w = x.digits.now in
    let t = c.loop-byte-test.true in
    let d = digit_value (get_or w l.byte-index 0) in
    let said : d ≡ c.from-d.result = laws.digit_is _ _ (sym c.in_ok-digit.was ∙ c.digit.ensures) ∙ sym c.from-d.ensures in
    let room = laws.has_room _ _ _ c.checked_mul.ensures _ c.in_ok-checked_mul.was in
    let over : 2 ^ 64 ≤ l.value * x.base + d = omega (arith, said, room.1, laws.no_room _ _ _ c.checked_add.ensures c.in_err-value.was) in
    let more = laws.count_grows x.base (l.value * x.base + d) (drop (suc l.byte-index) w) c.requires.lt_base in
    ap numbered c.from_residual-in_err-value.ensures
    ∙ sym (laws.over_room x.base w l.invariant.0 l.invariant.1 (omega (arith, over, more, l.invariant.3, laws.digit_counts x.base w l.byte-index t l.value)))

pub loop-byte-preserved : goal.loop-byte-preserved
loop-byte-preserved c =
    let l = c.loop-byte in
    let x = c.args in
    let w = x.digits.now in
    let t = c.loop-byte-test.true in
    let d = digit_value (get_or w l.byte-index 0) in
    let said : d ≡ c.from-d.result = laws.digit_is _ _ (sym c.in_ok-digit.was ∙ c.digit.ensures) ∙ sym c.from-d.ensures in
    let times = laws.has_room _ _ _ c.checked_mul.ensures _ c.in_ok-checked_mul.was in
    let room = laws.has_room _ _ _ c.checked_add.ensures _ c.in_ok-value.was in
    let now : c.in_ok-value.value ≡ l.value * x.base + d = omega (arith, said, times.1, room.1) in
    let small : d < x.base = omega (arith, said) in
    rw (add-one l.byte-index, now)
    (l.invariant.0, l.invariant.1, l.invariant.2 ∙ laws.digit_right x.base w l.byte-index t small, l.invariant.3 ∙ laws.digit_counts x.base w l.byte-index t l.value, omega (arith, said, times.1, room.0))

pub returns : goal.returns
returns c =
    let l = c.loop-byte in
    let x = c.args in
    let w = x.digits.now in
    let e = c.loop-byte-test.false in
    sym (laws.numeral x.base w l.invariant.0 l.invariant.1 l.value l.invariant.4 (l.invariant.2 ∙ laws.all_right x.base w l.byte-index e) (l.invariant.3 ∙ laws.all_counted x.base w l.byte-index e l.value))
