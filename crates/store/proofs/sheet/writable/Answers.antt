use Prim.Native.Nat.{ℕ}
use mathlib.Core.Path.{◌≡◌, sym, ◌∙◌}
use mathlib.Core.Bool.{not}
use mathlib.Core.Logic.{inl, inr}
use native.Mathlib.Omega.{arith}
use lib.Dec.{leb, ltb}
use borrow.Author.Tests.{le-leb, lt-leb, ltb-true, ltb-false, lt-ltb, le-ltb, ne_eqb, eq-eqb}
use Rattle.bits.proofs.Tests.{by, clash}
use Rattle.store.specs.Sheet.{writable}
use Rattle.store.proofs.sheet.writable.Goals as goal
use Rattle.store.proofs.sheet.writable.Goals.{then-readable, else-readable}

leb-not-ltb : (a b : ℕ) → leb a b ≡ not (ltb b a)
leb-not-ltb a b =
    by (ltb b a) (λ e. simp (e, lt-leb a b (ltb-true b a e))) (λ e. simp (e, le-leb a b (ltb-false b a e)))

pub returns-then-bank-gt-LABEL_LAST : goal.returns-then-bank-gt-LABEL_LAST
unfolding writable
returns-then-bank-gt-LABEL_LAST c =
    let a = c.args in
    let named = c.if-bank-ne-FIXED_BANK.true in
    simp (sym c.readable.ensures ∙ named.0, ne_eqb _ _ named.1, le-ltb a.bank 2 (omega arith), lt-ltb 1 _ c.if-bank-gt-LABEL_LAST.true)

pub returns-else-bank-gt-LABEL_LAST : goal.returns-else-bank-gt-LABEL_LAST
unfolding writable
returns-else-bank-gt-LABEL_LAST c =
    let a = c.args in
    let named = c.if-bank-ne-FIXED_BANK.true in
    simp (sym c.readable.ensures ∙ named.0, ne_eqb _ _ named.1, lt-ltb a.bank 2 (omega arith)) (leb-not-ltb 2 a.offset)

pub returns-else-bank-ne-FIXED_BANK : goal.returns-else-bank-ne-FIXED_BANK
unfolding writable
returns-else-bank-ne-FIXED_BANK c =
    elim c.if-readable.branch [
      | then-readable w ↦
          elim c.if-bank-ne-FIXED_BANK.either [
            | inl there ↦ simp (sym c.readable.ensures ∙ w.if-readable.true, w.t-5-is, eq-eqb _ _ there.1)
            | inr not_there ↦ clash w.if-readable.true not_there
          ]
      | else-readable w ↦ simp (sym c.readable.ensures ∙ w.if-readable.false, w.t-5-is) w.if-readable.false
    ]
