-- ROWS 4 AND 5 by the rows as they were and the fixed sheet.
use Prim.Native.Nat.{ℕ}
use mathlib.Core.List.{List}
use mathlib.Core.Bool.{Bool, true, false, cond, ◌&&◌, false≢true}
use mathlib.Core.Logic.{◌↔◌, ◌⊎◌, inl, inr, ⊎_elim}
use mathlib.Core.Path.{◌≡◌, refl, sym}
use native.Mathlib.Omega.{arith}
use lib.Dec.{leb, eqb}
use lib.ListN.{length, get_or}
use borrow.Author.Tests.{eq-eqb, eqb-true}
use Rattle.states.specs.States as S
use Rattle.store.specs.Sheet.{sheets_of, store_long, sizes_long, fixed_long, lengths_hold, sizes_hold, version_holds, sheets_hold}
use Rattle.board.specs.Board.{Board, module_possible, buffers_hold, first_broken, board_refusal}
use Rattle.flash.specs.OldBank.{refusal_was}
use Rattle.flash.specs.FixedBank.{GoodFixed, GivesFour, GivesFive}

-- ---- by truth values: the record is possible, the buffers were right, the size sheet keeps its rule; the fixed sheet has its length, and
-- its version

unfoldable first_of : Bool → Bool → Bool → ℕ
first_of p b s = cond p (cond b (cond s 0 5) 4) 12

four : (p b s f : Bool) → ((p ≡ true) × ((b && f) ≡ false)) ↔ ((first_of p b s ≡ 4) ⊎ ((first_of p b s ≡ 12 → ⊥) × (f ≡ true → ⊥)))
unfolding first_of
four false b s f = (λ h. absurd (false≢true h.0), λ h. ⊎_elim (λ e. absurd (omega arith)) (λ n. absurd (n.0 refl)) h)
four true false s f = (λ h. inl refl, λ h. (refl, refl))
four true true true true = (λ h. absurd (false≢true (sym h.1)), λ h. ⊎_elim (λ e. absurd (omega arith)) (λ n. absurd (n.1 refl)) h)
four true true false true = (λ h. absurd (false≢true (sym h.1)), λ h. ⊎_elim (λ e. absurd (omega arith)) (λ n. absurd (n.1 refl)) h)
four true true true false = (λ h. inr (λ e. omega arith, λ e. false≢true e), λ h. (refl, refl))
four true true false false = (λ h. inr (λ e. omega arith, λ e. false≢true e), λ h. (refl, refl))

five : (p b s f v : Bool) → ((p ≡ true) × ((b && f) ≡ true) × ((s && v) ≡ false)) ↔ ((f ≡ true) × ((first_of p b s ≡ 5) ⊎ ((first_of p b s ≡ 0) × (v ≡ true → ⊥))))
unfolding first_of
five false b s f v = (λ h. absurd (false≢true h.0), λ h. ⊎_elim (λ e. absurd (omega arith)) (λ n. let z = n.0 in absurd (omega arith)) h.1)
five true false s f v = (λ h. absurd (false≢true h.1), λ h. ⊎_elim (λ e. absurd (omega arith)) (λ n. let z = n.0 in absurd (omega arith)) h.1)
five true true s false v = (λ h. absurd (false≢true h.1), λ h. absurd (false≢true h.0))
five true true false true v = (λ h. (refl, inl refl), λ h. (refl, refl, refl))
five true true true true true = (λ h. absurd (false≢true (sym h.2)), λ h. ⊎_elim (λ e. absurd (omega arith)) (λ n. absurd (n.1 refl)) h.1)
five true true true true false = (λ h. (refl, inr (refl, λ e. false≢true e)), λ h. (refl, refl, refl))

and_true : (a : Bool) → (a && true) ≡ a
and_true true = refl
and_true false = refl

moved : (a c f r : Bool) → ((a && (c && f)) && r) ≡ (((a && c) && r) && f)
moved false c f r = refl
moved true false f r = refl
moved true true true r = sym (and_true r)
moved true true false true = refl
moved true true false false = refl

-- ---- of a board

module _ (b : Board) (sizes fixed room : List ℕ) where
  abbrev P : Bool
  P = module_possible b.kept

  abbrev B : Bool
  B = S.length_holds b.states && (eqb (length b.store) 10240 && eqb (length sizes) 256) && leb 84 (length room)

  abbrev F : Bool
  F = eqb (length fixed) 40

  was : refusal_was b sizes room ≡ first_of P B (sizes_hold 0 sizes)
  unfolding refusal_was first_broken first_of
  was = refl

  buffers : buffers_hold b.states b.store (sheets_of sizes fixed) room ≡ (B && F)
  unfolding buffers_hold lengths_hold store_long sizes_long fixed_long
  buffers = moved (S.length_holds b.states) (eqb (length b.store) 10240 && eqb (length sizes) 256) F (leb 84 (length room))

  sheets : sheets_hold (sheets_of sizes fixed) ≡ (sizes_hold 0 sizes && eqb (get_or fixed 1 0) 11)
  unfolding sheets_hold version_holds
  sheets = refl

  forty : (F ≡ true) ↔ (length fixed ≡ 40)
  forty = (λ e. eqb-true _ _ e, λ e. eq-eqb _ _ e)

  pub row_4 : ((P ≡ true) × (buffers_hold b.states b.store (sheets_of sizes fixed) room ≡ false)) ↔ GivesFour b sizes fixed room
  row_4 =
      rw (buffers, was) (
        λ h. ⊎_elim inl (λ n. inr (n.0, λ e. n.1 (forty.1 e))) ((four P B (sizes_hold 0 sizes) F).0 h),
        λ h. (four P B (sizes_hold 0 sizes) F).1 (⊎_elim inl (λ n. inr (n.0, λ e. n.1 (forty.0 e))) h),
      )

  pub row_5 : ((P ≡ true) × (buffers_hold b.states b.store (sheets_of sizes fixed) room ≡ true) × (sheets_hold (sheets_of sizes fixed) ≡ false)) ↔ GivesFive b sizes fixed room
  row_5 =
      rw (buffers, sheets, was) (
        λ h. let g = (five P B (sizes_hold 0 sizes) F (eqb (get_or fixed 1 0) 11)).0 h in
            (forty.0 g.0, ⊎_elim inl (λ n. inr (n.0, λ e. n.1 (eq-eqb _ _ e))) g.1),
        λ h. (five P B (sizes_hold 0 sizes) F (eqb (get_or fixed 1 0) 11)).1
            (forty.1 h.0, ⊎_elim inl (λ n. inr (n.0, λ e. n.1 (eqb-true _ _ e))) h.1),
      )

  -- with a good fixed sheet the rows are as before
  pub refusal_as_was : GoodFixed fixed → board_refusal b (sheets_of sizes fixed) room ≡ refusal_was b sizes room
  unfolding board_refusal refusal_was first_broken
  refusal_as_was g = rw (buffers, sheets, g.forty, g.version, and_true B, and_true (sizes_hold 0 sizes))
