-- THE VIEW AND ITS CHECK, by the rows and by bank and offset.
use Prim.Native.Nat.{ℕ, ◌+◌, ◌*◌, ◌<◌}
use mathlib.Core.List.{List, [], ◌∷◌}
use mathlib.Core.Bool.{true}
use mathlib.Core.Logic.{◌↔◌, ◌⊎◌, inl, inr, ⊎_elim}
use mathlib.Core.Path.{◌≡◌, refl, sym, ◌∙◌, ap}
use native.Mathlib.Omega.{arith}
use lib.Dec.{eqb}
use lib.ListN.{length, get_or, take}
use borrow.Author.Tests.{ne_eqb, eqb-true, eqb-false}
use Rattle.std.proofs.Common.{Some}
use Rattle.bits.proofs.Tests.{by, clash}
use Rattle.store.specs.Sheet.{Sheets, store_long, sizes_long, fixed_long, lengths_hold, version_holds, sheets_hold, size_of, readable, leading_of}
use Rattle.store.specs.Store.{cell_place, held_at, cell_of, used_cells, bank_cells}
use Rattle.store.proofs.Sizes.{store_length, size_count, fixed_bytes, sizes_long_lem, fixed_long_lem, sizes_right, version_byte}
use Rattle.store.proofs.Reading.{used_fixed, used_held, used_length, fixed_size, fixed_second}
use Rattle.view.specs.View.{view_refusal, view_of, ViewRefusalPromise, ViewPromise}
use Rattle.view.proofs.Laws.{viewed_right}
use Rattle.flash.specs.FixedBank.{LengthsRight, RulesKept, ViewRow, view_4, view_5, view_given}

-- the tests of rows 4 and 5 are what they ask
pub lengths_of : (store : List ℕ) (sheets : Sheets) → lengths_hold store sheets ≡ true → LengthsRight store sheets
lengths_of store sheets h =
    record {
      store_10240 = store_length store sheets h;
      sizes_256 = size_count sheets.sizes (sizes_long_lem store sheets h);
      fixed_40 = fixed_bytes sheets.fixed (fixed_long_lem store sheets h);
    }

pub lengths_hold_lem : (store : List ℕ) (sheets : Sheets) → LengthsRight store sheets → lengths_hold store sheets ≡ true
unfolding lengths_hold store_long sizes_long fixed_long
lengths_hold_lem store sheets l = simp (l.store_10240, l.sizes_256, l.fixed_40)

rules_of : (sheets : Sheets) → sheets_hold sheets ≡ true → RulesKept sheets
rules_of sheets h = record { sizes_hold_lem = sizes_right sheets h; version_11 = version_byte sheets h }

rules_hold : (sheets : Sheets) → RulesKept sheets → sheets_hold sheets ≡ true
unfolding sheets_hold version_holds
rules_hold sheets r = simp (r.sizes_hold_lem, r.version_11)

module _ (store : List ℕ) (sheets : Sheets) where
  check_given : ViewRow store sheets (view_refusal store sheets)
  unfolding view_refusal
  check_given =
      by (lengths_hold store sheets)
      (λ l. by (sheets_hold sheets) (λ s. simp (l, s) (view_given (lengths_of store sheets l) (rules_of sheets s)))
      (λ s. simp (l, s) (view_5 (lengths_of store sheets l) (λ r. clash (rules_hold sheets r) s))))
      (λ l. simp l (view_4 (λ r. clash (lengths_hold_lem store sheets r) l)))

  check_back : (k : ℕ) → ViewRow store sheets k → k ≡ view_refusal store sheets
  unfolding view_refusal
  check_back k (view_4 n) = by (lengths_hold store sheets) (λ l. absurd (n (lengths_of store sheets l))) (λ l. simp l)
  check_back k (view_5 l n) =
      by (sheets_hold sheets) (λ s. absurd (n (rules_of sheets s))) (λ s. simp (lengths_hold_lem store sheets l, s))
  check_back k (view_given l r) = simp (lengths_hold_lem store sheets l, rules_hold sheets r)

  pub check_rows : (k : ℕ) → ViewRefusalPromise store sheets k ↔ ViewRow store sheets k
  unfolding ViewRefusalPromise
  check_rows k = (λ p. rw p check_given, λ r. check_back k r)

  -- with no refusal the view is the used cells
  module _ (bank : ℕ) (part : List ℕ) (c : ViewRefusalPromise store sheets 0) (v : ViewPromise store sheets bank part) where
    right : (lengths_hold store sheets ≡ true) × (sheets_hold sheets ≡ true)
    unfolding ViewRefusalPromise
    right = viewed_right store sheets (sym c)

    used : part ≡ used_cells store sheets bank
    unfolding ViewRefusalPromise ViewPromise view_of
    used = v ∙ rw (← c)

    pub view_length : length part ≡ size_of sheets.sizes bank
    view_length = ap length used ∙ used_length store sheets bank right.0 right.1

    pub as_read : (offset : ℕ) → readable sheets.sizes bank offset ≡ true → cell_of store sheets bank offset ≡ Some (get_or part offset 0)
    unfolding cell_of
    as_read offset r = rw (r, used)

    pub as_sent : bank_cells store sheets bank ≡ take (leading_of sheets.sizes bank) part
    unfolding bank_cells
    as_sent = rw used

    pub store_cells : (bank ≡ 254 → ⊥) → (offset : ℕ) → offset < size_of sheets.sizes bank → get_or part offset 0 ≡ get_or store (bank * 40 + offset) 0
    unfolding held_at cell_place
    store_cells n offset o = ap (λ (l : List ℕ). get_or l offset 0) used ∙ used_held store sheets bank offset (ne_eqb bank 254 n) o

  module _ (part : List ℕ) (c : ViewRefusalPromise store sheets 0) (v : ViewPromise store sheets 254 part) where
    pub fixed_cells : (offset : ℕ) → offset < 2 → get_or part offset 0 ≡ get_or sheets.fixed offset 0
    fixed_cells offset o =
        let r = right 254 part c v in
        let two = fixed_size sheets (sizes_long_lem store sheets r.0) r.1 in
        ap (λ (l : List ℕ). get_or l offset 0) (used 254 part c v) ∙ used_fixed store sheets offset (omega (arith, two))

  pub version_read : ViewRefusalPromise store sheets 0 → cell_of store sheets 254 1 ≡ Some 11
  unfolding ViewRefusalPromise
  version_read c = let r = viewed_right store sheets (sym c) in fixed_second store sheets (sizes_long_lem store sheets r.0) r.1

  -- empty exactly for size 0 and for a refusal
  pub view_empty : (bank : ℕ) (part : List ℕ) (k : ℕ) → ViewRefusalPromise store sheets k → ViewPromise store sheets bank part
      → (part ≡ []) ↔ ((size_of sheets.sizes bank ≡ 0) ⊎ (k ≡ 0 → ⊥))
  unfolding ViewRefusalPromise ViewPromise view_of
  view_empty bank part k c v =
      by (eqb k 0)
      (λ e. let z : ViewRefusalPromise store sheets 0 = rw (eqb-true k 0 e) at c in
      let long = view_length bank part z v in
      (λ none. inl (sym long ∙ ap length none), λ why. ⊎_elim (λ size. no_cells part (long ∙ size)) (λ n. absurd (n (eqb-true k 0 e))) why))
      (λ e. (λ none. inr (eqb-false k 0 e), λ why. v ∙ rw (← c, e)))
    where
      no_cells : (l : List ℕ) → length l ≡ 0 → l ≡ []
      no_cells [] e = refl
      no_cells (x ∷ l) e = let z : ⊥ = omega arith in absurd z
