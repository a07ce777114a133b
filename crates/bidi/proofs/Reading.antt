-- The read of a CV: what its function knows on the way, and who answers with what.
use Prim.Native.Nat.{ℕ, ◌+◌, ◌-◌, ◌*◌, ◌≤◌, ◌<◌}
use mathlib.Core.Bool.{true, false, not, false≢true}
use mathlib.Core.List.{List, [], ◌∷◌, ◌++◌}
use mathlib.Core.Path.{◌≡◌, refl, sym, ◌∙◌, ap}
use native.Mathlib.Omega.{arith}
use lib.Dec.{eqb}
use borrow.Author.Tests.{eqb-true, eqb-false, le-leb, lt-leb}
use lib.ListN.{length, get_or, length-append}
use Rattle.bits.proofs.Tests.{by, clash}
use Rattle.bits.proofs.Lists.{elements_all}
use Rattle.std.proofs.Common.{Option, Some, None}
use Rattle.store.specs.Sheet.{Sheets}
use Rattle.cells.specs.declared.settings.Settings.{Settings}
use Rattle.cells.specs.Roles.{owns, common}
use Rattle.cells.specs.Settings.{settings_possible, effective_number, read_of, own_cell_of}
use Rattle.bidi.specs.Read.{answers, cell_half, own_half, reply_to, ShortReply, replying, no_reply, short_as, read_cv_of}
use Rattle.cells.proofs.Owning.{own_from, own_to, own_not_common, below_all}
use Rattle.cells.proofs.Laws.{own_cell_reads, not_own}
use Rattle.cells.proofs.Numbers.{number_from, number_to}

-- a CV that reads as an own cell is own; one that doesn't isn't
not_both : {P : Type 0} (cell : Option ℕ) → ◌≡◌ {A = Option (Option ℕ)} None (Some cell) → P
not_both cell e = let z : ◌≡◌ {A = ℕ} 0 1 = cc in let f : ⊥ = omega arith in absurd f

pub own_read : (s : Settings) (cv : ℕ) (store : List ℕ) (sheets : Sheets) (cell : Option ℕ) → own_cell_of s cv store sheets ≡ Some cell → owns (effective_number s) cv ≡ true
own_read s cv store sheets cell h =
    by (owns (effective_number s) cv) (λ e. e) (λ e. not_both cell (sym (not_own s cv store sheets e) ∙ h))

pub not_own_read : (s : Settings) (cv : ℕ) (store : List ℕ) (sheets : Sheets) → own_cell_of s cv store sheets ≡ None → owns (effective_number s) cv ≡ false
not_own_read s cv store sheets h =
    by (owns (effective_number s) cv) (λ e. not_both (read_of s cv store sheets) (sym h ∙ own_cell_reads s cv store sheets e)) (λ e. e)

-- behind an own CV there is always a next number
number_lt : (s : Settings) → s.number < 256 → effective_number s < 256
unfolding effective_number
number_lt s h = by (eqb s.number 0) (λ e. rw e (omega arith)) (λ e. rw e h)

pub next_fits : (s : Settings) (cv : ℕ) → s.number < 256 → owns (effective_number s) cv ≡ true → cv + 1 < 65536
next_fits s cv h o = omega (arith, number_lt s h, own_to (effective_number s) cv o)

-- two halves written out one after the other
pub joined_halves : (a b : List ℕ) → length a ≡ 2 → length b ≡ 2 → get_or a 0 0 ∷ get_or a 1 0 ∷ get_or b 0 0 ∷ get_or b 1 0 ∷ [] ≡ a ++ b
joined_halves a b p q =
    ap (λ (l : List ℕ). get_or a 0 0 ∷ get_or a 1 0 ∷ l) (elements_all 2 b q) ∙ ap (λ (l : List ℕ). l ++ b) (elements_all 2 a p)

-- ---- Who answers a read, and with what.

module _ (s : Settings) (cv : ℕ) (store : List ℕ) (sheets : Sheets) where
  -- only the owner answers
  pub others_no_reply : owns (effective_number s) cv ≡ false → read_cv_of s cv store sheets ≡ no_reply
  unfolding read_cv_of answers
  others_no_reply h = rw h

  -- so common CVs get no answer, nor do CVs below all modules'
  pub common_no_reply : settings_possible s ≡ true → common cv ≡ true → read_cv_of s cv store sheets ≡ no_reply
  common_no_reply p c =
      others_no_reply
      (by (owns (effective_number s) cv) (λ o. clash c (own_not_common (effective_number s) cv (number_from s) (number_to s p) o)) (λ o. o))

  pub below_no_reply : cv < 900 → read_cv_of s cv store sheets ≡ no_reply
  below_no_reply h = others_no_reply (below_all (effective_number s) cv h)

  pub owner_replies : owns (effective_number s) cv ≡ true → read_cv_of s cv store sheets ≡ replying (reply_to s cv store sheets)
  unfolding read_cv_of answers
  owner_replies h = rw h

  -- an own CV: what it reads as in the selected bank, readable or not
  pub own_cell_half : owns (effective_number s) cv ≡ true → own_half (own_cell_of s cv store sheets) ≡ cell_half (read_of s cv store sheets)
  unfolding own_half
  own_cell_half h = rw (own_cell_reads s cv store sheets h)

  -- a CV that isn't own: 8E 02
  pub other_half : owns (effective_number s) cv ≡ false → own_half (own_cell_of s cv store sheets) ≡ 0x8E ∷ 0x02 ∷ []
  unfolding own_half
  other_half h = rw (not_own s cv store sheets h)

  half_two : length (own_half (own_cell_of s cv store sheets)) ≡ 2
  unfolding own_half cell_half
  half_two = two (own_cell_of s cv store sheets)
    where
      one : (cell : Option ℕ) → length (cell_half cell) ≡ 2
      one (Some value) = refl
      one None = refl

      two : (cell : Option (Option ℕ)) → length (own_half cell) ≡ 2
      two (Some cell) = one cell
      two None = refl

-- the next CV is not its own exactly behind the module's last
pub next_own : (n cv : ℕ) → owns n cv ≡ true → owns n (cv + 1) ≡ not (eqb cv (939 + 40 * (n - 1)))
unfolding owns
next_own n cv h =
    let from : 900 + 40 * (n - 1) ≤ cv + 1 = omega (arith, own_from n cv h) in
    by (eqb cv (939 + 40 * (n - 1)))
    (λ e. let past : 939 + 40 * (n - 1) < cv + 1 = omega (arith, eqb-true cv (939 + 40 * (n - 1)) e) in simp (e, le-leb _ _ from, lt-leb _ _ past))
    (λ e. let other : cv ≡ 939 + 40 * (n - 1) → ⊥ = eqb-false _ _ e in
    let to : cv + 1 ≤ 939 + 40 * (n - 1) = omega (arith, own_to n cv h) in
    simp (e, le-leb _ _ from, le-leb _ _ to))

-- every reply has four bytes
pub read_four : (s : Settings) (cv : ℕ) (store : List ℕ) (sheets : Sheets) → length (reply_to s cv store sheets) ≡ 4
unfolding reply_to
read_four s cv store sheets = simp (length-append, half_two s cv store sheets, half_two s (cv + 1) store sheets)

-- ---- What a read gives says its answer whole: no two that it may give say one.

pub short_once : (one other : Option (List ℕ)) → short_as one ≡ short_as other → one ≡ other
short_once (Some r) (Some t) e = ap (λ (a : ShortReply). Some a.reply) e
short_once (Some r) None e = absurd (false≢true (sym (ap (λ (a : ShortReply). a.acknowledged) e)))
short_once None (Some t) e = absurd (false≢true (ap (λ (a : ShortReply). a.acknowledged) e))
short_once None None e = refl
