-- A line against forms, a word and a form at a time, and what a table of rows says.
use Prim.Native.Nat.{ℕ, zero, suc, ◌+◌, ◌≤◌, ◌<◌}
use mathlib.Core.Bool.{Bool, true, false, cond, ◌&&◌}
use mathlib.Core.List.{List, [], ◌∷◌}
use mathlib.Core.Path.{◌≡◌, refl, sym, ◌∙◌, ap}
use native.Mathlib.Omega.{arith}
use native.Mathlib.Nat.{add-zero}
use lib.Dec.{eqb, ltb}
use lib.ListN.{length, get_or, drop, length-drop, drop_of_length-le}
use lib.Seq.{drop-drop, get_or-drop}
use borrow.Author.Tests.{eqb-false, ltb-true, ltb-false}
use Rattle.bits.proofs.Tests.{by, clash}
use Rattle.scenario.specs.declared.grammar.Statement.{Statement}
use Rattle.scenario.specs.Words.{Word, in_front, pieces, non_empty, parts_of, words_of, word_at, same}
use Rattle.std.proofs.Common.{Option, Some, None}
use Rattle.std.specs.List.{list_all, range_with_len, position_or_len}
use Rattle.scenario.specs.Numbers.{numbered, word_number, is_hex, numeral_of, is_numeral, within, none}
use Rattle.scenario.specs.Forms.{fits_word, fits, form_place, form_found}
use Rattle.scenario.specs.Statements.{FormRow, forms, rows_say, first_fitting}
use Rattle.scenario.proofs.Numerals.{no_part}

and_grouped : (a b c : Bool) → ((a && b) && c) ≡ (a && (b && c))
and_grouped true b c = refl
and_grouped false b c = refl

none_is : (ws : List Word) → none ws ≡ true → ws ≡ []
none_is [] h = refl
none_is (w ∷ ws) h = clash h refl

some_is : (ws : List Word) → none ws ≡ false → 0 < length ws
some_is [] h = clash refl h
some_is (w ∷ ws) h = omega arith

-- what is left of a list from a place on
module _ (ws : List Word) (k : ℕ) where
  pub first_left : word_at (drop k ws) 0 ≡ word_at ws k
  first_left = get_or-drop k ws 0 [] ∙ ap (word_at ws) (add-zero k)

  pub others_left : drop 1 (drop k ws) ≡ drop (k + 1) ws
  others_left = drop-drop 1 k ws

  pub not_over : k < length ws → none (drop k ws) ≡ false
  not_over h = by (none (drop k ws)) (λ t. let z : ⊥ = omega (arith, ap length (none_is (drop k ws) t), length-drop k ws) in absurd z) (λ t. t)

  pub over : none (drop k ws) ≡ true → drop k ws ≡ []
  over h = none_is (drop k ws) h

  pub more : none (drop k ws) ≡ false → k < length ws
  more h = omega (arith, some_is (drop k ws) h, length-drop k ws)

-- a text has at most as many parts as bytes
front_more : (b : ℕ) (ps : List Word) → length (non_empty (in_front b ps)) ≤ suc (length (non_empty ps))
front_more b [] = omega arith
front_more b ([] ∷ ps) = omega arith
front_more b ((a ∷ w) ∷ ps) = omega arith

pub parts_few : (stop : ℕ) (s : List ℕ) → length (parts_of stop s) ≤ length s
unfolding parts_of pieces
parts_few stop [] = omega arith
parts_few stop (b ∷ s) =
    by (eqb b stop) (λ t. simp t (omega (arith, parts_few stop s)))
    (λ t. simp t (omega (arith, parts_few stop s, front_more b (pieces stop s))))

pub part_there : (stop : ℕ) (s : List ℕ) (k : ℕ) → none (drop k (parts_of stop s)) ≡ false → length (word_at (parts_of stop s) k) ≡ 0 → ⊥
part_there stop s k h = eqb-false _ 0 (no_part stop s k ∙ h)

-- what a word of a form asks for, from the number as it was read
module _ (asked w : Word) where
  pub by_limit : (n : ℕ) → numbered (Some n) ≡ word_number asked → within n w ≡ fits_word asked w
  unfolding fits_word
  by_limit n e = rw (← e)

  pub by_name : numbered None ≡ word_number asked → same w asked ≡ fits_word asked w
  unfolding fits_word
  by_name e = rw (← e)

-- where a form asks for a word, none will not do
no_number_lem : (limit : ℕ) → within limit [] ≡ false
unfolding within word_number is_hex numeral_of is_numeral
no_number_lem limit = refl

empty_not : (asked : Word) → (length asked ≡ 0 → ⊥) → fits_word asked [] ≡ false
unfolding fits_word same
empty_not [] d = absurd (d refl)
empty_not (b ∷ asked) d = by (word_number (b ∷ asked)).good (λ t. simp (t, no_number_lem (word_number (b ∷ asked)).value)) (λ t. simp t)

fits_first : (form words : List Word) → none form ≡ false → (length (word_at form 0) ≡ 0 → ⊥)
    → fits form words ≡ (fits_word (word_at form 0) (word_at words 0) && fits (drop 1 form) (drop 1 words))
unfolding fits
fits_first [] words h d = clash refl h
fits_first (asked ∷ form) [] h d = simp (empty_not asked d)
fits_first (asked ∷ form) (w ∷ words) h d = refl

fits_end : (words : List Word) → fits [] words ≡ none words
unfolding fits
fits_end [] = refl
fits_end (w ∷ words) = refl

module _ (form : List ℕ) (words : List Word) (k : ℕ) where
  fits_next : none (drop k (words_of form)) ≡ false
      → fits (drop k (words_of form)) (drop k words) ≡ (fits_word (word_at (words_of form) k) (word_at words k) && fits (drop (k + 1) (words_of form)) (drop (k + 1) words))
  fits_next h =
      let d = part_there 32 form k h in
      rw (← first_left (words_of form) k, ← first_left words k, ← others_left (words_of form) k, ← others_left words k)
      (fits_first (drop k (words_of form)) (drop k words) h (rw (first_left (words_of form) k) d))

-- all words of a form, one after the other, and no more words
pub all_fit : (form : List ℕ) (words : List Word) (n i : ℕ) → i + n ≡ length (words_of form)
    → (list_all (λ k. fits_word (word_at (words_of form) k) (word_at words k)) (range_with_len i n) && none (drop (i + n) words))
    ≡ fits (drop i (words_of form)) (drop i words)
all_fit form words zero i e =
    let z : i + 0 ≡ i = omega arith in
    let left : drop i (words_of form) ≡ [] = drop_of_length-le (words_of form) (omega arith) in
    rw (z, left) (sym (fits_end (drop i words)))
all_fit form words (suc n) i e =
    let more : i < length (words_of form) = omega arith in
    let here : none (drop i (words_of form)) ≡ false = not_over (words_of form) i more in
    let m : i + suc n ≡ i + 1 + n = omega arith in
    rw (fits_next form words i here, ← all_fit form words n (i + 1) (omega arith), m)
    (and_grouped (fits_word (word_at (words_of form) i) (word_at words i)) _ _)

pub fits_all : (form : List ℕ) (words : List Word) (n : ℕ) → n ≡ length (words_of form)
    → (list_all (λ k. fits_word (word_at (words_of form) k) (word_at words k)) (range_with_len 0 n) && none (drop n words)) ≡ fits (words_of form) words
fits_all form words n e = let z : 0 + n ≡ n = omega arith in rw z at (all_fit form words n 0 (omega arith))

-- the first form that fits, among all of a table
pub place_is : (words : List Word) (forms : List (List ℕ)) → position_or_len (λ form. fits (words_of form) words) forms ≡ form_place forms words
unfolding form_place
place_is words [] = refl
place_is words (form ∷ forms) = by (fits (words_of form) words) (λ t. simp t) (λ t. simp t (omega (arith, place_is words forms)))

pub found_is : (words : List Word) (forms : List (List ℕ)) (r : Option ℕ)
    → r ≡ cond (ltb (position_or_len (λ form. fits (words_of form) words) forms) (length forms)) (Some (position_or_len (λ form. fits (words_of form) words) forms)) None
    → r ≡ form_found forms words
unfolding form_found
found_is words forms r e = e ∙ rw (place_is words forms)

forms_length : {A : Type 0} (rows : List (FormRow A)) → length (forms rows) ≡ length rows
forms_length [] = refl
forms_length (r ∷ rows) = ap suc (forms_length rows)

-- the number of a row that was found, or none
module _ {A : Type 0} (rows : List (FormRow A)) (words : List Word) where
  pub row_is : (k : ℕ) → Some k ≡ form_found (forms rows) words → (k ≡ form_place (forms rows) words) × (k < length rows)
  unfolding form_found
  row_is k e =
      by (ltb (form_place (forms rows) words) (length (forms rows)))
      (λ t. let s : Some k ≡ Some (form_place (forms rows) words) = e ∙ simp t in let m : k ≡ form_place (forms rows) words = cc in
      (m, rw (m, ← forms_length rows) (ltb-true _ _ t)))
      (λ t. let s : Some k ≡ None = e ∙ simp t in absurd (cc))

  no_row : None ≡ form_found (forms rows) words → length rows ≤ form_place (forms rows) words
  unfolding form_found
  no_row e =
      by (ltb (form_place (forms rows) words) (length (forms rows)))
      (λ t. let s : None ≡ Some (form_place (forms rows) words) = e ∙ simp t in absurd (cc))
      (λ t. rw (← forms_length rows) (ltb-false _ _ t))

-- one law for every table of rows: what stands at the place of the form that was found is what the rows say
module _ {A : Type 0} (statement : A → Statement) where
  found_at : (rows : List (FormRow A)) (words : List Word) (other : Statement) (d : A) (k : ℕ) → k ≡ form_place (forms rows) words → k < length rows
      → statement (get_or (rows_say rows) k d) ≡ first_fitting statement rows words other
  unfolding form_place first_fitting
  found_at [] words other d k e h = let z : ⊥ = omega arith in absurd z
  found_at (r ∷ rows) words other d k e h =
      by (fits (words_of r.form) words) (λ t. rw e (simp t))
      (λ t. let n : k ≡ suc (form_place (forms rows) words) = e ∙ simp t in
      let m : form_place (forms rows) words < length rows = omega arith in
      rw n (simp t (found_at rows words other d (form_place (forms rows) words) refl m)))

  missed_at : (rows : List (FormRow A)) (words : List Word) (other : Statement) (k : ℕ) → k ≡ form_place (forms rows) words → length rows ≤ k
      → other ≡ first_fitting statement rows words other
  unfolding form_place first_fitting
  missed_at [] words other k e h = refl
  missed_at (r ∷ rows) words other k e h =
      by (fits (words_of r.form) words) (λ t. let n : k ≡ 0 = e ∙ simp t in let z : ⊥ = omega arith in absurd z)
      (λ t. let n : k ≡ suc (form_place (forms rows) words) = e ∙ simp t in
      simp t (missed_at rows words other (form_place (forms rows) words) refl (omega arith)))

  pub found : (rows : List (FormRow A)) (words : List Word) (other : Statement) (d : A) (k : ℕ) → Some k ≡ form_found (forms rows) words
      → statement (get_or (rows_say rows) k d) ≡ first_fitting statement rows words other
  found rows words other d k e = let r = row_is rows words k e in found_at rows words other d k r.0 r.1

  pub missed : (rows : List (FormRow A)) (words : List Word) (other : Statement) → None ≡ form_found (forms rows) words
      → other ≡ first_fitting statement rows words other
  missed rows words other e = missed_at rows words other (form_place (forms rows) words) refl (no_row rows words e)

-- a word that was read is the name, or not
pub named : {w v : Word} (name : Word) → w ≡ v → same v name ≡ same w name
named name e = rw e
