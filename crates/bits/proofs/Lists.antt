-- Lists: elements that are all of a kind, a part past another, elements written out one by one.
use Prim.Native.Nat.{ℕ, zero, suc, ◌+◌, ◌-◌, ◌≤◌}
use mathlib.Core.List.{List, [], ◌∷◌, ◌++◌}
use mathlib.Core.Path.{◌≡◌, refl, ◌∙◌, ap}
use native.Mathlib.Omega.{arith}
use lib.Dec.{ltb, eqb}
use lib.ListN.{length, get_or, set, take, drop}
use lib.Seq.{get_or-set_same, get_or-set_other, set_out, take_all, drop-cons, drop-append-add, sets-eq}
use borrow.Author.Tests.{ltb-true, ltb-false, eqb-true, eqb-false}
use Rattle.bits.proofs.Tests.{by}

-- what holds of every element, and of one that is put in, holds of every element then
pub set_each : {A : Type 0} (P : A → Type 0) (l : List A) (i : ℕ) (a d : A) → ((j : ℕ) → P (get_or l j d)) → P a → (j : ℕ) → P (get_or (set l i a) j d)
set_each P l i a d h p j =
    by (eqb j i)
    (λ e. rw (eqb-true j i e) (by (ltb i (length l)) (λ t. rw (get_or-set_same l i a d (ltb-true _ _ t)) p) (λ t. rw (set_out l i a (ltb-false _ _ t)) (h i))))
    (λ e. rw (get_or-set_other l i j a d (eqb-false j i e)) (h j))

-- what is left past a front part
pub drop_past : {A : Type 0} (xs ys : List A) (n : ℕ) → length xs ≤ n → drop n (xs ++ ys) ≡ drop (n - length xs) ys
drop_past {A} xs ys n h = let e : n ≡ length xs + (n - length xs) = omega arith in ap (λ (k : ℕ). drop k (xs ++ ys)) e ∙ drop-append-add xs ys (n - length xs)

-- n elements from place i on, written out one by one
abbrev pub elements : List ℕ → ℕ → ℕ → List ℕ
elements l i zero = []
elements l i (suc n) = get_or l i 0 ∷ elements l (suc i) n

pub elements_are : (n i : ℕ) (l : List ℕ) → i + n ≤ length l → elements l i n ≡ take n (drop i l)
elements_are zero i l h = refl
elements_are (suc n) i l h =
    rw (drop-cons l i 0 (omega arith)) (ap (λ (t : List ℕ). get_or l i 0 ∷ t) (elements_are n (suc i) l (omega arith)))

-- all of them are the list
pub elements_all : (n : ℕ) (l : List ℕ) → length l ≡ n → elements l 0 n ≡ l
elements_all n l h = elements_are n 0 l (omega arith) ∙ take_all n l (omega arith)

-- four elements stored one after the other, from place i on
pub four_stored : (l : List ℕ) (i a b c d : ℕ) → i + 4 ≤ length l
    → set (set (set (set l i a) (i + 1) b) (i + 2) c) (i + 3) d ≡ take i l ++ (a ∷ b ∷ c ∷ d ∷ []) ++ drop (i + 4) l
four_stored l i a b c d h =
    let e1 : i + 1 ≡ suc i = omega arith in
    let e2 : i + 2 ≡ suc (suc i) = omega arith in
    let e3 : i + 3 ≡ suc (suc (suc i)) = omega arith in
    rw (e1, e2, e3) (sets-eq (a ∷ b ∷ c ∷ d ∷ []) l i h)
