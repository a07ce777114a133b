-- What follows from a test, and what a test gives. `picks` closes most returns of a function whose
-- branches stand in the order of its definition.
use Prim.Native.Nat.{ℕ, zero, suc, ◌+◌, ◌-◌, ◌≤◌, ◌<◌}
use mathlib.Core.Bool.{Bool, true, false, not, ◌&&◌, false≢true}
use mathlib.Core.Path.{◌≡◌, refl, sym, ◌∙◌}
use native.Mathlib.Omega.{arith}
use lib.Dec.{eqb}
use borrow.Author.Tests.{eq-eqb, ne_eqb, lt-ltb, le-ltb, le-leb, lt-leb, eqb-true, eqb-false, not-true}

-- by cases on a test
pub by : {P : Type 0} (b : Bool) → (b ≡ true → P) → (b ≡ false → P) → P
by true f g = f refl
by false f g = g refl

pub and_left : (a b : Bool) → (a && b) ≡ true → a ≡ true
and_left true b h = refl
and_left false b h = h

pub and_right : (a b : Bool) → (a && b) ≡ true → b ≡ true
and_right true b h = h
and_right false b h = absurd (false≢true h)

pub and_both : (a b : Bool) → a ≡ true → b ≡ true → (a && b) ≡ true
and_both a b p q = rw (p, q)

-- no test goes both ways
pub clash : {P : Type 0} {b : Bool} → b ≡ true → b ≡ false → P
clash p q = absurd (false≢true (sym q ∙ p))

-- a test that is computed of every number below n holds of each
abbrev pub all_below : (ℕ → Bool) → ℕ → Bool
all_below f zero = true
all_below f (suc n) = f n && all_below f n

pub each_below : (f : ℕ → Bool) (n : ℕ) → all_below f n ≡ true → (k : ℕ) → k < n → f k ≡ true
each_below f zero h k l = let z : ⊥ = omega arith in absurd z
each_below f (suc n) h k l =
    by (eqb k n) (λ e. rw (eqb-true k n e) (and_left (f n) (all_below f n) h))
    (λ e. let other : k ≡ n → ⊥ = eqb-false k n e in each_below f n (and_right (f n) (all_below f n) h) k (omega arith))

-- two numbers that a test, computed of every index below n, finds equal are equal at each
pub equal_below : (n : ℕ) (f g : ℕ → ℕ) → all_below (λ i. eqb (f i) (g i)) n ≡ true → (i : ℕ) → i < n → f i ≡ g i
equal_below n f g computed i h = eqb-true (f i) (g i) (each_below (λ j. eqb (f j) (g j)) n computed i h)

-- a test that gives one answer, computed, at n numbers from a first one on, gives it at each
abbrev pub agree : Bool → Bool → Bool
agree true b = b
agree false b = not b

pub agreed : (a b : Bool) → agree a b ≡ true → a ≡ b
agreed true b h = sym h
agreed false b h = sym (not-true b h)

pub answer_from : (answer : Bool) (f : ℕ → Bool) (first n : ℕ) → all_below (λ i. agree answer (f (first + i))) n ≡ true → (k : ℕ) → first ≤ k → k < first + n → answer ≡ f k
answer_from answer f first n h k from to =
    let e : first + (k - first) ≡ k = omega arith in
    agreed answer (f k) (rw e at (each_below (λ i. agree answer (f (first + i))) n h (k - first) (omega arith)))

pub ruleset picks = (eq-eqb, ne_eqb, lt-ltb, le-ltb, le-leb, lt-leb)
