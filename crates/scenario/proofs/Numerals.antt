-- Digits, a step at a time, and when they are a number.
use Prim.Native.Nat.{ℕ, zero, suc, ◌+◌, ◌-◌, ◌*◌, ◌/◌, ◌^◌, ◌≤◌, ◌<◌}
use mathlib.Core.Bool.{Bool, true, false, ◌&&◌}
use mathlib.Core.List.{List, [], ◌∷◌}
use mathlib.Core.Path.{◌≡◌, refl, ap, ◌∙◌}
use native.Mathlib.Omega.{arith}
use native.Mathlib.Nat.{le-mul_of_pos_right, le-div_iff_mul-le, div-lt_iff_lt-mul}
use lib.Dec.{eqb, leb, ltb}
use lib.ListN.{length, get_or, take, drop, drop_of_length-le}
use lib.Seq.{drop-cons}
use borrow.Author.Tests.{eq-eqb, ne_eqb, lt-ltb, le-ltb, le-leb, lt-leb, leb-true, ltb-true, ltb-false, eqb-true}
use Rattle.bits.proofs.Tests.{by, and_left, and_right, clash}
use Rattle.scenario.specs.Words.{Word, pieces, non_empty, parts_of, word_at}
use Rattle.std.proofs.Common.{Option, Some, None, SomeIff, MatchOption, is_some, unwrap_or}
use Rattle.std.specs.Cmp.Lexicographic.{pointwise}
use Rattle.scenario.specs.Numbers.{Number, numbered, digit_found, digit_value, all_digits, digits_value, is_numeral, numeral_of, no_number, is_hex, word_number, pair_of, within, none, value_of}

module _ (b : ℕ) where
  pub digit_0 : 48 ≤ b → b ≤ 57 → digit_value b ≡ b - 48
  unfolding digit_value
  digit_0 l h = simp (le-leb 48 b l, le-leb b 57 h)

  pub digit_A : 65 ≤ b → b ≤ 70 → digit_value b ≡ b - 55
  unfolding digit_value
  digit_A l h = simp (le-leb 48 b (omega arith), lt-leb b 57 (omega arith), le-leb 65 b l, le-leb b 70 h)

  pub digit_a : 97 ≤ b → b ≤ 102 → digit_value b ≡ b - 87
  unfolding digit_value
  digit_a l h =
      simp (le-leb 48 b (omega arith), lt-leb b 57 (omega arith), le-leb 65 b (omega arith), lt-leb b 70 (omega arith), le-leb 97 b l, le-leb b 102 h)

  pub below_0 : b < 48 → digit_value b ≡ 16
  unfolding digit_value
  below_0 h = simp (lt-leb 48 b h, lt-leb 65 b (omega arith), lt-leb 97 b (omega arith))

  pub below_A : 57 < b → b < 65 → digit_value b ≡ 16
  unfolding digit_value
  below_A l h = simp (lt-leb b 57 l, le-leb 48 b (omega arith), lt-leb 65 b h, lt-leb 97 b (omega arith))

  pub below_a : 70 < b → b < 97 → digit_value b ≡ 16
  unfolding digit_value
  below_a l h = simp (lt-leb b 57 (omega arith), le-leb 48 b (omega arith), le-leb 65 b (omega arith), lt-leb b 70 l, lt-leb 97 b h)

  pub above_f : 102 < b → digit_value b ≡ 16
  unfolding digit_value
  above_f h =
      simp (lt-leb b 57 (omega arith), le-leb 48 b (omega arith), le-leb 65 b (omega arith), lt-leb b 70 (omega arith), le-leb 97 b (omega arith), lt-leb b 102 h)

pub digit_some : (b d : ℕ) → digit_value b ≡ d → d < 16 → Some d ≡ digit_found b
unfolding digit_found
digit_some b d e h = simp (e, lt-ltb d 16 h)

pub no_digit : (b : ℕ) → digit_value b ≡ 16 → None ≡ digit_found b
unfolding digit_found
no_digit b e = simp e

-- two numbers that are handed on as one record are one
pub numbered_once : (one other : Option ℕ) → numbered one ≡ numbered other → one ≡ other
numbered_once None None e = refl
numbered_once None (Some n) e = clash (ap (λ (n : Number). n.good) e) refl
numbered_once (Some m) None e = clash refl (ap (λ (n : Number). n.good) e)
numbered_once (Some m) (Some n) e = ap Some (ap (λ (n : Number). n.value) e)

module _ (base : ℕ) (w : Word) (i : ℕ) (h : i < length w) where
  pub digit_right : digit_value (get_or w i 0) < base → all_digits base (drop i w) ≡ all_digits base (drop (suc i) w)
  unfolding all_digits
  digit_right d = rw (drop-cons w i 0 h) (simp (lt-ltb _ _ d))

  pub digit_wrong : base ≤ digit_value (get_or w i 0) → all_digits base (drop i w) ≡ false
  unfolding all_digits
  digit_wrong d = rw (drop-cons w i 0 h) (simp (le-ltb _ _ d))

  pub digit_counts : (n : ℕ) → digits_value base n (drop i w) ≡ digits_value base (n * base + digit_value (get_or w i 0)) (drop (suc i) w)
  unfolding digits_value
  digit_counts n = rw (drop-cons w i 0 h)

module _ (base : ℕ) (w : Word) (i : ℕ) (h : length w ≤ i) where
  pub all_right : all_digits base (drop i w) ≡ true
  unfolding all_digits
  all_right = rw (drop_of_length-le w h)

  pub all_counted : (n : ℕ) → digits_value base n (drop i w) ≡ n
  unfolding digits_value
  all_counted n = rw (drop_of_length-le w h)

-- digits behind a number make no less of it
pub count_grows : (base n : ℕ) (w : Word) → 1 < base → n ≤ digits_value base n w
unfolding digits_value
count_grows base n [] h = omega arith
count_grows base n (b ∷ w) h =
    omega (arith, count_grows base (n * base + digit_value b) w h, le-mul_of_pos_right {m = base} n (omega arith))

-- whether the next digit has room in 64 bits, asked by a division
pub too_large : (base n d : ℕ) → 1 < base → d < base → base < 17 → (18446744073709551615 - d) / base < n → 2 ^ 64 ≤ n * base + d
too_large base n d h l s t = omega (arith, (div-lt_iff_lt-mul {k = base} {x = 18446744073709551615 - d} {y = n} (omega arith)).0 t)

module _ (base : ℕ) (w : Word) where
  none_of : is_numeral base w ≡ false → numeral_of base w ≡ no_number
  unfolding numeral_of
  none_of h = simp h

  pub no_digits : length w ≡ 0 → numeral_of base w ≡ no_number
  unfolding is_numeral
  no_digits h = none_of (simp (lt-leb 1 (length w) (omega arith)))

  pub too_many : 20 < length w → numeral_of base w ≡ no_number
  unfolding is_numeral
  too_many h = none_of (simp (le-leb 1 (length w) (omega arith), lt-leb (length w) 20 h))

  module _ (l : 1 ≤ length w) (m : length w ≤ 20) where
    pub not_digits : all_digits base w ≡ false → numeral_of base w ≡ no_number
    unfolding is_numeral
    not_digits h = none_of (simp (le-leb 1 (length w) l, le-leb (length w) 20 m, h))

    pub over_room : 2 ^ 64 ≤ digits_value base 0 w → numeral_of base w ≡ no_number
    unfolding is_numeral
    over_room h = none_of (by (all_digits base w) (λ t. simp (le-leb 1 (length w) l, le-leb (length w) 20 m, t, le-ltb (digits_value base 0 w) (2 ^ 64) h)) (λ t. simp (le-leb 1 (length w) l, le-leb (length w) 20 m, t)))

    pub numeral : (n : ℕ) → n < 2 ^ 64 → all_digits base w ≡ true → digits_value base 0 w ≡ n → numeral_of base w ≡ record { good = true; value = n }
    unfolding numeral_of is_numeral
    numeral n f a e = simp (le-leb 1 (length w) l, le-leb (length w) 20 m, a, e, lt-ltb n (2 ^ 64) f)

-- `0x` takes two bytes
pub hex_long : (w : Word) → is_hex w ≡ true → 2 ≤ length w
unfolding is_hex
hex_long [] h = clash h refl
hex_long (a ∷ []) h = clash (and_right (eqb a 48) false h) refl
hex_long (a ∷ b ∷ w) h = omega arith

pub short_no_hex : (w : Word) → length w < 2 → is_hex w ≡ false
short_no_hex w h = by (is_hex w) (λ t. let z : ⊥ = omega (arith, hex_long w t) in absurd z) (λ t. t)

-- a word is held against `0x`
pub hex_front : (w : Word) → pointwise eqb (take 2 w) (48 ∷ 120 ∷ []) ≡ is_hex w
unfolding is_hex
hex_front [] = refl
hex_front (a ∷ []) = refl
hex_front (a ∷ b ∷ w) = by (eqb b 120) (λ t. simp t) (λ t. simp t)

pub value_le : (limit : ℕ) (w : Word) → value_of limit w ≤ limit
unfolding value_of within
value_le limit w =
    by (within limit w) (λ t. simp t (leb-true _ _ (and_right (word_number w).good (leb (word_number w).value limit) t)))
    (λ t. simp t (omega arith))

-- no part is empty: past the last there is none
none_there : (ps : List Word) (k : ℕ) → eqb (length (word_at (non_empty ps) k)) 0 ≡ none (drop k (non_empty ps))
none_there [] zero = refl
none_there [] (suc k) = refl
none_there ([] ∷ ps) k = none_there ps k
none_there ((b ∷ w) ∷ ps) zero = ne_eqb (suc (length w)) 0 (λ e. let z : ⊥ = omega arith in z)
none_there ((b ∷ w) ∷ ps) (suc k) = none_there ps k

pub no_part : (stop : ℕ) (s : List ℕ) (k : ℕ) → eqb (length (word_at (parts_of stop s) k)) 0 ≡ none (drop k (parts_of stop s))
unfolding parts_of
no_part stop s k = none_there (pieces stop s) k

-- a result that is there where it has room
module _ (o : Option ℕ) (P : Type 0) (v : ℕ) (h : SomeIff o P v) where
  pub no_room : o ≡ None → P → ⊥
  no_room e = rw e at h

  pub has_room : (n : ℕ) → o ≡ Some n → P × (n ≡ v)
  has_room n e = rw e at h

-- a digit as it was handed on
pub digit_is : (b d : ℕ) → Some d ≡ digit_found b → digit_value b ≡ d
unfolding digit_found
digit_is b d e = by (ltb (digit_value b) 16) (λ t. let s : Some d ≡ Some (digit_value b) = e ∙ simp t in cc) (λ t. let s : Some d ≡ None = e ∙ simp t in absurd (cc))

pub not_digit : (b : ℕ) → None ≡ digit_found b → 16 ≤ digit_value b
unfolding digit_found
not_digit b e = by (ltb (digit_value b) 16) (λ t. let s : None ≡ Some (digit_value b) = e ∙ simp t in absurd (cc)) (λ t. ltb-false _ _ t)

pub by_hex : (w : Word) → is_hex w ≡ true → word_number w ≡ numeral_of 16 (drop 2 w)
unfolding word_number
by_hex w h = simp h

pub by_ten : (w : Word) → is_hex w ≡ false → word_number w ≡ numeral_of 10 w
unfolding word_number
by_ten w h = simp h

-- a number within a limit, from a number as it was read
module _ (w : Word) (limit : ℕ) where
  pub good_within : (n : ℕ) → numbered (Some n) ≡ word_number w → leb n limit ≡ within limit w
  unfolding within
  good_within n e = rw (← e)

  pub not_within : numbered None ≡ word_number w → false ≡ within limit w
  unfolding within
  not_within e = rw (← e)

  pub value_is : (n : ℕ) → numbered (Some n) ≡ word_number w → n ≤ limit → n ≡ value_of limit w
  unfolding value_of within
  value_is n e l = rw (← e) (simp (le-leb n limit l))

  pub value_over : (n : ℕ) → numbered (Some n) ≡ word_number w → limit < n → 0 ≡ value_of limit w
  unfolding value_of within
  value_over n e l = rw (← e) (simp (lt-leb n limit l))

  pub value_none : numbered None ≡ word_number w → 0 ≡ value_of limit w
  unfolding value_of within
  value_none e = rw (← e)

-- what follows of a number that is there, or not
pub match_then : {A P P' : Type 0} {Q Q' : A → Type 0} (o : Option A) → MatchOption o P Q → (P → P') → ((x : A) → Q x → Q' x) → MatchOption o P' Q'
match_then None m p q = p m
match_then (Some x) m p q = q x m

pub is_within : (w : Word) (limit : ℕ) (o : Option ℕ) (r : Bool) → numbered o ≡ word_number w → MatchOption o (r ≡ false) (λ n. r ≡ leb n limit) → r ≡ within limit w
unfolding within
is_within w limit None r e m = m ∙ not_within w limit e
is_within w limit (Some n) r e m = m ∙ good_within w limit n e

-- a number as it was read, from one that is handed on
pub there : (o : Option ℕ) → is_some o ≡ (numbered o).good
there None = refl
there (Some n) = refl

pub else_0 : (o : Option ℕ) → unwrap_or o 0 ≡ (numbered o).value
else_0 None = refl
else_0 (Some n) = refl

-- two digits are a byte
pub pair_length : (w : Word) → (length w ≡ 2 → ⊥) → no_number ≡ pair_of w
unfolding pair_of
pair_length w h = simp (ne_eqb (length w) 2 h)

pub pair_numeral : (w : Word) → length w ≡ 2 → numeral_of 16 w ≡ pair_of w
unfolding pair_of
pair_numeral w h = simp (eq-eqb (length w) 2 h)

two_digits : (w : Word) → length w ≡ 2 → all_digits 16 w ≡ true → digits_value 16 0 w < 256
unfolding all_digits digits_value
two_digits [] e t = let z : ⊥ = omega arith in absurd z
two_digits (a ∷ []) e t = let z : ⊥ = omega arith in absurd z
two_digits (a ∷ b ∷ []) e t =
    omega (arith, ltb-true (digit_value a) 16 (and_left _ (ltb (digit_value b) 16 && true) t), ltb-true (digit_value b) 16 (and_left _ true (and_right (ltb (digit_value a) 16) _ t)))
two_digits (a ∷ b ∷ c ∷ w) e t = let z : ⊥ = omega arith in absurd z

pub pair_small : (w : Word) → (pair_of w).value < 256
unfolding pair_of numeral_of is_numeral
pair_small w =
    by (eqb (length w) 2)
    (λ e. by (is_numeral 16 w)
    (λ t. simp (e, t) (two_digits w (eqb-true (length w) 2 e) (and_right (leb 1 (length w) && leb (length w) 20) (all_digits 16 w) (and_left (leb 1 (length w) && leb (length w) 20 && all_digits 16 w) _ t))))
    (λ t. simp (e, t) (omega arith)))
    (λ e. simp e (omega arith))

pub has_room_lem : (base n d : ℕ) → 1 < base → d < base → base < 17 → n ≤ (18446744073709551615 - d) / base → n * base + d < 2 ^ 64
has_room_lem base n d h l s t = omega (arith, (le-div_iff_mul-le {k = base} {x = n} {y = 18446744073709551615 - d} (omega arith)).0 t)
