-- HOW MANY ARE ON, over any bits that have numbers: a byte's, a word's, the states.
use Prim.Native.Nat.{ℕ, zero, suc, ◌+◌, ◌*◌, ◌/◌, ◌%◌, ◌^◌, ◌≤◌, ◌<◌}
use mathlib.Core.Path.{◌≡◌, refl, sym, ◌∙◌, ap, ap₂}
use native.Mathlib.Nat.{add-zero, add_comm, mod-lt, div-add-mod'}
use native.Mathlib.Omega.{arith}
use lib.Count.{ones, ones_in, ones_cat, ones-le}
use lib.Dec.{eqb, lit<}
use lib.Pow.{pow_pos, shr_lt}
use borrow.Author.Tests.{eqb-true, eqb-false}
use Rattle.bits.specs.Bits.{part_of, bit_at, with_bit}
use Rattle.bits.proofs.Parts.{part_lt, part_below, with_read, with_bit_other}
use Rattle.bits.proofs.Tests.{by}
use Rattle.ones.specs.Ones.{ones_among}

module _ (f g : ℕ → ℕ) (first : ℕ) where
  -- the same bits, also of other numbers, give the same number
  pub same_ones : (other count : ℕ) → ((k : ℕ) → k < count → g (other + k) ≡ f (first + k)) → ones_among g other count ≡ ones_among f first count
  unfolding ones_among
  same_ones other zero same = refl
  same_ones other (suc count) same =
      ap₂ (λ (a b : ℕ). a + b) (same_ones other count (λ k h. same k (omega arith))) (same count (omega arith))

  -- ONE BIT ANOTHER: the number moves by what that bit was and is
  pub one_other : (count at : ℕ) → first ≤ at → at < first + count → ((n : ℕ) → (n ≡ at → ⊥) → g n ≡ f n)
      → ones_among g first count + f at ≡ ones_among f first count + g at
  unfolding ones_among
  one_other zero at l h same = let z : ⊥ = omega arith in absurd z
  one_other (suc count) at l h same =
      by (eqb at (first + count))
      (λ e. let last : at ≡ first + count = eqb-true _ _ e in
      let rest = same_ones first count (λ k m. same (first + k) (λ q. omega (arith, m, last, q))) in
      rw (last, rest) (omega arith))
      (λ e. let other = eqb-false _ _ e in
      let below = one_other count at l (omega arith) same in
      let here = same (first + count) (λ q. other (sym q)) in
      rw here (omega (arith, below)))

module _ (f : ℕ → ℕ) (first : ℕ) where
  -- so many first ones, and the rest
  pub in_two : (some more : ℕ) → ones_among f first (some + more) ≡ ones_among f first some + ones_among f (first + some) more
  unfolding ones_among
  in_two some zero = ap (ones_among f first) (add-zero some) ∙ sym (add-zero (ones_among f first some))
  in_two some (suc more) =
      let e : some + suc more ≡ suc (some + more) = omega arith in
      let last : first + (some + more) ≡ first + some + more = omega arith in
      rw (e, in_two some more, last) (omega arith)

  -- all of them the same
  pub all_alike : (count v : ℕ) → ((n : ℕ) → first ≤ n → n < first + count → f n ≡ v) → ones_among f first count ≡ count * v
  unfolding ones_among
  all_alike zero v same = omega arith
  all_alike (suc count) v same =
      rw (all_alike count v (λ n l h. same n l (omega arith)), same (first + count) (omega arith) (omega arith)) (omega arith)

  -- never more than there are
  pub at_most : (count : ℕ) → ((n : ℕ) → f n ≤ 1) → ones_among f first count ≤ count
  unfolding ones_among
  at_most zero bit = omega arith
  at_most (suc count) bit = omega (arith, at_most count bit, bit (first + count))

pub bits_at_most : (n width : ℕ) → ones_among (bit_at n) 0 width ≤ width
bits_at_most n width = at_most (bit_at n) 0 width (λ place. omega (arith, part_lt n place 1))

one_digit : (d : ℕ) → d < 2 → ones d ≡ d % 2 ^ 1
unfolding ones ones_in
one_digit zero h = refl
one_digit (suc zero) h = refl
one_digit (suc (suc d)) h = let z : ⊥ = omega arith in absurd z

-- the language's operation counts a number's bits
pub ones_are_bits : (width n : ℕ) → n < 2 ^ width → ones n ≡ ones_among (bit_at n) 0 width
unfolding ones_among part_of
ones_are_bits zero n h = let e : n ≡ 0 = omega arith in rw e (omega (arith, ones-le 0 0 (lit< tt)))
ones_are_bits (suc width) n h =
    let upper = n / 2 ^ width in
    let lower = n % 2 ^ width in
    let small : lower < 2 ^ width = mod-lt n (pow_pos width) in
    let few : ones lower ≡ ones_among (bit_at n) 0 width =
    ones_are_bits width lower small
    ∙ same_ones (bit_at n) (bit_at lower) 0 0 width (λ k q. part_below n width (0 + k) 1 (omega arith)) in
    let one_more : suc width ≡ 1 + width = omega arith in
    let bound : n < 2 ^ (1 + width) = rw (← one_more) h in
    let top : ones upper ≡ bit_at n width = one_digit upper (shr_lt 1 width bound) in
    let here : 0 + width ≡ width = omega arith in
    rw here
    (ap ones (sym (div-add-mod' n (2 ^ width))) ∙ ones_cat width upper lower small ∙ ap₂ (λ (a b : ℕ). a + b) top few ∙ add_comm (bit_at n width) (ones_among (bit_at n) 0 width))

-- A BYTE AND A BIT: with one bit another, the ones of a number move by it
pub bit_moves : (width n place v : ℕ) → place < width → v < 2
    → ones_among (bit_at (with_bit n place v)) 0 width + bit_at n place ≡ ones_among (bit_at n) 0 width + v
bit_moves width n place v h small =
    let moved = one_other (bit_at n) (bit_at (with_bit n place v)) 0 width place (omega arith) (omega arith) (λ k other. with_bit_other n place v small k other) in
    let read : bit_at (with_bit n place v) place ≡ v = with_read n place 1 v small in
    moved ∙ ap (λ (x : ℕ). ones_among (bit_at n) 0 width + x) read
