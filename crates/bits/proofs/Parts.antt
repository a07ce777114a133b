-- The laws of a part of a number, for every place and width.
use Prim.Native.Nat.{ℕ, ◌+◌, ◌-◌, ◌*◌, ◌/◌, ◌%◌, ◌^◌, ◌≤◌, ◌<◌}
use mathlib.Core.Path.{◌≡◌, sym, ◌∙◌, ap}
use native.Mathlib.Omega.{arith}
use native.Mathlib.Nat.{div-eq_of_lt, mod-lt, zero-mod, one-mul, add-mul, add_comm, div-one, mod-eq_of_lt}
use lib.Dec.{lit<, ltb}
use lib.Pow.{pow_pos, split, high, low, shr-shr, shl_exact, field, mod-mod-pow, mod-pow-add}
use borrow.Author.Tests.{ltb-true, ltb-false}
use Rattle.bits.specs.Bits.{part_of, with_part, bit_at, with_bit}
use Rattle.bits.proofs.Tests.{by}

-- a 1 that is moved up to a place counts what that place counts, in a word that has the place
pub one_up : (word place : ℕ) → place < word → 1 * 2 ^ place % 2 ^ word ≡ 2 ^ place
one_up word place h = shl_exact 1 place word (lit< tt) (omega arith) ∙ one-mul (2 ^ place)

-- a part has room in its width
pub part_lt : (n at width : ℕ) → part_of n at width < 2 ^ width
unfolding part_of
part_lt n at width = mod-lt (n / 2 ^ at) (pow_pos width)

-- what is above the part, the part, what is below it
pub in_three : (n at width : ℕ) → n ≡ n / 2 ^ (at + width) * 2 ^ width * 2 ^ at + part_of n at width * 2 ^ at + n % 2 ^ at
unfolding part_of
in_three n at width =
    sym (split n at) ∙ ap (λ (x : ℕ). x * 2 ^ at + n % 2 ^ at) (sym (split (n / 2 ^ at) width) ∙ ap (λ (x : ℕ). x * 2 ^ width + n / 2 ^ at % 2 ^ width) (shr-shr n at width))
    ∙ ap (λ (x : ℕ). x + n % 2 ^ at) (add-mul (n / 2 ^ (at + width) * 2 ^ width) (n / 2 ^ at % 2 ^ width) (2 ^ at))

-- what a part counts is in the number
pub part_le : (n at width : ℕ) → part_of n at width * 2 ^ at ≤ n
part_le n at width = omega (arith, in_three n at width)

-- another part between the same neighbours
pub placed : (n at width v : ℕ) → with_part n at width v ≡ (n / 2 ^ (at + width) * 2 ^ width + v) * 2 ^ at + n % 2 ^ at
unfolding with_part
placed n at width v =
    rw add-mul (omega (arith, in_three n at width))

-- a number that is 0 above bit k has no more than k bits
pub lt_of_none_above : (n k : ℕ) → n / 2 ^ k ≡ 0 → n < 2 ^ k
lt_of_none_above n k e = omega (arith, split n k, ap (λ (x : ℕ). x * 2 ^ k) e, mod-lt n (pow_pos k))

-- and a part that begins above a number's room is 0
pub none_there : (n at width : ℕ) → n < 2 ^ at → part_of n at width ≡ 0
unfolding part_of
none_there n at width h = rw (div-eq_of_lt h) (zero-mod (2 ^ width))

-- a part knows only the bits below its end, and only those from any bit below its start on
pub part_below : (n at j k : ℕ) → j + k ≤ at → part_of (n % 2 ^ at) j k ≡ part_of n j k
unfolding part_of
part_below n at j k h =
    sym (field (n % 2 ^ at) k j) ∙ ap (λ (x : ℕ). x / 2 ^ j) (rw add_comm (same n at (j + k) h)) ∙ field n k j
  where
    same : (n at e : ℕ) → e ≤ at → n % 2 ^ at % 2 ^ e ≡ n % 2 ^ e
    same n at e h = let s : at ≡ at - e + e = omega arith in ap (λ (x : ℕ). n % 2 ^ x % 2 ^ e) s ∙ mod-mod-pow n (at - e) e

pub part_above : (m n from j k : ℕ) → m / 2 ^ from ≡ n / 2 ^ from → from ≤ j → part_of m j k ≡ part_of n j k
unfolding part_of
part_above m n from j k e h =
    let s : j ≡ from + (j - from) = omega arith in
    rw (s, ← shr-shr m from (j - from), ← shr-shr n from (j - from), e)

-- a part of a part
pub part_part : (n at width i k : ℕ) → i + k ≤ width → part_of (part_of n at width) i k ≡ part_of n (at + i) k
unfolding part_of
part_part n at width i k h = part_below (n / 2 ^ at) width i k h ∙ rw shr-shr

-- a part of a number is its upper bits and its lower ones
pub in_two : (n at upper lower : ℕ) → part_of n at (upper + lower) ≡ part_of n (at + lower) upper * 2 ^ lower + part_of n at lower
unfolding part_of
in_two n at upper lower =
    mod-pow-add (n / 2 ^ at) upper lower ∙ ap (λ (x : ℕ). x % 2 ^ upper * 2 ^ lower + n / 2 ^ at % 2 ^ lower) (shr-shr n at lower)

-- a part from bit 0 on, as wide as the number, is the number
pub whole : (n width : ℕ) → n < 2 ^ width → part_of n 0 width ≡ n
unfolding part_of
whole n width h = rw div-one (mod-eq_of_lt h)

-- what is put back as it was changes nothing
pub with_same : (n at width : ℕ) → with_part n at width (part_of n at width) ≡ n
unfolding with_part
with_same n at width = omega (arith, in_three n at width)

module _ (n at width v : ℕ) (room : v < 2 ^ width) where
  from_at : with_part n at width v / 2 ^ at ≡ n / 2 ^ (at + width) * 2 ^ width + v
  from_at = rw placed (high (n / 2 ^ (at + width) * 2 ^ width + v) at (mod-lt n (pow_pos at)))

  -- what is put in is read back
  pub with_read : part_of (with_part n at width v) at width ≡ v
  unfolding part_of
  with_read = rw from_at (low (n / 2 ^ (at + width)) width room)

  -- nothing below changes
  pub with_low : with_part n at width v % 2 ^ at ≡ n % 2 ^ at
  with_low = rw placed (low (n / 2 ^ (at + width) * 2 ^ width + v) at (mod-lt n (pow_pos at)))

  pub with_below : (j k : ℕ) → j + k ≤ at → part_of (with_part n at width v) j k ≡ part_of n j k
  with_below j k h =
      sym (part_below (with_part n at width v) at j k h) ∙ ap (λ (x : ℕ). part_of x j k) with_low ∙ part_below n at j k h

  -- nothing above changes
  pub with_high : with_part n at width v / 2 ^ (at + width) ≡ n / 2 ^ (at + width)
  with_high = sym (shr-shr (with_part n at width v) at width) ∙ rw from_at (high (n / 2 ^ (at + width)) width room)

  pub with_above : (j k : ℕ) → at + width ≤ j → part_of (with_part n at width v) j k ≡ part_of n j k
  with_above j k h = part_above (with_part n at width v) n (at + width) j k with_high h

  -- a number keeps its room
  pub with_lt : (k : ℕ) → at + width ≤ k → n < 2 ^ k → with_part n at width v < 2 ^ k
  with_lt k h l =
      let s : k ≡ at + width + (k - (at + width)) = omega arith in
      lt_of_none_above (with_part n at width v) k
      (rw (s, ← shr-shr (with_part n at width v) (at + width) (k - (at + width)), with_high, shr-shr n (at + width) (k - (at + width)), ← s) (div-eq_of_lt l))

  -- the bits inside are those of what was put in
  pub with_inside : (i k : ℕ) → i + k ≤ width → part_of (with_part n at width v) (at + i) k ≡ part_of v i k
  with_inside i k h = sym (part_part (with_part n at width v) at width i k h) ∙ ap (λ (x : ℕ). part_of x i k) with_read

-- another bit of a number is not changed with one
pub with_bit_other : (n place v : ℕ) → v < 2 → (j : ℕ) → (j ≡ place → ⊥) → bit_at (with_bit n place v) j ≡ bit_at n j
with_bit_other n place v room j other =
    by (ltb j place) (λ e. with_below n place 1 v room j 1 (omega (arith, ltb-true j place e)))
    (λ e. with_above n place 1 v room j 1 (omega (arith, ltb-false j place e)))

-- a part is taken away and another put in its place, in a word that has the place: neither step leaves the word
pub swap_fits : (word n at width v one old : ℕ) → n < 2 ^ word → at + width ≤ word → v < 2 ^ width → one ≡ 2 ^ at → old ≡ part_of n at width
    → (old * one ≤ n) × (n - old * one + v * one < 2 ^ word)
unfolding with_part
swap_fits word n at width v one old fits h room w o = rw (w, o) (part_le n at width, with_lt n at width v room word h fits)
