-- All states of the first bytes: what each of these bytes is then, its bits, and the bytes behind.
use Prim.Native.Nat.{ℕ, zero, suc, ◌+◌, ◌-◌, ◌*◌, ◌/◌, ◌%◌, ◌≤◌, ◌<◌}
use mathlib.Core.Bool.{Bool, true, false}
use mathlib.Core.List.{List, ◌++◌}
use mathlib.Core.Path.{◌≡◌, refl, ap, ◌∙◌}
use native.Mathlib.Omega.{arith}
use lib.Dec.{ltb, lit<}
use lib.ListN.{length, get_or, drop, length-append, length-drop, length-replicate, get_or-replicate, get_or-append}
use lib.Pow.{pow_pos}
use lib.Seq.{get_or-append-add, get_or-drop, drop_at}
use borrow.Author.Tests.{ltb-true, ltb-false}
use Rattle.bits.specs.Bits.{part_of, bit_at}
use Rattle.bits.proofs.Parts.{none_there}
use Rattle.bits.proofs.Tests.{by, equal_below}
use Rattle.states.specs.States.{state_at, on_bit, all_of, with_all}

-- byte i
all_byte : Bool → ℕ → ℕ
all_byte true zero = 254
all_byte true (suc i) = 255
all_byte false i = 0

all_at : (count : ℕ) (on : Bool) (i : ℕ) → i < count → get_or (all_of count on) i 0 ≡ all_byte on i
unfolding all_of all_byte
all_at count true zero h = refl
all_at count true (suc i) h = get_or-replicate (count - 1) i 255 0 (omega arith)
all_at count false i h = get_or-replicate count i 0 0 h

all_long : (count : ℕ) (on : Bool) → 0 < count → length (all_of count on) ≡ count
unfolding all_of
all_long count true some = rw length-replicate (omega arith)
all_long count false some = length-replicate count 0

-- every bit is the command's, but for bit 0 of byte 0, which is 0
all_bit : (on : Bool) (i place : ℕ) → place < 8 → 0 < i + place → bit_at (all_byte on i) place ≡ on_bit on
unfolding all_byte part_of
all_bit true zero zero h p = let z : ⊥ = omega arith in absurd z
all_bit true zero (suc k) h p =
    equal_below 7 (λ j. bit_at 254 (suc j)) (λ j. 1) refl k (omega arith)
all_bit true (suc i) place h p =
    equal_below 8 (bit_at 255) (λ j. 1) refl place h
all_bit false i place h p = none_there 0 place 1 (pow_pos place)

no_state : (on : Bool) → bit_at (all_byte on 0) 0 ≡ 0
unfolding all_byte part_of
no_state true = refl
no_state false = refl

all_byte_lt : (on : Bool) (i : ℕ) → all_byte on i < 256
unfolding all_byte
all_byte_lt true zero = lit< tt
all_byte_lt true (suc i) = lit< tt
all_byte_lt false i = lit< tt

module _ (states : List ℕ) (count : ℕ) (on : Bool) (some : 0 < count) (fits : count ≤ length states) where
  pub all_length : length (with_all states count on) ≡ length states
  unfolding with_all
  all_length = rw (length-append (all_of count on) (drop count states), all_long count on some, length-drop count states) (omega arith)

  all_byte_lem : (i : ℕ) → i < count → get_or (with_all states count on) i 0 ≡ all_byte on i
  unfolding with_all
  all_byte_lem i h = get_or-append (all_of count on) (drop count states) 0 i (rw (all_long count on some) h) ∙ all_at count on i h

  pub all_bytes : (i : ℕ) → count ≤ i → get_or (with_all states count on) i 0 ≡ get_or states i 0
  unfolding with_all
  all_bytes i h =
      let e : i ≡ length (all_of count on) + (i - count) = rw (all_long count on some) (omega arith) in
      let f : count + (i - count) ≡ i = omega arith in
      ap (λ (k : ℕ). get_or (all_of count on ++ drop count states) k 0) e ∙ get_or-append-add (all_of count on) (drop count states) (i - count) 0
      ∙ get_or-drop count states (i - count) 0 ∙ ap (λ (k : ℕ). get_or states k 0) f

  pub all_reads : (n : ℕ) → 0 < n → n < 8 * count → state_at (with_all states count on) n ≡ on_bit on
  all_reads n p h = rw (all_byte_lem (n / 8) (omega arith)) (all_bit on (n / 8) (n % 8) (omega arith) (omega arith))

  pub all_first : state_at (with_all states count on) 0 ≡ 0
  all_first = rw (all_byte_lem 0 some) (no_state on)

  pub all_others : (n : ℕ) → 8 * count ≤ n → state_at (with_all states count on) n ≡ state_at states n
  all_others n h = ap (λ (b : ℕ). bit_at b (n % 8)) (all_bytes (n / 8) (omega arith))

  pub all_below_lem : ((i : ℕ) → get_or states i 0 < 256) → (i : ℕ) → get_or (with_all states count on) i 0 < 256
  all_below_lem bytes i =
      by (ltb i count) (λ e. rw (all_byte_lem i (ltb-true i count e)) (all_byte_lt on i))
      (λ e. rw (all_bytes i (ltb-false i count e)) (bytes i))

-- the second time nothing is another
pub all_twice : (states : List ℕ) (count : ℕ) (on : Bool) → 0 < count → with_all (with_all states count on) count on ≡ with_all states count on
unfolding with_all
all_twice states count on some =
    ap (λ (l : List ℕ). all_of count on ++ l) (drop_at (all_of count on) (drop count states) count (all_long count on some))
