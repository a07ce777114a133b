-- One state: the byte that it is in, and the others.
use Prim.Native.Nat.{ℕ, ◌/◌, ◌%◌, ◌<◌}
use mathlib.Core.Bool.{Bool}
use mathlib.Core.List.{List}
use mathlib.Core.Path.{◌≡◌, refl, sym, ap, ◌∙◌}
use native.Mathlib.Omega.{arith}
use lib.Dec.{eqb}
use lib.ListN.{length, get_or, set, length-set}
use lib.Seq.{get_or-set_same, get_or-set_other, set-get_or}
use borrow.Author.Tests.{eqb-true, eqb-false}
use Rattle.bits.specs.Bits.{bit_at, with_bit}
use Rattle.bits.proofs.Parts.{with_same, with_read, with_lt, with_bit_other}
use Rattle.bits.proofs.Tests.{by}
use Rattle.states.specs.States.{state_at, on_bit, with_state}
use Rattle.states.proofs.Filled.{bit_lt}

module _ (states : List ℕ) (n : ℕ) (on : Bool) (there : n / 8 < length states) where
  pub one_length : length (with_state states n on) ≡ length states
  unfolding with_state
  one_length = simp length-set

  pub one_byte : get_or (with_state states n on) (n / 8) 0 ≡ with_bit (get_or states (n / 8) 0) (n % 8) (on_bit on)
  unfolding with_state
  one_byte = get_or-set_same states (n / 8) _ 0 there

  pub one_bytes : (i : ℕ) → (i ≡ n / 8 → ⊥) → get_or (with_state states n on) i 0 ≡ get_or states i 0
  unfolding with_state
  one_bytes i other = get_or-set_other states (n / 8) i _ 0 other

  pub one_reads : state_at (with_state states n on) n ≡ on_bit on
  one_reads = rw one_byte (with_read (get_or states (n / 8) 0) (n % 8) 1 (on_bit on) (bit_lt on))

  pub one_others : (m : ℕ) → (m ≡ n → ⊥) → state_at (with_state states n on) m ≡ state_at states m
  one_others m other =
      by (eqb (m / 8) (n / 8))
      (λ e. let same : m / 8 ≡ n / 8 = eqb-true _ _ e in
      rw (same, one_byte) (with_bit_other (get_or states (n / 8) 0) (n % 8) (on_bit on) (bit_lt on) (m % 8) (λ place. other (omega arith))))
      (λ e. ap (λ (b : ℕ). bit_at b (m % 8)) (one_bytes (m / 8) (eqb-false _ _ e)))

  pub one_below : ((i : ℕ) → get_or states i 0 < 256) → (i : ℕ) → get_or (with_state states n on) i 0 < 256
  one_below bytes i =
      by (eqb i (n / 8))
      (λ e. rw (eqb-true i (n / 8) e, one_byte) (with_lt (get_or states (n / 8) 0) (n % 8) 1 (on_bit on) (bit_lt on) 8 (omega arith) (bytes (n / 8))))
      (λ e. rw (one_bytes i (eqb-false _ _ e)) (bytes i))

as_set : (states : List ℕ) (n : ℕ) (on : Bool) → with_state states n on ≡ set states (n / 8) (with_bit (get_or states (n / 8) 0) (n % 8) (on_bit on))
unfolding with_state
as_set states n on = refl

-- a state that is so already: its byte, and so every byte, is as it was
pub one_same : (states : List ℕ) (n : ℕ) (on : Bool) → state_at states n ≡ on_bit on → with_state states n on ≡ states
one_same states n on so =
    let byte = get_or states (n / 8) 0 in
    let same : with_bit byte (n % 8) (on_bit on) ≡ byte = ap (with_bit byte (n % 8)) (sym so) ∙ with_same byte (n % 8) 1 in
    as_set states n on ∙ ap (set states (n / 8)) same ∙ set-get_or states (n / 8) 0

pub one_twice : (states : List ℕ) (n : ℕ) (on : Bool) → n / 8 < length states → with_state (with_state states n on) n on ≡ with_state states n on
one_twice states n on there = one_same (with_state states n on) n on (one_reads states n on there)
