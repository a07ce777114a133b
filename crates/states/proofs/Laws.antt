-- What a command for states does, and what it leaves alone. All is said of `with_states`, over the number of bytes that
-- number 0 reaches: 16 in a short command, 4,096 in a long one.
use Prim.Native.Nat.{ℕ, ◌*◌, ◌/◌, ◌%◌, ◌≤◌, ◌<◌}
use mathlib.Core.Bool.{Bool, false}
use mathlib.Core.List.{List}
use mathlib.Core.Path.{◌≡◌, refl, sym, ap, ◌∙◌}
use native.Mathlib.Omega.{arith}
use lib.Dec.{eqb, lit<}
use lib.ListN.{length, get_or, length-replicate, get_or-replicate}
use lib.Pow.{pow_pos}
use borrow.Author.Tests.{ne_eqb}
use Rattle.bits.specs.Bits.{bit_at}
use Rattle.bits.proofs.Parts.{none_there}
use Rattle.bits.proofs.Tests.{by}
use Rattle.states.specs.States.{state_at, on_bit, all_of, with_state, with_all, with_states, with_short, with_long, cleared}
use Rattle.states.proofs.Filled.{filled_whole}
use Rattle.states.proofs.One.{one_length, one_twice, one_bytes, one_reads, one_others, one_below}
use Rattle.states.proofs.All.{all_length, all_twice, all_bytes, all_reads, all_first, all_others, all_below_lem}

-- number 0 is a command for all, any other number one for its own state
module _ (count : ℕ) (states : List ℕ) (on : Bool) where
  pub is_all : with_states count states 0 on ≡ with_all states count on
  unfolding with_states
  is_all = refl

  pub is_one : (n : ℕ) → (n ≡ 0 → ⊥) → with_states count states n on ≡ with_state states n on
  unfolding with_states
  is_one n named = rw (ne_eqb n 0 named)

-- any command
module _ (count : ℕ) (states : List ℕ) (n : ℕ) (on : Bool) (some : 0 < count) (fits : count ≤ length states) (there : n < 8 * length states) where
  -- the length stays
  pub length_stays : length (with_states count states n on) ≡ length states
  unfolding with_states
  length_stays = by (eqb n 0) (λ e. rw e (all_length states count on some fits)) (λ e. rw e (one_length states n on (omega arith)))

  -- bytes stay bytes
  pub bytes_stay : ((i : ℕ) → get_or states i 0 < 256) → (i : ℕ) → get_or (with_states count states n on) i 0 < 256
  unfolding with_states
  bytes_stay bytes i =
      by (eqb n 0) (λ e. rw e (all_below_lem states count on some fits bytes i)) (λ e. rw e (one_below states n on (omega arith) bytes i))

  -- a command given twice is the command given once
  pub set_twice : with_states count (with_states count states n on) n on ≡ with_states count states n on
  unfolding with_states
  set_twice = by (eqb n 0) (λ e. rw e (all_twice states count on some)) (λ e. rw e (one_twice states n on (omega arith)))

-- a command for one state
module _ (count : ℕ) (states : List ℕ) (n : ℕ) (on : Bool) (named : n ≡ 0 → ⊥) (there : n < 8 * length states) where
  -- the state that was set reads back
  pub set_reads : state_at (with_states count states n on) n ≡ on_bit on
  set_reads = rw (is_one count states on n named) (one_reads states n on (omega arith))

  -- every other state is untouched; so is bit 0 of byte 0, which has number 0 and is no state
  pub others_stay : (m : ℕ) → (m ≡ n → ⊥) → state_at (with_states count states n on) m ≡ state_at states m
  others_stay m other = rw (is_one count states on n named) (one_others states n on (omega arith) m other)

  -- every byte but the state's own is untouched
  pub other_bytes_stay : (i : ℕ) → (i ≡ n / 8 → ⊥) → get_or (with_states count states n on) i 0 ≡ get_or states i 0
  other_bytes_stay i other = rw (is_one count states on n named) (one_bytes states n on (omega arith) i other)

-- a command for all
module _ (count : ℕ) (states : List ℕ) (on : Bool) (some : 0 < count) (fits : count ≤ length states) where
  -- every state of the bytes that it reaches reads back
  pub all_set : (n : ℕ) → 0 < n → n < 8 * count → state_at (with_states count states 0 on) n ≡ on_bit on
  all_set n p h = rw (is_all count states on) (all_reads states count on some fits n p h)

  -- bit 0 of byte 0 is cleared
  pub first_bit_cleared : state_at (with_states count states 0 on) 0 ≡ 0
  first_bit_cleared = rw (is_all count states on) (all_first states count on some fits)

  -- every state and every byte behind these is untouched
  pub states_behind_stay : (n : ℕ) → 8 * count ≤ n → state_at (with_states count states 0 on) n ≡ state_at states n
  states_behind_stay n h = rw (is_all count states on) (all_others states count on some fits n h)

  pub bytes_behind_stay : (i : ℕ) → count ≤ i → get_or (with_states count states 0 on) i 0 ≡ get_or states i 0
  bytes_behind_stay i h = rw (is_all count states on) (all_bytes states count on some fits i h)

-- the two forms over 4,096 bytes
module _ (states : List ℕ) (long : length states ≡ 4096) (on : Bool) where
  -- after a short command for all, states 1 to 127 read on or off, and 128 to 32767 are as before
  pub short_all : (n : ℕ) → 0 < n → n < 128 → state_at (with_short states 0 on) n ≡ on_bit on
  short_all n p h = all_set 16 states on (lit< tt) (omega arith) n p h

  pub short_all_leaves : (n : ℕ) → 128 ≤ n → state_at (with_short states 0 on) n ≡ state_at states n
  short_all_leaves n h = states_behind_stay 16 states on (lit< tt) (omega arith) n h

  -- after a long command for all, states 1 to 32767 read on or off
  pub long_all : (n : ℕ) → 0 < n → n < 32768 → state_at (with_long states 0 on) n ≡ on_bit on
  long_all n p h = all_set 4096 states on (lit< tt) (omega arith) n p h

  -- 4,096 bytes they stay
  pub short_length : (n : ℕ) → n < 128 → length (with_short states n on) ≡ 4096
  short_length n h = length_stays 16 states n on (lit< tt) (omega arith) (omega arith) ∙ long

  pub long_length : (n : ℕ) → n < 32768 → length (with_long states n on) ≡ 4096
  long_length n h = length_stays 4096 states n on (lit< tt) (omega arith) (omega arith) ∙ long

  -- both forms set the same states
  pub one_set : (n : ℕ) → (n ≡ 0 → ⊥) → with_short states n on ≡ with_long states n on
  one_set n named = is_one 16 states on n named ∙ sym (is_one 4096 states on n named)

-- a restart does what a long command does that puts all states off: no state is on
pub cleared_is_all_off : (states : List ℕ) → length states ≡ 4096 → with_long states 0 false ≡ cleared
unfolding with_all all_of cleared
cleared_is_all_off states long = is_all 4096 states false ∙ filled_whole states 4096 0 long

pub cleared_length : length cleared ≡ 4096
unfolding cleared
cleared_length = length-replicate {A = ℕ} 4096 0

pub none_on : (n : ℕ) → n < 32768 → state_at cleared n ≡ 0
unfolding cleared
none_on n h = ap (λ (b : ℕ). bit_at b (n % 8)) (get_or-replicate 4096 (n / 8) 0 0 (omega arith)) ∙ none_there 0 (n % 8) 1 (pow_pos (n % 8))
