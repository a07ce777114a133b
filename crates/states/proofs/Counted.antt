-- HOW MANY STATES ARE ON: byte by byte, and what a command moves.
use Prim.Native.Nat.{ℕ, zero, suc, ◌+◌, ◌-◌, ◌*◌, ◌/◌, ◌%◌, ◌≤◌, ◌<◌}
use mathlib.Core.Bool.{Bool, true, false}
use mathlib.Core.List.{List, [], ◌∷◌}
use mathlib.Core.Path.{◌≡◌, refl, sym, ap, ap₂, ◌∙◌}
use native.Mathlib.Omega.{arith}
use lib.Dec.{eqb, lit<}
use lib.ListN.{length, get_or, replicate}
use borrow.Author.Tests.{ne_eqb, eqb-true, eqb-false}
use Rattle.bits.specs.Bits.{part_of, bit_at}
use Rattle.bits.proofs.Parts.{part_lt}
use Rattle.bits.proofs.Tests.{by}
use Rattle.ones.specs.Ones.{ones_among}
use Rattle.ones.proofs.Laws.{same_ones, one_other, in_two, all_alike, at_most}
use Rattle.states.specs.States.{state_at, on_bit, with_state, with_all, with_states, with_short, with_long, cleared, states_on, moved_by, all_or_none, stateson_short, stateson_long}
use Rattle.states.proofs.Filled.{bit_lt}
use Rattle.states.proofs.One.{one_reads, one_others, one_same}
use Rattle.states.proofs.All.{all_reads, all_others}
use Rattle.states.proofs.Laws.{is_one, none_on, set_twice, short_length, long_length}

-- a state is 0 or 1
pub state_bit : (states : List ℕ) (n : ℕ) → state_at states n ≤ 1
state_bit states n = omega (arith, part_lt (get_or states (n / 8) 0) (n % 8) 1)

only_one : (f : ℕ → ℕ) → ones_among f 0 1 ≡ f 0
unfolding ones_among
only_one f = omega arith

-- a byte more
pub byte_more : (states : List ℕ) (i : ℕ) → ones_among (state_at states) 0 (8 * (i + 1)) ≡ ones_among (state_at states) 0 (8 * i) + ones_among (bit_at (get_or states i 0)) 0 8
byte_more states i =
    let longer : 8 * (i + 1) ≡ 8 * i + 8 = omega arith in
    let its-byte : (k : ℕ) → k < 8 → state_at states (0 + 8 * i + k) ≡ bit_at (get_or states i 0) (0 + k) =
    λ k h. let byte : (0 + 8 * i + k) / 8 ≡ i = omega arith in
    let place : (0 + 8 * i + k) % 8 ≡ 0 + k = omega arith in
    rw (byte, place) in
    ap (ones_among (state_at states) 0) longer ∙ in_two (state_at states) 0 (8 * i) 8
    ∙ ap (λ (x : ℕ). ones_among (state_at states) 0 (8 * i) + x)
    (same_ones (bit_at (get_or states i 0)) (state_at states) 0 (0 + 8 * i) 8 its-byte)

-- bit 0 of byte 0 is apart
pub first_apart : (states : List ℕ) (count : ℕ) → 0 < count → ones_among (state_at states) 0 count ≡ state_at states 0 + ones_among (state_at states) 1 (count - 1)
first_apart states count some =
    let rest : count ≡ 1 + (count - 1) = omega arith in
    ap (ones_among (state_at states) 0) rest ∙ in_two (state_at states) 0 1 (count - 1)
    ∙ ap (λ (x : ℕ). x + ones_among (state_at states) 1 (count - 1)) (only_one (state_at states))

-- BY THE BYTES: the ones of all of them, and of these bit 0 of byte 0 is no state
unfoldable pub ones_of : List ℕ → ℕ
ones_of [] = 0
ones_of (zero ∷ bytes) = ones_of bytes
ones_of (suc byte ∷ bytes) = ones_among (bit_at (suc byte)) 0 8 + ones_of bytes

no_ones : ones_among (state_at []) 0 (8 * length {A = ℕ} []) ≡ ones_of []
unfolding ones_of ones_among
no_ones = refl

one_byte_more : (byte : ℕ) (bytes : List ℕ) → ones_of (byte ∷ bytes) ≡ ones_among (bit_at byte) 0 8 + ones_of bytes
unfolding ones_of ones_among part_of
one_byte_more zero bytes = omega arith
one_byte_more (suc byte) bytes = refl

all_ones : (states : List ℕ) → ones_among (state_at states) 0 (8 * length states) ≡ ones_of states
all_ones [] = no_ones
all_ones (byte ∷ bytes) =
    let more : 8 * length (byte ∷ bytes) ≡ 8 + 8 * length bytes = omega arith in
    let its_own : (k : ℕ) → k < 8 → state_at (byte ∷ bytes) (0 + k) ≡ bit_at byte (0 + k) =
    λ k h. let first : (0 + k) / 8 ≡ 0 = omega arith in let place : (0 + k) % 8 ≡ 0 + k = omega arith in rw (first, place) in
    let others : (k : ℕ) → k < 8 * length bytes → state_at (byte ∷ bytes) (8 + k) ≡ state_at bytes (0 + k) =
    λ k h. let next : (8 + k) / 8 ≡ suc (k / 8) = omega arith in let place : (8 + k) % 8 ≡ k % 8 = omega arith in let itself : 0 + k ≡ k = omega arith in rw (next, place, itself) in
    ap (ones_among (state_at (byte ∷ bytes)) 0) more ∙ in_two (state_at (byte ∷ bytes)) 0 8 (8 * length bytes)
    ∙ ap₂ (λ (a b : ℕ). a + b) (same_ones (bit_at byte) (state_at (byte ∷ bytes)) 0 0 8 its_own)
    (same_ones (state_at bytes) (state_at (byte ∷ bytes)) 0 8 (8 * length bytes) others ∙ all_ones bytes)
    ∙ sym (one_byte_more byte bytes)

-- bytes of which every bit is 1
pub all_255 : (n : ℕ) → ones_of (replicate n 255) ≡ 8 * n
unfolding ones_of ones_among part_of
all_255 zero = refl
all_255 (suc n) = rw (all_255 n) (omega arith)

pub on_by_bytes : (states : List ℕ) (n : ℕ) → length states ≡ 4096 → ones_of states ≡ state_at states 0 + n → states_on states ≡ n
unfolding states_on
on_by_bytes states n long sum =
    let all : ones_among (state_at states) 0 32768 ≡ ones_of states = rw long at (all_ones states) in
    omega (arith, all, sum, first_apart states 32768 (lit< tt))

-- what is on among so many: bits, so never more
pub among_at_most : (states : List ℕ) (first count : ℕ) → ones_among (state_at states) first count ≤ count
among_at_most states first count = at_most (state_at states) first count (state_bit states)

pub on_at_most : (states : List ℕ) → states_on states ≤ 32767
unfolding states_on
on_at_most states = among_at_most states 1 32767

-- A MOVE BY A DIFFERENCE: what comes of it depends on the difference alone
pub same_move : (kept before after all-before all_after : ℕ) → before ≤ 65536 → all-before ≤ 65536 → all_after + before ≡ all-before + after
    → moved_by kept before after ≡ moved_by kept all-before all_after
unfolding moved_by
same_move kept before after all-before all_after b a e =
    let same : kept + after + 65536 - before ≡ kept + all_after + 65536 - all-before = omega arith in rw same

-- no difference, no move; a true number stays true; one move and another are one
pub unmoved : (kept before : ℕ) → kept < 65536 → before ≤ 65536 → moved_by kept before before ≡ kept
unfolding moved_by
unmoved kept before small b = omega arith

pub true_moved : (before after : ℕ) → before ≤ 65536 → after < 65536 → moved_by before before after ≡ after
unfolding moved_by
true_moved before after b small = omega arith

pub moved_twice : (kept a b c : ℕ) → a ≤ 65536 → b ≤ 65536 → moved_by (moved_by kept a b) b c ≡ moved_by kept a c
unfolding moved_by
moved_twice kept a b c ha hb = omega arith

pub moved_lt : (kept before after : ℕ) → moved_by kept before after < 65536
unfolding moved_by
moved_lt kept before after = omega arith

-- WHAT A COMMAND DOES to how many are on: one state, all of 1 to 127, all of 1 to 32767
module _ (states : List ℕ) (long : length states ≡ 4096) (on : Bool) where
  one_moves : (n : ℕ) → 0 < n → n < 32768 → states_on (with_state states n on) + state_at states n ≡ states_on states + on_bit on
  unfolding states_on
  one_moves n p h =
      one_other (state_at states) (state_at (with_state states n on)) 1 32767 n (omega arith) (omega arith) (λ m other. one_others states n on (omega arith) m other)
      ∙ ap (λ (x : ℕ). ones_among (state_at states) 1 32767 + x) (one_reads states n on (omega arith))

  -- the states that a command for all reaches are all on or all off
  all_on : (bytes count : ℕ) → 0 < bytes → bytes ≤ 4096 → count + 1 ≡ 8 * bytes → ones_among (state_at (with_all states bytes on)) 1 count ≡ all_or_none count on
  all_on bytes count some fits reach =
      all_alike (state_at (with_all states bytes on)) 1 count (on_bit on) (λ n l h. all_reads states bytes on some (omega arith) n (omega arith) (omega arith))
      ∙ times on
    where
      times : (o : Bool) → count * on_bit o ≡ all_or_none count o
      times true = omega arith
      times false = omega arith

  short_moves_all : states_on (with_all states 16 on) + ones_among (state_at states) 1 127 ≡ states_on states + all_or_none 127 on
  unfolding states_on
  short_moves_all =
      let after = with_all states 16 on in
      let behind : ones_among (state_at after) (1 + 127) 32640 ≡ ones_among (state_at states) (1 + 127) 32640 =
      same_ones (state_at states) (state_at after) (1 + 127) (1 + 127) 32640 (λ k h. all_others states 16 on (lit< tt) (omega arith) (1 + 127 + k) (omega arith)) in
      omega (arith, in_two (state_at after) 1 127 32640, in_two (state_at states) 1 127 32640, behind, all_on 16 127 (lit< tt) (omega arith) refl)

  long_sets_all : states_on (with_all states 4096 on) ≡ all_or_none 32767 on
  unfolding states_on
  long_sets_all = all_on 4096 32767 (lit< tt) (omega arith) refl

  -- THE KEPT NUMBER after a short command moves by the difference, whatever it was
  pub short_moves : (kept n : ℕ) → n < 128 → stateson_short kept states n on ≡ moved_by kept (states_on states) (states_on (with_short states n on))
  unfolding stateson_short with_states
  short_moves kept n h =
      by (eqb n 0)
      (λ e. rw e (same_move kept _ _ _ _ (omega (arith, among_at_most states 1 127)) (omega (arith, on_at_most states)) short_moves_all))
      (λ e. rw e (same_move kept _ _ _ _ (omega (arith, state_bit states n)) (omega (arith, on_at_most states)) (one_moves n (omega (arith, eqb-false n 0 e)) (omega arith))))

  -- after a long one, for a state, too; for all it is set
  pub long_moves : (kept n : ℕ) → (n ≡ 0 → ⊥) → n < 32768 → stateson_long kept states n on ≡ moved_by kept (states_on states) (states_on (with_long states n on))
  unfolding stateson_long with_states
  long_moves kept n named h =
      rw (ne_eqb n 0 named)
      (same_move kept _ _ _ _ (omega (arith, state_bit states n)) (omega (arith, on_at_most states)) (one_moves n (omega (arith, named)) h))

  pub long_sets : (kept : ℕ) → stateson_long kept states 0 on ≡ states_on (with_long states 0 on)
  unfolding stateson_long with_states
  long_sets kept = sym long_sets_all

pub none_are_on : states_on cleared ≡ 0
unfolding states_on
none_are_on = all_alike (state_at cleared) 1 32767 0 (λ n l h. none_on n (omega arith))

-- A COMMAND GIVEN TWICE: the second time the kept number stays
module _ (states : List ℕ) (long : length states ≡ 4096) (n : ℕ) (on : Bool) where
  pub short_number_twice : (kept : ℕ) → n < 128
      → stateson_short (stateson_short kept states n on) (with_short states n on) n on ≡ stateson_short kept states n on
  short_number_twice kept h =
      let once = stateson_short kept states n on in
      let after = with_short states n on in
      let small : once < 65536 = rw (short_moves states long on kept n h) (moved_lt kept _ _) in
      short_moves after (short_length states long on n h) on once n h
      ∙ ap (λ (s : List ℕ). moved_by once (states_on after) (states_on s)) (set_twice 16 states n on (lit< tt) (omega arith) (omega arith))
      ∙ unmoved once (states_on after) small (omega (arith, on_at_most after))

  pub long_number_twice : (kept : ℕ) → n < 32768
      → stateson_long (stateson_long kept states n on) (with_long states n on) n on ≡ stateson_long kept states n on
  unfolding stateson_long
  long_number_twice kept h = by (eqb n 0) (λ e. set_again (eqb-true _ _ e)) (λ e. moved_again (eqb-false _ _ e))
    where
      set_again : n ≡ 0 → stateson_long (stateson_long kept states n on) (with_long states n on) n on ≡ stateson_long kept states n on
      set_again e = rw e

      moved_again : (n ≡ 0 → ⊥) → stateson_long (stateson_long kept states n on) (with_long states n on) n on ≡ stateson_long kept states n on
      moved_again named =
          let once = stateson_long kept states n on in
          let after = with_long states n on in
          let small : once < 65536 = rw (long_moves states long on kept n named h) (moved_lt kept _ _) in
          long_moves after (long_length states long on n h) on once n named h
          ∙ ap (λ (s : List ℕ). moved_by once (states_on after) (states_on s)) (set_twice 4096 states n on (lit< tt) (omega arith) (omega arith))
          ∙ unmoved once (states_on after) small (omega (arith, on_at_most after))

-- A STATE THAT IS SO ALREADY: the command for it changes neither states nor number
module _ (states : List ℕ) (n : ℕ) (on : Bool) (named : n ≡ 0 → ⊥) (so : state_at states n ≡ on_bit on) where
  same_states : (count : ℕ) → with_states count states n on ≡ states
  same_states count = is_one count states on n named ∙ one_same states n on so

  pub short_same : with_short states n on ≡ states
  short_same = same_states 16

  pub long_same : with_long states n on ≡ states
  long_same = same_states 4096

  module _ (kept : ℕ) (small : kept < 65536) where
    one_number_same : moved_by kept (state_at states n) (on_bit on) ≡ kept
    one_number_same = rw so (unmoved kept (on_bit on) small (omega (arith, bit_lt on)))

    pub short_number_same : stateson_short kept states n on ≡ kept
    unfolding stateson_short
    short_number_same = rw (ne_eqb n 0 named) one_number_same

    pub long_number_same : stateson_long kept states n on ≡ kept
    unfolding stateson_long
    long_number_same = rw (ne_eqb n 0 named) one_number_same
