-- Entries that join a list and leave it, for any width: which bytes are then where, which are 0, and how long the list is.
use Prim.Native.Nat.{ℕ, suc, ◌+◌, ◌-◌, ◌*◌, ◌≤◌, ◌<◌}
use mathlib.Core.Bool.{true}
use mathlib.Core.List.{List, [], ◌∷◌, ◌++◌, append_assoc}
use mathlib.Core.Path.{◌≡◌, refl, sym, ◌∙◌, ap}
use native.Mathlib.Nat.{min-le_left, mul-suc}
use native.Mathlib.Numerals.{add-one}
use native.Mathlib.Omega.{arith}
use lib.Dec.{ltb}
use lib.ListN.{length, get_or, set, take, drop, replicate, length-append, length-take, length-drop, length-replicate, take-append-drop, drop_of_length-le, get_or-append}
use lib.Seq.{length-take-le, take_at, drop_at, take-add, take-append-le, drop-drop, get_or-take, get_or-drop, get_or-append-add, sets-eq}
use borrow.Author.Tests.{ltb-true, ltb-false}
use Rattle.bits.proofs.Tests.{by}
use Rattle.bits.proofs.Lists.{drop_past}
use Rattle.slots.specs.Slots.{all_zero, unused_zero, joined_by, oldest, after_oldest}
use Rattle.slots.proofs.Zeros.{zeros_drop, zeros_take, zeros_append, zeros_same, zeros_replicate, zeros_behind, zeros_added}

-- one entry more, or one less, is one width more or less
width_more : (width used : ℕ) → width * (used + 1) ≡ width * used + width
width_more width used = rw (add-one used) (mul-suc width used)

width_less : (width used : ℕ) → 0 < used → width + width * (used - 1) ≡ width * used
width_less width used some =
    let e : used ≡ used - 1 + 1 = omega arith in
    let w : width * used ≡ width * (used - 1) + width = ap (λ (n : ℕ). width * n) e ∙ width_more width (used - 1) in
    omega arith

-- three bytes stored one after the other, from place i on
pub three_stored : (l : List ℕ) (i a b c : ℕ) → i + 3 ≤ length l
    → set (set (set l i a) (i + 1) b) (i + 2) c ≡ take i l ++ (a ∷ b ∷ c ∷ []) ++ drop (i + 3) l
three_stored l i a b c h =
    let e1 : i + 1 ≡ suc i = omega arith in
    let e2 : i + 2 ≡ suc (suc i) = omega arith in
    rw (e1, e2) (sets-eq (a ∷ b ∷ c ∷ []) l i h)

-- ---- An entry that joins behind `used` others.

module _ (width used : ℕ) (slots entry : List ℕ) (fits : width * used ≤ length slots) where
  front_length : length (take (width * used) slots) ≡ width * used
  front_length = length-take-le (width * used) slots fits

  head_length : length (take (width * used) slots ++ entry) ≡ width * used + length entry
  head_length = simp (length-append, front_length)

  -- every byte before it stays,
  pub joined_before : (i : ℕ) → i < width * used → get_or (joined_by width slots used entry) i 0 ≡ get_or slots i 0
  unfolding joined_by
  joined_before i h =
      get_or-append (take (width * used) slots ++ entry) (drop (width * used + width) slots) 0 i (omega (arith, head_length))
      ∙ get_or-append (take (width * used) slots) entry 0 i (omega (arith, front_length))
      ∙ get_or-take (width * used) slots i 0 h

  -- its own bytes are there,
  pub joined_here : (j : ℕ) → j < length entry → get_or (joined_by width slots used entry) (width * used + j) 0 ≡ get_or entry j 0
  unfolding joined_by
  joined_here j h =
      get_or-append (take (width * used) slots ++ entry) (drop (width * used + width) slots) 0 (width * used + j) (omega (arith, head_length))
      ∙ ap (λ (n : ℕ). get_or (take (width * used) slots ++ entry) (n + j) 0) (sym front_length)
      ∙ get_or-append-add (take (width * used) slots) entry j 0

  -- what is behind it stays,
  pub joined_behind : length entry ≡ width → drop (width * used + width) (joined_by width slots used entry) ≡ drop (width * used + width) slots
  unfolding joined_by
  joined_behind e = drop_at (take (width * used) slots ++ entry) (drop (width * used + width) slots) (width * used + width) (head_length ∙ ap (λ (n : ℕ). width * used + n) e)

  -- and what is in front of it
  pub joined_front : take (width * used) (joined_by width slots used entry) ≡ take (width * used) slots
  unfolding joined_by
  joined_front =
      ap (take (width * used)) (append_assoc (take (width * used) slots) entry (drop (width * used + width) slots))
      ∙ take_at (take (width * used) slots) (entry ++ drop (width * used + width) slots) (width * used) front_length

  -- another one in its place: as if it had not been there
  pub joined_again : (next : List ℕ) → length entry ≡ width → joined_by width (joined_by width slots used entry) used next ≡ joined_by width slots used next
  unfolding joined_by
  joined_again next e =
      let joined = take (width * used) slots ++ entry ++ drop (width * used + width) slots in
      let front : take (width * used) joined ≡ take (width * used) slots = joined_front in
      let behind : drop (width * used + width) joined ≡ drop (width * used + width) slots = joined_behind e in
      rw (front, behind)

module _ (width used : ℕ) (slots entry : List ℕ) (wide : length entry ≡ width) where
  -- nothing behind it is in use that was not before
  pub joined_unused : unused_zero width used slots ≡ true → unused_zero width (used + 1) (joined_by width slots used entry) ≡ true
  unfolding unused_zero joined_by
  joined_unused h =
      let more = width_more width used in
      let front = take (width * used) slots ++ entry in
      let rest = drop (width * used + width) slots in
      let past : length front ≤ width * (used + 1) = simp (length-append, length-take) (omega (arith, min-le_left (width * used) (length slots))) in
      let zeros : all_zero rest ≡ true = rw drop-drop at (zeros_drop width (drop (width * used) slots) h) in
      rw (drop_past front rest (width * (used + 1)) past) (zeros_drop (width * (used + 1) - length front) rest zeros)

  -- where there is room for it, the list keeps its length,
  pub joined_length : width * used + width ≤ length slots → length (joined_by width slots used entry) ≡ length slots
  unfolding joined_by
  joined_length room = simp (length-append, length-take-le (width * used) slots (omega arith), length-drop, wide) (omega arith)

  -- and those in use have it behind them
  pub joined_used : width * used + width ≤ length slots → take (width * (used + 1)) (joined_by width slots used entry) ≡ take (width * used) slots ++ entry
  unfolding joined_by
  joined_used room =
      take_at (take (width * used) slots ++ entry) (drop (width * used + width) slots) (width * (used + 1))
      (simp (length-append, length-take-le (width * used) slots (omega arith), wide) (sym (width_more width used)))

-- ---- Zeros in the place of the newest.

module _ (width used : ℕ) (slots entry : List ℕ) (zeros : all_zero entry ≡ true) where
  -- every byte before them stays,
  pub cleared_before : (i : ℕ) → i < width * used → get_or (joined_by width slots used entry) i 0 ≡ get_or slots i 0
  unfolding joined_by all_zero
  cleared_before i h =
      by (ltb (length slots) (width * used))
      (λ s. let short : length slots < width * used = ltb-true (length slots) (width * used) s in
      rw (drop_of_length-le slots {i = width * used + width} (omega arith))
      (zeros_behind (take (width * used) slots ++ entry) [] i refl ∙ zeros_behind (take (width * used) slots) entry i zeros ∙ get_or-take (width * used) slots i 0 h))
      (λ s. joined_before width used slots entry (ltb-false (length slots) (width * used) s) i h)

  -- what is behind the others is 0,
  pub cleared_unused : all_zero (drop (width * used + width) slots) ≡ true → unused_zero width used (joined_by width slots used entry) ≡ true
  unfolding unused_zero joined_by
  cleared_unused h =
      let front = take (width * used) slots in
      let behind = drop (width * used + width) slots in
      let short : length front ≤ width * used = simp length-take (min-le_left (width * used) (length slots)) in
      rw (append_assoc front entry behind, drop_past front (entry ++ behind) (width * used) short)
      (zeros_drop (width * used - length front) (entry ++ behind) (zeros_append entry behind zeros h))

  -- and where all of that was 0 they change nothing
  pub cleared_same : length entry ≡ width → width * used + width ≤ length slots → unused_zero width used slots ≡ true → joined_by width slots used entry ≡ slots
  unfolding unused_zero joined_by
  cleared_same e fits h =
      let rest = drop (width * used) slots in
      let room : width ≤ length rest = simp length-drop (omega arith) in
      let same : entry ≡ take width rest = zeros_same entry (take width rest) zeros (zeros_take width rest h) (e ∙ sym (length-take-le width rest room)) in
      ap (λ (l : List ℕ). take (width * used) slots ++ l ++ drop (width * used + width) slots) same
      ∙ ap (λ (l : List ℕ). l ++ drop (width * used + width) slots) (sym (take-add (width * used) width slots))
      ∙ take-append-drop (width * used + width) slots

-- ---- Without the oldest each of the others is a place nearer, and what is freed is 0.

module _ (width : ℕ) (slots : List ℕ) where
  pub left_each : (i : ℕ) → get_or (after_oldest width slots) i 0 ≡ get_or slots (width + i) 0
  unfolding after_oldest
  left_each i = zeros_behind (drop width slots) (replicate width 0) i (zeros_replicate width) ∙ get_or-drop width slots i 0

  -- the list keeps its length
  pub left_length : width ≤ length slots → length (after_oldest width slots) ≡ length slots
  unfolding after_oldest
  left_length h = simp (length-append, length-drop, length-replicate) (omega arith)

module _ (width used : ℕ) (slots : List ℕ) (some : 0 < used) where
  -- behind those that are left nothing is in use
  pub left_unused : unused_zero width used slots ≡ true → unused_zero width (used - 1) (after_oldest width slots) ≡ true
  unfolding unused_zero after_oldest
  left_unused h =
      zeros_added (width * (used - 1)) (drop width slots) (replicate width 0) (zeros_replicate width)
      (rw (drop-drop (width * (used - 1)) width slots, width_less width used some) h)

  -- the oldest before those that are left are those that were in use
  pub oldest_used : width * used ≤ length slots → oldest width slots ++ take (width * (used - 1)) (after_oldest width slots) ≡ take (width * used) slots
  unfolding oldest after_oldest
  oldest_used few =
      let less = width_less width used some in
      let h : width * (used - 1) ≤ length (drop width slots) = simp length-drop (omega arith) in
      rw (← less, take-append-le (width * (used - 1)) (drop width slots) (replicate width 0) h) (sym (take-add width (width * (used - 1)) slots))
