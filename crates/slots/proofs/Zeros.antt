-- The laws of `all_zero`: every byte is 0.
use Prim.Native.Nat.{ℕ, zero, suc, ◌+◌, ◌<◌}
use mathlib.Core.Bool.{true, false}
use mathlib.Core.List.{List, [], ◌∷◌, ◌++◌}
use mathlib.Core.Path.{◌≡◌, refl, sym, ◌∙◌}
use native.Mathlib.Numerals.{add-one}
use lib.Dec.{eqb}
use lib.ListN.{length, get_or, take, drop, replicate}
use lib.Seq.{drop-cons, ext_get_or}
use borrow.Author.Tests.{eqb-true, eq-eqb, ne_eqb}
use Rattle.bits.proofs.Tests.{and_left, and_right, and_both}
use Rattle.slots.specs.Slots.{all_zero}

-- from a place on: its byte, and what is behind it
pub zero_here : (l : List ℕ) (i : ℕ) → i < length l → get_or l i 0 ≡ 0 → all_zero (drop i l) ≡ all_zero (drop (i + 1) l)
unfolding all_zero
zero_here l i h e = rw (add-one i, drop-cons l i 0, eq-eqb _ _ e)

pub not_here : (l : List ℕ) (i : ℕ) → i < length l → (get_or l i 0 ≡ 0 → ⊥) → all_zero (drop i l) ≡ false
unfolding all_zero
not_here l i h e = rw (drop-cons l i 0, ne_eqb _ _ e)

-- ---- Parts of zeros, one of them, more of them behind a list.

pub zeros_drop : (n : ℕ) (l : List ℕ) → all_zero l ≡ true → all_zero (drop n l) ≡ true
unfolding all_zero
zeros_drop zero l h = h
zeros_drop (suc n) [] h = refl
zeros_drop (suc n) (b ∷ bs) h = zeros_drop n bs (and_right (eqb b 0) (all_zero bs) h)

pub zeros_take : (n : ℕ) (l : List ℕ) → all_zero l ≡ true → all_zero (take n l) ≡ true
unfolding all_zero
zeros_take zero l h = refl
zeros_take (suc n) [] h = refl
zeros_take (suc n) (b ∷ bs) h =
    and_both (eqb b 0) (all_zero (take n bs)) (and_left (eqb b 0) (all_zero bs) h) (zeros_take n bs (and_right (eqb b 0) (all_zero bs) h))

pub zeros_append : (l m : List ℕ) → all_zero l ≡ true → all_zero m ≡ true → all_zero (l ++ m) ≡ true
unfolding all_zero
zeros_append [] m h k = k
zeros_append (b ∷ bs) m h k =
    and_both (eqb b 0) (all_zero (bs ++ m)) (and_left (eqb b 0) (all_zero bs) h) (zeros_append bs m (and_right (eqb b 0) (all_zero bs) h) k)

pub zeros_each : (l : List ℕ) (i : ℕ) → all_zero l ≡ true → get_or l i 0 ≡ 0
unfolding all_zero
zeros_each [] i h = refl
zeros_each (b ∷ bs) zero h = eqb-true b 0 (and_left (eqb b 0) (all_zero bs) h)
zeros_each (b ∷ bs) (suc i) h = zeros_each bs i (and_right (eqb b 0) (all_zero bs) h)

pub zeros_same : (l m : List ℕ) → all_zero l ≡ true → all_zero m ≡ true → length l ≡ length m → l ≡ m
zeros_same l m h k e = ext_get_or 0 l m e (λ i n. zeros_each l i h ∙ sym (zeros_each m i k))

pub zeros_replicate : (n : ℕ) → all_zero (replicate n 0) ≡ true
unfolding all_zero
zeros_replicate zero = refl
zeros_replicate (suc n) = zeros_replicate n

-- past its end a list reads as 0, so zeros behind it are read as before
pub zeros_behind : (l m : List ℕ) (i : ℕ) → all_zero m ≡ true → get_or (l ++ m) i 0 ≡ get_or l i 0
zeros_behind [] m i h = zeros_each m i h
zeros_behind (b ∷ bs) m zero h = refl
zeros_behind (b ∷ bs) m (suc i) h = zeros_behind bs m i h

-- and what is 0 from a place on stays so
pub zeros_added : (n : ℕ) (l m : List ℕ) → all_zero m ≡ true → all_zero (drop n l) ≡ true → all_zero (drop n (l ++ m)) ≡ true
zeros_added zero l m z h = zeros_append l m h z
zeros_added (suc n) [] m z h = zeros_drop (suc n) m z
zeros_added (suc n) (b ∷ bs) m z h = zeros_added n bs m z h
