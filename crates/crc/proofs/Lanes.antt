-- Why lanes may be summed apart: the checksum is linear, and 127 bit steps, so 127 zero bytes too, change no running value.
use Prim.Native.Nat.{ℕ, zero, suc, ◌+◌, ◌*◌, ◌/◌, ◌%◌, ◌≤◌, ◌<◌}
use mathlib.Core.Bool.{true}
use mathlib.Core.List.{List, [], ◌∷◌}
use mathlib.Core.Path.{◌≡◌, refl, sym, ◌∙◌, ap}
use native.Mathlib.Omega.{arith}
use native.Mathlib.Nat.{zero-add, suc-add}
use borrow.Author.Tests.{eqb-true, eqb-false}
use lib.Arith.{bin_ind}
use lib.Bits.{bit_xor, xor_zero_r, xor_comm, xor_shr, xor_mod}
use lib.Dec.{eqb}
use lib.ListN.{length, get_or, take, drop, take-append-drop, length-drop}
use lib.Seq.{get_or-drop, drop-drop, take_all}
use Rattle.bits.proofs.Tests.{by, all_below, each_below, equal_below}
use Rattle.crc.specs.Crc.{crc_bit, crc_byte, crc_from}
use Rattle.crc.proofs.Laws.{over_append, turn}
use Rattle.crc.proofs.Period.{period}

-- ---- exclusive or
-- an equation of lowest bits, tried on all eight cases
module _ (f g : ℕ → ℕ → ℕ → ℕ)
    (tried : all_below (λ x. all_below (λ y. all_below (λ z. eqb (f x y z) (g x y z)) 2) 2) 2 ≡ true) where
  of_bits : (a b c : ℕ) → f (a % 2) (b % 2) (c % 2) ≡ g (a % 2) (b % 2) (c % 2)
  of_bits a b c =
      equal_below 2 (f (a % 2) (b % 2)) (g (a % 2) (b % 2))
      (each_below (λ y. all_below (λ z. eqb (f (a % 2) y z) (g (a % 2) y z)) 2) 2
      (each_below (λ x. all_below (λ y. all_below (λ z. eqb (f x y z) (g x y z)) 2) 2) 2 tried (a % 2) (omega arith))
      (b % 2) (omega arith)) (c % 2) (omega arith)

assoc : (a b c : ℕ) → bit_xor (bit_xor a b) c ≡ bit_xor a (bit_xor b c)
assoc =
    bin_ind (λ (a : ℕ). (b c : ℕ) → bit_xor (bit_xor a b) c ≡ bit_xor a (bit_xor b c)) (λ b c. refl)
    (λ a ih b c.
    let l : ℕ = bit_xor (bit_xor a b) c in
    let r : ℕ = bit_xor a (bit_xor b c) in
    let halves : l / 2 ≡ r / 2 = rw (xor_shr (bit_xor a b) c 1, xor_shr a b 1, xor_shr a (bit_xor b c) 1, xor_shr b c 1) (ih (b / 2) (c / 2)) in
    let lows : l % 2 ≡ r % 2 =
    rw (xor_mod (bit_xor a b) c 1, xor_mod a b 1, xor_mod a (bit_xor b c) 1, xor_mod b c 1)
    (of_bits (λ x y z. bit_xor (bit_xor x y) z) (λ x y z. bit_xor x (bit_xor y z)) refl a b c) in
    omega arith)

crosswise : (p q r s : ℕ) → bit_xor (bit_xor p q) (bit_xor r s) ≡ bit_xor (bit_xor p r) (bit_xor q s)
crosswise p q r s =
    assoc p q (bit_xor r s) ∙ ap (bit_xor p) (sym (assoc q r s) ∙ ap (λ (x : ℕ). bit_xor x s) (xor_comm q r) ∙ assoc r q s)
    ∙ sym (assoc p r (bit_xor q s))

-- ---- bit steps are linear, and 127 of them lead back
as_xor : (c : ℕ) → crc_bit c ≡ bit_xor (c / 2) (c % 2 * 0x8C)
unfolding crc_bit
as_xor c =
    by (eqb (c % 2) 1) (λ e. rw (e, eqb-true (c % 2) 1 e) refl)
    (λ e. let odd : c % 2 ≡ 1 → ⊥ = eqb-false (c % 2) 1 e in
    let even : c % 2 ≡ 0 = omega arith in
    rw (e, even) (sym (xor_zero_r (c / 2))))

bit_linear : (a b : ℕ) → crc_bit (bit_xor a b) ≡ bit_xor (crc_bit a) (crc_bit b)
bit_linear a b =
    as_xor (bit_xor a b)
    ∙ rw (xor_shr a b 1, xor_mod a b 1, of_bits (λ x y z. bit_xor x y * 0x8C) (λ x y z. bit_xor (x * 0x8C) (y * 0x8C)) refl a b 0) refl
    ∙ crosswise (a / 2) (b / 2) (a % 2 * 0x8C) (b % 2 * 0x8C) ∙ sym (rw (as_xor a, as_xor b) refl)

steps : ℕ → ℕ → ℕ
steps zero c = c
steps (suc n) c = steps n (crc_bit c)

linear : (n a b : ℕ) → steps n (bit_xor a b) ≡ bit_xor (steps n a) (steps n b)
unfolding steps
linear zero a b = refl
linear (suc n) a b = ap (steps n) (bit_linear a b) ∙ linear n (crc_bit a) (crc_bit b)

further : (m n c : ℕ) → steps (m + n) c ≡ steps n (steps m c)
unfolding steps
further zero n c = rw (zero-add n) refl
further (suc m) n c = rw (suc-add m n) (further m n (crc_bit c))

round : (c : ℕ) → c < 256 → steps period c ≡ c
unfolding steps crc_bit
round = equal_below 256 (steps period) (λ c. c) refl

rounds : (k c : ℕ) → c < 256 → steps (k * period) c ≡ c
unfolding steps
rounds zero c h = refl
rounds (suc k) c h =
    let e : suc k * period ≡ period + k * period = omega arith in
    rw e (further period (k * period) c ∙ ap (steps (k * period)) (round c h) ∙ rounds k c h)

-- ---- lists: a part of the running value goes through as if all bytes were 0
apart : (bs : List ℕ) (c d : ℕ) → crc_from (bit_xor c d) bs ≡ bit_xor (steps (length bs * 8) c) (crc_from d bs)
unfolding steps crc_from crc_byte
apart [] c d = refl
apart (b ∷ bs) c d =
    let e : suc (length bs) * 8 ≡ 8 + length bs * 8 = omega arith in
    ap (λ (x : ℕ). crc_from (steps 8 x) bs) (assoc c d b) ∙ ap (λ (x : ℕ). crc_from x bs) (linear 8 c (bit_xor d b))
    ∙ apart bs (steps 8 c) (crc_byte d b) ∙ rw (e, further 8 (length bs * 8) c) refl

-- four lanes of w bytes, whole periods
module _ (bs : List ℕ) (w : ℕ) (four : length bs ≡ w * 4) (whole : w % period ≡ 0) where
  -- a turn, of the lane that begins at a place
  pub lane_turn : (at i running : ℕ) → running ≡ crc_from 0 (take i (drop at bs)) → i < w → at ≤ w * 3
      → crc_byte running (get_or bs (at + i) 0) ≡ crc_from 0 (take (i + 1) (drop at bs))
  lane_turn at i running e inside place =
      ap (crc_byte running) (sym (get_or-drop at bs i 0)) ∙ turn 0 (drop at bs) i running e (rw (length-drop at bs) (omega arith))

  -- a lane, and the k periods behind it
  next : (c sum at after k : ℕ) → sum ≡ crc_from c (take w (drop at bs)) → sum < 256
      → after ≡ at + w → length bs ≡ after + k * period
      → bit_xor sum (crc_from 0 (drop after bs)) ≡ crc_from c (drop at bs)
  next c sum at after k e byte ea el =
      let behind : List ℕ = drop after bs in
      let follows : drop w (drop at bs) ≡ behind = drop-drop w at bs ∙ ap (λ (n : ℕ). drop n bs) (sym ea) in
      let eights : length behind * 8 ≡ k * 8 * period = rw (length-drop after bs) (omega arith) in
      let then-behind : crc_from c (drop at bs) ≡ crc_from sum behind =
      ap (crc_from c) (sym (take-append-drop w (drop at bs))) ∙ over_append c (take w (drop at bs)) (drop w (drop at bs))
      ∙ rw (follows, sym e) refl in
      sym (then-behind ∙ ap (λ (x : ℕ). crc_from x behind) (sym (xor_zero_r sum)) ∙ apart behind sum 0
      ∙ rw (eights, rounds (k * 8) sum byte) refl)

  pub joined : (crc a b c d : ℕ) → a < 256 → b < 256 → c < 256
      → a ≡ crc_from crc (take w bs)
      → b ≡ crc_from 0 (take w (drop w bs))
      → c ≡ crc_from 0 (take w (drop (w * 2) bs))
      → d ≡ crc_from 0 (take w (drop (w * 3) bs))
      → bit_xor a (bit_xor b (bit_xor c d)) ≡ crc_from crc bs
  joined crc a b c d ha hb hc ea eb ec ed =
      let q : ℕ = w / period in
      let all = take_all w (drop (w * 3) bs) (rw (length-drop (w * 3) bs) (omega arith)) in
      let third = next 0 c (w * 2) (w * 3) q ec hc (omega arith) (omega arith) in
      let second = next 0 b w (w * 2) (q * 2) eb hb (omega arith) (omega arith) in
      rw (ed, all, third, second) (next crc a 0 w (q * 3) ea ha (omega arith) (omega arith))
