-- The bytes that hold more than one number: what is written is read, and what is read gives the byte again.
use Prim.Native.Nat.{ℕ, ◌+◌, ◌*◌, ◌≤◌, ◌<◌}
use mathlib.Core.Path.{◌≡◌, sym}
use mathlib.Core.Bool.{Bool, true, false, cond}
use native.Mathlib.Omega.{arith}
use native.Mathlib.Nat.{mul-one, mul-zero}
use lib.Dec.{eqb}
use borrow.Author.Tests.{eq-eqb, ne_eqb, eqb-true, eqb-false}
use Rattle.bits.specs.Bits.{part_of, bit_at}
use Rattle.bits.proofs.Parts.{part_lt, in_two, whole}
use Rattle.bits.proofs.Tests.{by}
use Rattle.command.specs.Meaning.{functions_of, cv_of}
use Rattle.command.specs.Saying.{functions_byte, state_byte, call_byte, cv_byte, bit_byte}

-- a bit is 0 or 1
pub bit_lt : (n place : ℕ) → bit_at n place < 2
bit_lt n place = part_lt n place 1

pub is_1 : (n place : ℕ) → (bit_at n place ≡ 0 → ⊥) → bit_at n place ≡ 1
is_1 n place clear = omega (arith, bit_lt n place)

-- a bit that is read as on or off, written again with its weight
flag : (w n place : ℕ) → cond (eqb (bit_at n place) 1) w 0 ≡ w * bit_at n place
flag w n place =
    by (eqb (bit_at n place) 1)
    (λ e. rw (e, eqb-true (bit_at n place) 1 e) (sym (mul-one w)))
    (λ e. let z : bit_at n place ≡ 0 = omega (arith, bit_lt n place, eqb-false (bit_at n place) 1 e) in rw (e, z) (sym (mul-zero w)))

-- 0x60
four_and_one : (p q : ℕ) → p < 2 → q < 16 → (bit_at (16 * p + q) 4 ≡ p) × (part_of (16 * p + q) 0 4 ≡ q)
unfolding part_of
four_and_one p q hp hq = (omega arith, omega arith)

one_and_four : (p q : ℕ) → p < 2 → q < 16 → (bit_at (p + 2 * q) 0 ≡ p) × (part_of (p + 2 * q) 1 4 ≡ q)
unfolding part_of
one_and_four p q hp hq = (omega arith, omega arith)

five : (f : ℕ) → f < 32 → bit_at f 0 + 2 * part_of f 1 4 ≡ f
unfolding part_of
five f h = omega arith

five_back : (b : ℕ) → part_of b 0 5 ≡ 16 * bit_at b 4 + part_of b 0 4
five_back b = omega (arith, in_two b 0 1 4)

pub functions_read : (f : ℕ) → f < 32 → functions_of (functions_byte f) ≡ f
unfolding functions_of functions_byte
functions_read f h =
    let r = four_and_one (bit_at f 0) (part_of f 1 4) (bit_lt f 0) (part_lt f 1 4) in
    rw (r.0, r.1) (five f h)

pub functions_written : (b : ℕ) → functions_byte (functions_of b) ≡ part_of b 0 5
unfolding functions_of functions_byte
functions_written b =
    let r = one_and_four (bit_at b 4) (part_of b 0 4) (bit_lt b 4) (part_lt b 0 4) in
    rw (r.0, r.1) (sym (five_back b))

pub functions_lt : (b : ℕ) → functions_of b < 32
unfolding functions_of
functions_lt b = omega (arith, bit_lt b 4, part_lt b 0 4)

pub functions_fit : (f : ℕ) → functions_byte f < 32
unfolding functions_byte
functions_fit f = omega (arith, bit_lt f 0, part_lt f 1 4)

-- 0x6D and 0x6E
pub number_read : (n : ℕ) (on : Bool) → n < 128 → part_of (state_byte n on) 0 7 ≡ n
unfolding state_byte part_of
number_read n true h = omega arith
number_read n false h = omega arith

pub on_read : (n : ℕ) (on : Bool) → n < 128 → eqb (bit_at (state_byte n on) 7) 1 ≡ on
unfolding state_byte part_of
on_read n true h = eq-eqb (bit_at (128 + n) 7) 1 (omega arith)
on_read n false h = ne_eqb (bit_at (0 + n) 7) 1 (λ (e : bit_at (0 + n) 7 ≡ 1). omega arith)

seven_and_one : (b : ℕ) → b < 256 → 128 * bit_at b 7 + part_of b 0 7 ≡ b
seven_and_one b h = omega (arith, in_two b 0 1 7, whole b 8 h)

pub state_written : (b : ℕ) → b < 256 → state_byte (part_of b 0 7) (eqb (bit_at b 7) 1) ≡ b
unfolding state_byte
state_written b h = rw (flag 128 b 7) (seven_and_one b h)

pub state_fits : (n : ℕ) (on : Bool) → n < 128 → state_byte n on < 256
unfolding state_byte
state_fits n true h = omega arith
state_fits n false h = omega arith

-- 0x01
pub call_read : (called : ℕ) (forced : Bool) (status : ℕ) → called < 4 → status < 4
    → (part_of (call_byte called forced status) 0 2 ≡ called) × (eqb (bit_at (call_byte called forced status) 2) 1 ≡ forced) × (part_of (call_byte called forced status) 3 2 ≡ status)
unfolding call_byte part_of
call_read called true status h k = (omega arith, eq-eqb (bit_at (8 * status + 4 + called) 2) 1 (omega arith), omega arith)
call_read called false status h k =
    (omega arith, ne_eqb (bit_at (8 * status + 0 + called) 2) 1 (λ (e : bit_at (8 * status + 0 + called) 2 ≡ 1). omega arith), omega arith)

two_one_two : (b : ℕ) → 8 * part_of b 3 2 + 4 * bit_at b 2 + part_of b 0 2 ≡ part_of b 0 5
two_one_two b = omega (arith, in_two b 0 2 3, in_two b 0 1 2)

pub call_written : (b : ℕ) → call_byte (part_of b 0 2) (eqb (bit_at b 2) 1) (part_of b 3 2) ≡ part_of b 0 5
unfolding call_byte
call_written b = rw (flag 4 b 2) (two_one_two b)

pub call_fits : (called : ℕ) (forced : Bool) (status : ℕ) → called < 4 → status < 4 → call_byte called forced status < 32
unfolding call_byte
call_fits called true status h k = omega arith
call_fits called false status h k = omega arith

-- the second byte of a CV packet
module _ (cv : ℕ) (low : 897 ≤ cv) (high : cv ≤ 1024) where
  pub cv_read : cv_of (cv_byte cv) ≡ cv
  unfolding cv_of cv_byte part_of
  cv_read = omega arith

  pub cv_marked : bit_at (cv_byte cv) 7 ≡ 1
  unfolding cv_byte part_of
  cv_marked = omega arith

  pub cv_fits : cv_byte cv < 256
  unfolding cv_byte
  cv_fits = omega arith

pub cv_written : (b : ℕ) → b < 256 → bit_at b 7 ≡ 1 → cv_byte (cv_of b) ≡ b
unfolding cv_of cv_byte part_of
cv_written b h e = omega arith

pub cv_room : (b : ℕ) → (897 ≤ cv_of b) × (cv_of b ≤ 1024)
unfolding cv_of
cv_room b = (omega (arith, part_lt b 0 7), omega (arith, part_lt b 0 7))

-- 111K DBBB, for K = 0 and K = 1
pub bit_read : (k d b : ℕ) → k < 2 → d < 2 → b < 8
    → (part_of (bit_byte k d b) 5 3 ≡ 7) × (bit_at (bit_byte k d b) 4 ≡ k) × (bit_at (bit_byte k d b) 3 ≡ d) × (part_of (bit_byte k d b) 0 3 ≡ b)
unfolding bit_byte part_of
bit_read k d b hk hd hb = (omega arith, omega arith, omega arith, omega arith)

pub bit_written_lem : (k b : ℕ) → b < 256 → part_of b 5 3 ≡ 7 → bit_at b 4 ≡ k → bit_byte k (bit_at b 3) (part_of b 0 3) ≡ b
unfolding bit_byte part_of
bit_written_lem k b h top e = omega arith

pub bit_fits : (k d b : ℕ) → k < 2 → d < 2 → b < 8 → bit_byte k d b < 256
unfolding bit_byte
bit_fits k d b hk hd hb = omega arith
