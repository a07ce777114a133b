-- The laws of the checksum.
use Prim.Native.Nat.{ℕ, suc, ◌+◌, ◌/◌, ◌%◌, ◌<◌}
use mathlib.Core.List.{List, [], ◌∷◌, ◌++◌}
use mathlib.Core.Path.{◌≡◌, refl, sym, ◌∙◌, ap}
use native.Mathlib.Omega.{arith}
use native.Mathlib.Numerals.{add-one}
use lib.Bits.{xor_lt, xor_self}
use lib.Dec.{eqb, lit<}
use lib.ListN.{length, get_or, take}
use lib.Seq.{take-suc}
use Rattle.bits.specs.Bits.{Bytes}
use Rattle.bits.proofs.Tests.{by}
use Rattle.crc.specs.Crc.{crc_bit, crc_byte, crc_from, crc_of}

-- over an appended list: go on from the checksum of the first
pub over_append : (c : ℕ) (xs ys : List ℕ) → crc_from c (xs ++ ys) ≡ crc_from (crc_from c xs) ys
unfolding crc_from
over_append c [] ys = refl
over_append c (x ∷ xs) ys = over_append (crc_byte c x) xs ys

-- the receiver's test: over data and its checksum it is 0
no_rest : (c : ℕ) → crc_byte c c ≡ 0
unfolding crc_byte crc_bit
no_rest c = rw (xor_self c)

pub over_itself : (xs : List ℕ) → crc_of (xs ++ (crc_of xs ∷ [])) ≡ 0
unfolding crc_from
over_itself xs = over_append 0 xs (crc_of xs ∷ []) ∙ no_rest (crc_of xs)

-- it stays a byte
pub bit_lt : (c : ℕ) → c < 256 → crc_bit c < 256
unfolding crc_bit
bit_lt c h =
    let half : c / 2 < 256 = omega arith in
    by (eqb (c % 2) 1) (λ e. rw e (xor_lt 8 (c / 2) 0x8C half (lit< tt))) (λ e. rw e half)

pub byte_lt : (c b : ℕ) → c < 256 → b < 256 → crc_byte c b < 256
unfolding crc_byte
byte_lt c b hc hb =
    bit_lt _ (bit_lt _ (bit_lt _ (bit_lt _ (bit_lt _ (bit_lt _ (bit_lt _ (bit_lt _ (xor_lt 8 c b hc hb))))))))

pub stays_byte : (c : ℕ) (bs : List ℕ) → c < 256 → Bytes bs → crc_from c bs < 256
unfolding crc_from
stays_byte c [] hc hb = hc
stays_byte c (b ∷ bs) hc hb = stays_byte (crc_byte c b) bs (byte_lt c b hc (hb 0)) (λ i. hb (suc i))

-- a turn of a loop over the bytes
pub turn : (c : ℕ) (bs : List ℕ) (i running : ℕ) → running ≡ crc_from c (take i bs) → i < length bs
    → crc_byte running (get_or bs i 0) ≡ crc_from c (take (i + 1) bs)
unfolding crc_from
turn c bs i running e h =
    ap (λ (x : ℕ). crc_byte x (get_or bs i 0)) e
    ∙ sym (over_append c (take i bs) (get_or bs i 0 ∷ []))
    ∙ ap (crc_from c) (sym (take-suc bs i 0 h))
    ∙ ap (λ (n : ℕ). crc_from c (take n bs)) (sym (add-one i))
