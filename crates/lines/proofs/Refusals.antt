-- What a call answers, in the order in which the code asks.
use Prim.Native.Nat.{ℕ, ◌+◌, ◌-◌, ◌*◌, ◌/◌, ◌%◌, ◌≤◌, ◌<◌}
use mathlib.Core.Bool.{true, false}
use mathlib.Core.List.{List}
use mathlib.Core.Path.{◌≡◌, refl, sym, ◌∙◌, ap}
use native.Mathlib.Omega.{arith}
use native.Mathlib.Nat.{div-add-mod', mod-lt}
use lib.Dec.{leb, eqb}
use lib.ListN.{length, drop, length-append}
use borrow.Author.Tests.{leb-true, leb-false, ne_eqb, eq-eqb, eqb-true, le-leb, lt-leb}
use Rattle.bits.proofs.Tests.{by}
use Rattle.store.specs.Sheet.{Sheets}
use Rattle.board.specs.Board.{Board, board_refusal}
use Rattle.lines.specs.Taken.{Block, Refused, BitsHeld, NoRoomForText, Text, AfterBlock, long_enough, taken_of, wrote, untaken, text_length, write_of, WritePromise}

-- ---- 128 bytes for each byte and two more.

module _ (input out : ℕ) where
  pub too_few : out / 128 < 2 → false ≡ leb (128 * (input + 2)) out
  too_few h = sym (lt-leb (128 * (input + 2)) out (omega (arith, div-add-mod' out 128, mod-lt out {m = 128} (omega arith))))

  pub as_many : 2 ≤ out / 128 → leb input (out / 128 - 2) ≡ leb (128 * (input + 2)) out
  as_many h =
      let d : out / 128 * 128 + out % 128 ≡ out = div-add-mod' out 128 in
      let r : out % 128 < 128 = mod-lt out {m = 128} (omega arith) in
      by (leb input (out / 128 - 2))
      (λ e. e ∙ sym (le-leb (128 * (input + 2)) out (omega (arith, leb-true input (out / 128 - 2) e))))
      (λ e. e ∙ sym (lt-leb (128 * (input + 2)) out (omega (arith, leb-false input (out / 128 - 2) e))))

-- ---- Whether a call gave text.

abbrev is_text : Block → ℕ
is_text (Refused number) = 0
is_text BitsHeld = 0
is_text NoRoomForText = 0
is_text (Text k) = 1

no_text : {P : Type 0} (a : Block) (k : ℕ) → is_text a ≡ 0 → a ≡ Text k → P
no_text a k none h = let z : ◌≡◌ {A = ℕ} 0 1 = sym none ∙ ap is_text h in let no_way : ⊥ = omega arith in absurd no_way

-- ---- The call, in the order of the code.

module _ (b : Board) (sheets : Sheets) (room out input : List ℕ) where
  abbrev number : ℕ
  number = board_refusal b sheets room

  pub write_refused : (n : ℕ) → n ≡ number → (n ≡ 0 → ⊥) → WritePromise b sheets room out input (untaken b room out (Refused n))
  unfolding WritePromise write_of
  write_refused n e other = rw (← e) (simp (ne_eqb n 0 other))

  module _ (none : number ≡ 0) where
    pub write_held : (b.kept.receiver.count ≡ 0 → ⊥) → WritePromise b sheets room out input (untaken b room out BitsHeld)
    unfolding WritePromise write_of
    write_held other = simp (eq-eqb number 0 none, ne_eqb _ _ other)

    pub write_short : b.kept.receiver.count ≡ 0 → long_enough input out ≡ false → WritePromise b sheets room out input (untaken b room out NoRoomForText)
    unfolding WritePromise write_of
    write_short no_bits short = simp (eq-eqb number 0 none, eq-eqb _ _ no_bits, short)

    pub write_done : b.kept.receiver.count ≡ 0 → long_enough input out ≡ true → (x : AfterBlock) → x ≡ wrote (taken_of b sheets room input) out
        → WritePromise b sheets room out input x
    unfolding WritePromise write_of
    write_done no_bits long x d = d ∙ simp (eq-eqb number 0 none, eq-eqb _ _ no_bits, long)

  -- the text is within what was lent for it
  pub written_within : (x : AfterBlock) → WritePromise b sheets room out input x → text_length x.given.answer ≤ length x.out
  unfolding WritePromise write_of
  written_within x e =
      let t = (taken_of b sheets room input).text in
      by (eqb number 0)
      (λ z. by (eqb b.kept.receiver.count 0)
      (λ n. by (long_enough input out)
      (λ l. let f : x ≡ wrote (taken_of b sheets room input) out = e ∙ simp (z, n, l) in rw f (omega (arith, length-append t (drop (length t) out))))
      (λ l. let f : x ≡ untaken b room out NoRoomForText = e ∙ simp (z, n, l) in rw f (omega arith)))
      (λ n. let f : x ≡ untaken b room out BitsHeld = e ∙ simp (z, n) in rw f (omega arith)))
      (λ z. let f : x ≡ untaken b room out (Refused number) = e ∙ simp z in rw f (omega arith))

  -- where it tells of text, no row was broken, and all bytes were taken
  pub text_given_lem : (x : AfterBlock) (k : ℕ) → WritePromise b sheets room out input x → x.given.answer ≡ Text k
      → (number ≡ 0) × (x ≡ wrote (taken_of b sheets room input) out)
  unfolding WritePromise write_of
  text_given_lem x k e told =
      by (eqb number 0)
      (λ z. by (eqb b.kept.receiver.count 0)
      (λ n. by (long_enough input out)
      (λ l. (eqb-true number 0 z, e ∙ simp (z, n, l)))
      (λ l. let f : x ≡ untaken b room out NoRoomForText = e ∙ simp (z, n, l) in no_text NoRoomForText k refl (rw f at told)))
      (λ n. let f : x ≡ untaken b room out BitsHeld = e ∙ simp (z, n) in no_text BitsHeld k refl (rw f at told)))
      (λ z. let f : x ≡ untaken b room out (Refused number) = e ∙ simp z in no_text (Refused number) k refl (rw f at told))
