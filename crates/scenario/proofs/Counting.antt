-- The bytes of a `read` and of a `bytes` line, a word at a time.
use Prim.Native.Nat.{ℕ, zero, suc, ◌+◌, ◌≤◌, ◌<◌}
use mathlib.Core.Bool.{Bool, true, false, ◌&&◌}
use mathlib.Core.List.{List, [], ◌∷◌, ◌++◌, append-nil}
use mathlib.Core.Path.{◌≡◌, refl, ◌∙◌, ap}
use native.Mathlib.Omega.{arith}
use lib.ListN.{length, drop, set, length-drop, drop_of_length-le}
use lib.Seq.{drop-drop, get_or-drop}
use lib.Dec.{leb}
use borrow.Author.Tests.{le-leb, lt-leb, leb-true, leb-false}
use Rattle.std.proofs.Common.{Some, None}
use Rattle.bits.proofs.Tests.{by, clash}
use Rattle.scenario.specs.Words.{Word, word_at}
use Rattle.scenario.specs.Numbers.{none, value_of}
use Rattle.scenario.specs.Statements.{is_byte_word, all_bytes, bytes_in, bytes_found, first_bytes}
use Rattle.scenario.proofs.Fitting.{first_left, others_left, over, more}

all_first : (pairs : Bool) (ws : List Word) → none ws ≡ false → all_bytes pairs ws ≡ (is_byte_word pairs (word_at ws 0) && all_bytes pairs (drop 1 ws))
unfolding all_bytes
all_first pairs [] h = clash refl h
all_first pairs (w ∷ ws) h = refl

-- n words are bytes
pub record Going (pairs : Bool) (ws : List Word) (n : ℕ) : Type 0 where
  pub few : n ≤ 301
  pub there : n ≤ length ws
  pub rest : all_bytes pairs ws ≡ all_bytes pairs (drop n ws)

pub begin : (pairs : Bool) (ws : List Word) → Going pairs ws 0
begin pairs ws = record { few = omega arith; there = omega arith; rest = refl }

module _ (pairs : Bool) (words : List Word) (from n : ℕ) (g : Going pairs (drop from words) n) where
  abbrev ws : List Word
  ws = drop from words

  left : drop n ws ≡ drop (from + n) words
  left = drop-drop n from words

  here : word_at ws n ≡ word_at words (from + n)
  here = get_or-drop from words n []

  pub ended : none (drop (from + n) words) ≡ true → n ≤ 300 → n ≡ bytes_in pairs ws
  unfolding bytes_in all_bytes
  ended h f =
      let e : drop n ws ≡ [] = over ws n (rw left h) in
      let l : length ws ≡ n = omega (arith, ap length e, length-drop n ws, g.there) in
      let a : all_bytes pairs ws ≡ true = g.rest ∙ rw e in
      simp (a, l, le-leb n 300 f)

  pub full : 300 < n → n ≡ bytes_in pairs ws
  unfolding bytes_in
  full f =
      let n' : n ≡ 301 = omega (arith, g.few) in
      by (all_bytes pairs ws) (λ t. simp (t, lt-leb (length ws) 300 (omega (arith, g.there))) n') (λ t. simp t n')

  module _ (h : none (drop (from + n) words) ≡ false) where
    some : none (drop n ws) ≡ false
    some = rw left h

    split : all_bytes pairs ws ≡ (is_byte_word pairs (word_at words (from + n)) && all_bytes pairs (drop (n + 1) ws))
    split = g.rest ∙ all_first pairs (drop n ws) some ∙ rw (first_left ws n, others_left ws n, here)

    pub not_byte : is_byte_word pairs (word_at words (from + n)) ≡ false → 301 ≡ bytes_in pairs ws
    unfolding bytes_in
    not_byte w = simp (split, w)

    pub on : is_byte_word pairs (word_at words (from + n)) ≡ true → n ≤ 300 → Going pairs ws (n + 1)
    on w f = record { few = omega arith; there = omega (arith, more ws n some); rest = split ∙ simp w }

-- how many, as it is handed on
module _ (pairs : Bool) (ws : List Word) where
  pub so_many : (n : ℕ) → n ≡ bytes_in pairs ws → n ≤ 300 → Some n ≡ bytes_found pairs ws
  unfolding bytes_found
  so_many n e h = rw (← e) (simp (le-leb n 300 h))

  pub too_many : (n : ℕ) → n ≡ bytes_in pairs ws → 300 < n → None ≡ bytes_found pairs ws
  unfolding bytes_found
  too_many n e h = rw (← e) (simp (lt-leb n 300 h))

  pub many : (n : ℕ) → Some n ≡ bytes_found pairs ws → (n ≡ bytes_in pairs ws) × (n ≤ 300)
  unfolding bytes_found
  many n e =
      by (leb (bytes_in pairs ws) 300)
      (λ t. let s : Some n ≡ Some (bytes_in pairs ws) = e ∙ simp t in let m : n ≡ bytes_in pairs ws = cc in (m, rw m (leb-true _ _ t)))
      (λ t. let s : Some n ≡ None = e ∙ simp t in absurd (cc))

  pub not_many : None ≡ bytes_found pairs ws → (1 ≤ bytes_in pairs ws) × (300 < bytes_in pairs ws)
  unfolding bytes_found
  not_many e =
      by (leb (bytes_in pairs ws) 300)
      (λ t. let s : None ≡ Some (bytes_in pairs ws) = e ∙ simp t in absurd (cc))
      (λ t. let m : 300 < bytes_in pairs ws = leb-false _ _ t in (omega arith, m))

-- the bytes of a `read` line, put one behind the other: n of them stand in front of what was there, then one more does
pub one_more : (ws : List Word) (room : List ℕ) (n : ℕ) → n < length room
    → set (first_bytes ws n ++ drop n room) n (value_of 255 (word_at ws n)) ≡ first_bytes ws (suc n) ++ drop (suc n) room
unfolding first_bytes
one_more ws [] n h = let z : ⊥ = omega arith in absurd z
one_more ws (b ∷ room) zero h = refl
one_more [] (b ∷ room) (suc n) h = ap (λ (l : List ℕ). value_of 255 [] ∷ l) (one_more [] room n (omega arith))
one_more (w ∷ ws) (b ∷ room) (suc n) h = ap (λ (l : List ℕ). value_of 255 w ∷ l) (one_more ws room n (omega arith))

-- all of the room is filled
pub all_there : (ws : List Word) (room : List ℕ) (n : ℕ) → length room ≤ n → n ≤ length room → first_bytes ws n ++ drop n room ≡ first_bytes ws (length room)
all_there ws room n h k = let e : length room ≡ n = omega arith in rw (drop_of_length-le room {i = n} h, e) (append-nil _)
