-- A line's length, and the loop over the bytes of a reply.
use Prim.Native.Nat.{ℕ, ◌+◌, ◌*◌, ◌≤◌, ◌<◌}
use mathlib.Core.Bool.{Bool, true, false}
use mathlib.Core.List.{List, [], ◌∷◌, ◌++◌}
use mathlib.Core.Path.{◌≡◌, refl, sym, ◌∙◌, ap}
use native.Mathlib.Omega.{arith}
use native.Mathlib.Numerals.{add-one}
use lib.ListN.{length, take, get_or, length-append}
use lib.Seq.{take-suc, length-take-le}
use Rattle.text.specs.Text.{hex_of}
use Rattle.lines.specs.Lines.{spaced, line_of}
use Rattle.lines.specs.Taken.{placed}
use Rattle.lines.proofs.Places.{placed_nothing, placed_more, placed_length}

-- three bytes of text for each byte
pub spaced_length : (bytes : List ℕ) → length (spaced bytes) ≡ 3 * length bytes
unfolding spaced
spaced_length [] = refl
spaced_length (b ∷ bs) = omega (arith, spaced_length bs)

pub spaced_more : (xs : List ℕ) (b : ℕ) → spaced (xs ++ (b ∷ [])) ≡ spaced xs ++ (32 ∷ hex_of b)
unfolding spaced
spaced_more [] b = refl
spaced_more (x ∷ xs) b = rw (spaced_more xs b)

-- a line has at most 4 + 3·84 bytes
pub line_length : (acknowledged : Bool) (reply : List ℕ) → length reply ≤ 84 → length (line_of acknowledged reply) ≤ 256
unfolding line_of
line_length true reply h = omega (arith, spaced_length reply, length-append (spaced reply) (10 ∷ []))
line_length false reply h = omega arith

-- ---- The loop: i bytes of the reply stand in their places.

pub record Replying (before : List ℕ) (at : ℕ) (reply out : List ℕ) (i : ℕ) : Type 0 where
  pub within : i ≤ length reply
  pub stand : out ≡ placed at (spaced (take i reply)) before

pub begun : (before : List ℕ) (at : ℕ) (reply : List ℕ) → Replying before at reply before 0
unfolding spaced
begun before at reply = record { within = omega arith; stand = sym (placed_nothing at before) }

module _ {before : List ℕ} {at : ℕ} {reply out : List ℕ} {i : ℕ} (room : at + 3 * length reply ≤ length before) (g : Replying before at reply out i) where
  long : length (spaced (take i reply)) ≡ 3 * i
  long = spaced_length (take i reply) ∙ rw (length-take-le i reply g.within)

  pub same_room : length out ≡ length before
  same_room = ap length g.stand ∙ placed_length at before (spaced (take i reply)) (omega (arith, long, g.within))

  pub turned : i < length reply → Replying before at reply (placed (at + 3 * i) (32 ∷ hex_of (get_or reply i 0)) out) (i + 1)
  turned h =
      record {
        within = omega arith;
        stand =
            rw (g.stand, ← long) (placed_more at before (spaced (take i reply)) (omega (arith, long)) (32 ∷ hex_of (get_or reply i 0)))
            ∙ ap (λ (t : List ℕ). placed at t before) (sym more);
      }
    where
      more : spaced (take (i + 1) reply) ≡ spaced (take i reply) ++ (32 ∷ hex_of (get_or reply i 0))
      more = rw (add-one i, take-suc reply i 0 h) (spaced_more (take i reply) (get_or reply i 0))

-- ---- The two lines.

module _ (before : List ℕ) (at : ℕ) (reply : List ℕ) (room : at + 256 ≤ length before) (few : length reply ≤ 84) where
  pub silent : (at + 2 ≡ at + length (line_of false reply)) × (placed at (45 ∷ 10 ∷ []) before ≡ placed at (line_of false reply) before)
  unfolding line_of
  silent = (refl, refl)

  abbrev head : List ℕ
  head = 65 ∷ 67 ∷ 75 ∷ []

  abbrev headed : List ℕ
  headed = 65 ∷ 67 ∷ 75 ∷ spaced reply

  pub has_head : placed (at + 3) (spaced reply) (placed at head before) ≡ placed at headed before
  has_head = placed_more at before head (omega arith) (spaced reply)

  pub acknowledged : (at + 3 + 3 * length reply + 1 ≡ at + length (line_of true reply))
      × (placed (at + 3 + 3 * length reply) (10 ∷ []) (placed (at + 3) (spaced reply) (placed at head before)) ≡ placed at (line_of true reply) before)
  unfolding line_of
  acknowledged =
      let n : at + 3 + 3 * length reply ≡ at + length headed = omega (arith, spaced_length reply) in (
        omega (arith, spaced_length reply, length-append (spaced reply) (10 ∷ [])),
        rw (has_head, n) (placed_more at before headed (omega arith) (10 ∷ [])),
      )
