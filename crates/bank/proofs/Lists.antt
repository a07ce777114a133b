-- Lists two by two, and a room that is filled from its front.
use Prim.Native.Nat.{ℕ, suc, ◌+◌, ◌≤◌, ◌<◌}
use mathlib.Core.List.{List, [], ◌∷◌, ◌++◌, append_assoc}
use mathlib.Core.Path.{◌≡◌, sym, ◌∙◌, ap}
use native.Mathlib.Numerals.{add-one}
use native.Mathlib.Omega.{arith}
use lib.ListN.{length, take, drop, get_or, set, length-append, length-drop}
use lib.Seq.{set_at, take-suc, length-take-le, drop-cons, drop-drop, take-append_seam, drop-append-add}
use Rattle.bank.specs.Reply.{at_front}

-- what is put behind bytes at the front is at the front with them
pub behind : (xs ys room : List ℕ) → take (length xs) (at_front xs room) ++ ys ++ drop (length xs + length ys) (at_front xs room) ≡ at_front (xs ++ ys) room
behind xs ys room =
    rw (take-append_seam xs (drop (length xs) room), drop-append-add xs (drop (length xs) room) (length ys), drop-drop (length ys) (length xs) room, length-append xs ys)

-- so one that has bytes at its front, and gets more behind them, has both
pub has_both : (xs ys before room : List ℕ) (at : ℕ) → at ≡ length xs → room ≡ at_front xs before
    → take at room ++ ys ++ drop (at + length ys) room ≡ at_front (xs ++ ys) before
has_both xs ys before room at e stand = rw (e, stand) (behind xs ys before)

-- and where those two are a whole, the place past them is its length
pub finished : (xs ys whole before room : List ℕ) (at : ℕ) → at ≡ length xs → room ≡ at_front xs before → whole ≡ xs ++ ys
    → (at + length ys ≡ length whole) × (take at room ++ ys ++ drop (at + length ys) room ≡ at_front whole before)
finished xs ys whole before room at e stand is =
    (rw (is, length-append xs ys, e), has_both xs ys before room at e stand ∙ ap (λ (l : List ℕ). at_front l before) (sym is))

-- they are taken off it again
pub front_taken : (xs before room : List ℕ) (at : ℕ) → at ≡ length xs → room ≡ at_front xs before → take at room ≡ xs
front_taken xs before room at e stand = rw (e, stand) (take-append_seam xs (drop (length xs) before))

-- what is put at the front keeps the room's length
pub front_length : (xs room : List ℕ) → length xs ≤ length room → length (at_front xs room) ≡ length room
front_length xs room h = rw (length-append xs (drop (length xs) room), length-drop (length xs) room) (omega arith)

-- a loop that copies a list to a room's front: one element more
pub copied : (s room : List ℕ) (k : ℕ) → k < length s → k < length room
    → set (take k s ++ drop k room) k (get_or s k 0) ≡ take (k + 1) s ++ drop (k + 1) room
copied s room k hs hr =
    rw (add-one k, drop-cons room k 0 hr, take-suc s k 0 hs, append_assoc (take k s) (get_or s k 0 ∷ []) (drop (suc k) room))
    (set_at (take k s) (get_or room k 0) (drop (suc k) room) (get_or s k 0) k (length-take-le k s (omega arith)))
