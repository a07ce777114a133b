-- Bytes put at a place of a list, one after the other.
use Prim.Native.Nat.{ℕ, ◌+◌, ◌-◌, ◌≤◌}
use mathlib.Core.List.{List, [], ◌++◌, append_assoc}
use mathlib.Core.Path.{◌≡◌, refl, sym}
use native.Mathlib.Omega.{arith}
use lib.ListN.{length, take, drop, length-append, length-drop, take-append-drop}
use lib.Seq.{length-take-le, take_at, drop_at, drop-drop}
use Rattle.bank.specs.Reply.{at_front}
use Rattle.bank.proofs.Lists.{front_length}
use Rattle.lines.specs.Taken.{placed}

module _ (at : ℕ) (out : List ℕ) where
  pub placed_nothing : placed at [] out ≡ out
  placed_nothing = take-append-drop at out

  -- a copy to the part from that place on that is as long
  pub copied : (bytes part : List ℕ) → part ≡ bytes → take at out ++ (part ++ drop (at + length bytes - at) (drop at out)) ≡ placed at bytes out
  copied bytes part e = let n : at + length bytes - at ≡ length bytes = omega arith in rw (e, n)

  module _ (xs : List ℕ) (h : at + length xs ≤ length out) where
    pub placed_length : length (placed at xs out) ≡ length out
    placed_length =
        let k : length xs ≤ length (drop at out) = rw (length-drop at out) (omega arith) in
        rw (length-append (take at out) (at_front xs (drop at out)), length-take-le at out (omega arith), front_length xs (drop at out) k, length-drop at out)
        (omega arith)

    -- what is put right behind them
    pub placed_more : (ys : List ℕ) → placed (at + length xs) ys (placed at xs out) ≡ placed at (xs ++ ys) out
    placed_more ys =
        let n : length (take at out ++ xs) ≡ at + length xs = rw (length-append (take at out) xs, length-take-le at out (omega arith)) refl in
        let whole : placed at xs out ≡ (take at out ++ xs) ++ drop (length xs) (drop at out) = sym (append_assoc (take at out) xs (drop (length xs) (drop at out))) in
        rw (whole, take_at (take at out ++ xs) (drop (length xs) (drop at out)) (at + length xs) n, drop_at (take at out ++ xs) (drop (length xs) (drop at out)) (at + length xs) n)
        (rw (append_assoc (take at out) xs, drop-drop (length ys) (length xs) (drop at out), length-append xs ys, append_assoc xs ys))
