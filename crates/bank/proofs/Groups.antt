-- What the group at a place is, by the bytes there.
use Prim.Native.Nat.{ℕ, ◌+◌, ◌≤◌, ◌<◌}
use mathlib.Core.Bool.{Bool, true, false}
use mathlib.Core.List.{List}
use mathlib.Core.Path.{◌≡◌}
use native.Mathlib.Nat.{add-zero}
use native.Mathlib.Omega.{arith}
use borrow.Author.Tests.{lt-ltb, le-ltb, eq-eqb, ne_eqb}
use lib.ListN.{length, drop, get_or, length-drop}
use lib.Seq.{get_or-drop}
use Rattle.bank.specs.declared.Group.TheVariants.{Bad}
use Rattle.bank.specs.Group.{group_of, checksum_group, group_at}

module _ (reply : List ℕ) (at : ℕ) where
  -- fewer than four bytes are no group, and the last group has no byte behind it
  pub more_behind : at + 4 < length reply → group_at true (drop at reply) ≡ Bad
  unfolding group_at
  more_behind h = simp (ne_eqb (length (drop at reply)) 4 (λ e. omega (arith, length-drop at reply)))

  -- where there are four, they decide
  pub open_there : at + 4 ≤ length reply
      → group_at false (drop at reply) ≡ group_of (get_or reply at 0) (get_or reply (at + 1) 0) (get_or reply (at + 2) 0) (get_or reply (at + 3) 0)
  unfolding group_at
  open_there h = simp (le-ltb (length (drop at reply)) 4 (omega (arith, length-drop at reply)), get_or-drop, add-zero)

  pub last_there : at + 4 ≡ length reply
      → group_at true (drop at reply) ≡ checksum_group (get_or reply at 0) (get_or reply (at + 1) 0) (get_or reply (at + 2) 0) (get_or reply (at + 3) 0)
  unfolding group_at
  last_there h = simp (eq-eqb (length (drop at reply)) 4 (omega (arith, length-drop at reply)), get_or-drop, add-zero)

pub too_short : (closes : Bool) (reply : List ℕ) (at : ℕ) → length reply < at + 4 → group_at closes (drop at reply) ≡ Bad
unfolding group_at
too_short true reply at h = simp (ne_eqb (length (drop at reply)) 4 (λ e. omega (arith, length-drop at reply)))
too_short false reply at h = simp (lt-ltb (length (drop at reply)) 4 (omega (arith, length-drop at reply)))
