-- `history::kept_writable` meets its contract. The invariant is `Passed`.
use Prim.Native.Nat.{ℕ, ◌*◌, ◌≤◌}
use mathlib.Core.Bool.{true}
use mathlib.Core.List.{List}
use mathlib.Core.Path.{◌≡◌, sym, ◌∙◌}
use native.Mathlib.Omega.{arith}
use lib.ListN.{length, length-append}
use lib.Seq.{length-take-le}
use Rattle.history.specs.History.{changes_long}
use Rattle.history.proofs.Kept.{changes_bytes}
use Rattle.history.proofs.Places.{start_passed, all_passed, next_passed, not_passed}
use Rattle.history.proofs.kept_writable.Goals as goal

-- the kept changes are all lent
all_lent : (reach : ℕ) (changes : List ℕ) → reach ≤ 64 → changes_long changes ≡ true → 3 * reach ≤ length changes
all_lent reach changes few long = omega (arith, changes_bytes changes long)

pub slice_bounds-kept-end : goal.slice_bounds-kept-end
slice_bounds-kept-end c =
    rw c.from.ensures (sym (length-take-le (3 * c.args.reach) c.args.changes.now (all_lent _ _ c.requires.reach_bound c.requires.changes_value)))

pub loop-change-init : goal.loop-change-init
loop-change-init c =
    let items = c.chunks_exact-change-items.ensures in
    let gives = c.into_iter-change-iterator.ensures.into_iter_gives in
    (rw gives items.size, rw (gives, items.rest, c.from.ensures) (start_passed _ _ _ (all_lent _ _ c.requires.reach_bound c.requires.changes_value)))

pub returns-then-not-writable : goal.returns-then-not-writable
returns-then-not-writable c =
    let going = c.loop-change.invariant in
    let step = rw c.in-Some.is at c.next.ensures.steps in
    sym (not_passed _ _ _ (all_lent _ _ c.requires.reach_bound c.requires.changes_value) _ _ _ _ going.1 step.1.0 (step.1.1 ∙ going.0) (sym c.writable.ensures ∙ c.if-not-writable.true))

pub loop-change-preserved : goal.loop-change-preserved
loop-change-preserved c =
    let going = c.loop-change.invariant in
    let step = rw c.in-Some.is at c.next.ensures.steps in (
      step.0 ∙ going.0,
      rw (length-append c.loop-change.yielded _)
          (next_passed _ _ _ (all_lent _ _ c.requires.reach_bound c.requires.changes_value) _ _ _ _ going.1 step.1.0 (step.1.1 ∙ going.0) (sym c.writable.ensures ∙ c.if-not-writable.false)),
    )

pub returns : goal.returns
returns c =
    let going = c.loop-change.invariant in
    let step = rw c.in-None.is at c.next.ensures.steps in
    sym (all_passed _ _ _ (all_lent _ _ c.requires.reach_bound c.requires.changes_value) _ _ going.1 (rw going.0 at step.1.0))
