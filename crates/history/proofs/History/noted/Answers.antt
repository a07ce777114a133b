use mathlib.Core.List.{List}
use mathlib.Core.Path.{◌∙◌, ap}
use Prim.Native.Nat.{ℕ, ◌+◌, ◌≤◌}
use native.Mathlib.Omega.{arith}
use lib.ListN.{length}
use borrow.Author.Tests.{lt-ltb, le-ltb}
use Rattle.slots.specs.Slots.{joined_by}
use Rattle.slots.proofs.Joined.{left_length}
use Rattle.history.specs.History.{history, change, noting, noted}
use Rattle.history.proofs.Kept.{changes_bytes, long_stays}
use Rattle.history.proofs.Places.{version_room}
use Rattle.history.proofs.History.noted.Goals as goal

pub overflow_add-version : goal.overflow_add-version
overflow_add-version c = record { fits = omega (arith, version_room _ c.requires.self_value_2) }

pub returns-then-self-lt-CHANGES_KEPT : goal.returns-then-self-lt-CHANGES_KEPT
unfolding noted
returns-then-self-lt-CHANGES_KEPT c =
    let a = c.args in
    rw (lt-ltb a.self.reach 64 c.if-self-lt-CHANGES_KEPT.true)
    (ap (noting (history (a.self.version + 1) (a.self.reach + 1))) c.put_change.ensures)

pub put_change-requires-2 : goal.put_change-requires-2
put_change-requires-2 c =
    let long = changes_bytes _ c.requires.changes_value in
    let room : 3 ≤ length c.args.changes.now = omega arith in
    record { place_bound = omega arith; changes_value = long_stays _ _ (ap length c.drop_oldest.ensures ∙ left_length 3 _ room) c.requires.changes_value }

pub returns : goal.returns
unfolding noted
returns c =
    let a = c.args in
    rw (le-ltb a.self.reach 64 (omega (arith, c.if-self-lt-CHANGES_KEPT.false)))
    (ap (noting (history (a.self.version + 1) 64))
    (c.put_change-2.ensures ∙ ap (λ (x : List ℕ). joined_by 3 x 63 (change a.bank a.offset a.before)) c.drop_oldest.ensures))
