-- `history::drop_oldest` meets its contract.
use Prim.Native.Nat.{ℕ}
use mathlib.Core.List.{List}
use mathlib.Core.Path.{◌≡◌, ◌∙◌, ap}
use native.Mathlib.Omega.{arith}
use lib.ListN.{length}
use Rattle.slots.specs.Slots.{joined_by}
use Rattle.slots.proofs.Moved.{moved, moved_all}
use Rattle.history.specs.History.{change}
use Rattle.history.proofs.Kept.{changes_bytes, long_stays}
use Rattle.history.proofs.drop_oldest.Goals as goal

pub copy_within-requires : goal.copy_within-requires
copy_within-requires c =
    let long = changes_bytes _ c.requires in
    record { start_le_end = omega arith; in_bounds = omega arith; dest_in_bounds = omega arith; not_exhausted = tt }

pub put_change-requires : goal.put_change-requires
put_change-requires c =
    record { place_bound = omega arith; changes_value = long_stays _ _ c.copy_within.ensures.len c.requires }

pub returns : goal.returns
returns c =
    let before = c.args.changes.now in
    let long : length before ≡ 192 = changes_bytes _ c.requires in
    let nearer : c.copy_within.new.self ≡ moved 3 189 before = rw long at c.copy_within.ensures.after in
    c.put_change.ensures
    ∙ ap (λ (x : List ℕ). joined_by 3 x 63 (change 0 0 0)) nearer
    ∙ moved_all 3 before 63 long
