use native.Mathlib.Omega.{arith}
use Rattle.std.proofs.lemmas.Slice.{put_mid-paste}
use mathlib.Core.Path.{refl}
use Rattle.slots.specs.Slots.{joined_by}
use Rattle.history.specs.History.{change}
use Rattle.history.proofs.Kept.{changes_bytes}
use Rattle.history.proofs.put_change.Goals as goal

pub slice_bounds-copy_from_slice-end : goal.slice_bounds-copy_from_slice-end
slice_bounds-copy_from_slice-end c = omega (arith, changes_bytes _ c.requires.changes_value)

pub returns : goal.returns
unfolding joined_by
returns c =
    let a = c.args in
    rw (← c.from-at.ensures) (put_mid-paste _ _ _ _ (change a.bank a.offset a.before) 3 c.copy_from_slice.ensures.after (omega arith) refl)
