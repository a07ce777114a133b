use Prim.Native.Nat.{ℕ, ◌+◌, ◌-◌, ◌*◌}
use mathlib.Core.List.{List, ◌++◌, append_assoc}
use mathlib.Core.Path.{◌≡◌, sym, ◌∙◌, ap}
use native.Mathlib.Omega.{arith}
use lib.ListN.{take, drop}
use lib.Seq.{drop-drop}
use Rattle.slots.specs.Slots as Slots
use Rattle.bidi.proofs.queue.joined.Goals as goal

pub returns : goal.returns
unfolding Slots.joined_by
returns c =
    let a = c.args in
    let at : c.from-at.result * 4 ≡ 4 * a.queued = omega (arith, c.from-at.ensures) in
    let wide : 4 * a.queued + 4 - 4 * a.queued ≡ 4 = omega arith in
    rw (at, wide, c.copy_from_slice.ensures.after)
    (ap (λ (behind : List ℕ). take (4 * a.queued) a.queue ++ (a.message ++ behind)) (drop-drop 4 (4 * a.queued) a.queue)
    ∙ sym (append_assoc (take (4 * a.queued) a.queue) a.message (drop (4 * a.queued + 4) a.queue)))
