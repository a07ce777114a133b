-- `crc::continued` meets its contract: what stands before the lanes, then the lanes.
use Prim.Native.Nat.{ℕ, ◌-◌, ◌*◌, ◌/◌}
use mathlib.Core.Path.{sym, ◌∙◌, ap}
use native.Mathlib.Omega.{arith}
use lib.ListN.{length, take, drop, take-append-drop, length-drop}
use lib.Seq.{length-take-le, take_all}
use Rattle.crc.specs.Crc.{crc_from}
use Rattle.crc.proofs.Laws.{over_append}
use Rattle.crc.proofs.continued.Goals as goal

pub slice_bounds-in_turn-end : goal.slice_bounds-in_turn-end
slice_bounds-in_turn-end c = sym (length-take-le _ c.args.bytes.now (omega arith))

pub returns : goal.returns
returns c =
    let x = c.args in
    let bytes = x.bytes.now in
    let head : ℕ = length bytes - length bytes / 508 * 127 * 4 in
    let to_the_end = take_all (length bytes - head) (drop head bytes) (rw (length-drop head bytes) (omega arith)) in
    c.in_lanes.ensures ∙ ap (crc_from _) to_the_end ∙ ap (λ (r : ℕ). crc_from r (drop head bytes)) c.in_turn-running.ensures
    ∙ sym (over_append x.crc (take head bytes) (drop head bytes)) ∙ ap (crc_from x.crc) (take-append-drop head bytes)
