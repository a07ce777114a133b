use Prim.Native.Nat.{ℕ}
use mathlib.Core.List.{List, [], ◌++◌, append-nil}
use mathlib.Core.Path.{◌≡◌, ◌∙◌, ap}
use native.Mathlib.Omega.{arith}
use lib.ListN.{length, take, drop, replicate, length-drop, drop_of_length-le}
use lib.Seq.{take_all, take_at, length-take-le}
use Rattle.slots.specs.Slots as Slots
use Rattle.bidi.proofs.queue.without_first.Goals as goal

-- what is moved to the front of 32 bytes, and zeros in the last four of them
moved : (queue now zeros : List ℕ) → length queue ≡ 32 → now ≡ take 28 (drop 4 queue) ++ drop 28 queue → length now ≡ 32 → zeros ≡ replicate (length (take 4 (drop 28 now))) 0
    → take 28 now ++ (zeros ++ drop 4 (drop 28 now)) ≡ drop 4 queue ++ replicate 4 0
moved queue now zeros whole front long cleared =
    let rest : length (drop 28 now) ≡ 4 = simp (length-drop, long) in
    let none : drop 4 (drop 28 now) ≡ [] = drop_of_length-le (drop 28 now) {i = 4} (omega arith) in
    let four : length (take 4 (drop 28 now)) ≡ 4 = length-take-le 4 (drop 28 now) (omega arith) in
    let few : length (drop 4 queue) ≡ 28 = simp (length-drop, whole) in
    let moved_length : length (take 28 (drop 4 queue)) ≡ 28 = length-take-le 28 (drop 4 queue) (omega arith) in
    let head : take 28 now ≡ drop 4 queue =
    ap (take 28) front ∙ take_at (take 28 (drop 4 queue)) (drop 28 queue) 28 moved_length ∙ take_all 28 (drop 4 queue) (omega arith) in
    rw (head, none, cleared, four, append-nil)

pub returns : goal.returns
unfolding Slots.after_oldest
returns c =
    let q = c.args.queue in
    let whole : length q ≡ 32 = omega arith in
    let front : c.copy_within.new.self ≡ take 28 (drop 4 q) ++ drop 28 q = rw whole at c.copy_within.ensures.after in
    moved q c.copy_within.new.self c.fill.new.self whole front (c.copy_within.ensures.len ∙ whole) (c.fill.ensures.after (λ y e. e))
