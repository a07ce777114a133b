use Prim.Native.Nat.{◌-◌}
use mathlib.Core.Path.{◌≡◌, sym, ◌∙◌}
use native.Mathlib.Omega.{arith}
use Rattle.scenario.specs.Words.{start_from, span_of}
use Rattle.scenario.proofs.Splitting as laws
use Rattle.scenario.proofs.words.locate.Goals as goal

pub until-at-requires : goal.until-at-requires
until-at-requires c = rw c.past-start.ensures (laws.past_within _ _ _ c.loop.invariant.0)

pub loop-preserved : goal.loop-preserved
loop-preserved c =
    let l = c.loop in
    let w = laws.past_within _ _ _ l.invariant.0 in
    rw (c.until-at.ensures, c.past-start.ensures)
    (laws.until_within _ _ _ w, omega arith, l.invariant.2 ∙ laws.onward _ _ _ l.counter l.at (omega arith))

pub until-end-requires : goal.until-end-requires
until-end-requires c = rw c.past-start-2.ensures (laws.past_within _ _ _ c.loop.invariant.0)

pub returns : goal.returns
unfolding span_of
returns c =
    let l = c.loop in
    let x = c.args in
    let k : x.k - l.counter ≡ 0 = omega arith in
    let s : start_from x.stop x.text.now x.k 0 ≡ c.past-start-2.result = l.invariant.2 ∙ laws.arrived _ _ _ l.at k ∙ sym c.past-start-2.ensures in
    rw s (rw c.until-end.ensures)
