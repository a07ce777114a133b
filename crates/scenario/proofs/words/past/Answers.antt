use mathlib.Core.Path.{◌≡◌, sym, ◌∙◌}
use native.Mathlib.Omega.{arith}
use native.Mathlib.Numerals.{add-one}
use lib.ListN.{length}
use Rattle.scenario.proofs.Splitting as laws
use Rattle.scenario.proofs.words.past.Goals as goal

pub returns-then-text-i : goal.returns-then-text-i
returns-then-text-i c =
    let l = c.loop-i in
    sym (l.invariant ∙ laws.not_here _ _ l.i c.loop-i-test.true c.if-text-i.true)

pub loop-i-preserved : goal.loop-i-preserved
loop-i-preserved c =
    let l = c.loop-i in
    rw (add-one l.i) (l.invariant ∙ laws.past_here _ _ l.i c.loop-i-test.true c.if-text-i.false)

pub returns : goal.returns
returns c =
    let l = c.loop-i in
    let all : length c.args.text.now ≡ l.i = omega (arith, l.auto.i-end c.requires) in
    rw all (sym (l.invariant ∙ laws.none_left _ _ l.i c.loop-i-test.false))
