use native.Mathlib.Omega.{arith}
use Rattle.onward.proofs.Laws.{goes_on, never_past}
use Rattle.pace.proofs.feeding.feed_block.Goals as goal

pub loop-at-smaller : goal.loop-at-smaller
loop-at-smaller c =
    omega (arith, c.loop-at-test.true, never_past _ _ _ _ _ _ c.in-Ok.ensures, goes_on _ _ _ _ _ _ c.in-Ok.ensures c.loop-at-test.true)

pub loop-at-preserved : goal.loop-at-preserved
loop-at-preserved c = never_past _ _ _ _ _ _ c.in-Ok.ensures
