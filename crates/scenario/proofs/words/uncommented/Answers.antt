use mathlib.Core.Path.{sym}
use native.Mathlib.Omega.{arith}
use lib.Seq.{length-take-le}
use Rattle.scenario.proofs.Splitting as laws
use Rattle.scenario.proofs.words.uncommented.Goals as goal

pub slice_bounds-result-end : goal.slice_bounds-result-end
slice_bounds-result-end c = sym (length-take-le _ _ (rw c.until.ensures (laws.until_within _ _ _ (omega arith))))

pub returns : goal.returns
returns c = rw c.until.ensures (laws.comment_off _)
