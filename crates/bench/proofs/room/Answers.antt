use Rattle.std.proofs.Common.{sym, ℕ}
use Rattle.std.proofs.lemmas.List.{length-replicate}
use Rattle.bench.proofs.room.Goals as goal

-- The level and the type are written out, or the comparison would count half a million zeros one by one.
pub returns : goal.returns
returns c = sym (length-replicate {0} {A = ℕ} 524544 0)
