use Rattle.bits.proofs.Tests.{picks}
use Rattle.store.specs.Sheet.{leading_of}
use Rattle.store.proofs.sheet.leading.Goals as goal

pub returns-then-bank-eq-FIXED_BANK : goal.returns-then-bank-eq-FIXED_BANK
unfolding leading_of
returns-then-bank-eq-FIXED_BANK c = search picks

pub returns : goal.returns
unfolding leading_of
returns c = search picks
