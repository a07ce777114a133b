use Rattle.scenario.proofs.Splitting as laws
use borrow.Author.Rules.{rules}
use Rattle.scenario.proofs.words.part.Goals as goal

pub slice_bounds-result-count : goal.slice_bounds-result-count
slice_bounds-result-count c = let h = laws.stands _ _ _ _ c.locate-found.ensures in search rules

pub slice_bounds-result-start : goal.slice_bounds-result-start
slice_bounds-result-start c = let h = laws.stands _ _ _ _ c.locate-found.ensures in search rules

pub slice_bounds-result-end : goal.slice_bounds-result-end
slice_bounds-result-end c = let h = laws.stands _ _ _ _ c.locate-found.ensures in search rules

pub returns : goal.returns
returns c = (laws.stands _ _ _ _ c.locate-found.ensures).bytes
