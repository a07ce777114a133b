use mathlib.Core.Path.{sym}
use lib.Seq.{length-take-le}
use Rattle.lines.proofs.Refusals.{written_within}
use Rattle.bench.proofs.take_block.Goals as goal

pub slice_bounds-write_lines-end : goal.slice_bounds-write_lines-end
slice_bounds-write_lines-end c = written_within _ _ _ _ _ _ c.in-Ok.ensures

pub slice_bounds-write_lines-end-2 : goal.slice_bounds-write_lines-end-2
slice_bounds-write_lines-end-2 c = sym (length-take-le _ _ (written_within _ _ _ _ _ _ c.in-Ok.ensures))
