use mathlib.Core.Path.{sym, ap, ◌∙◌}
use Rattle.refusals.specs.Numbers.{refusal_in}
use Rattle.view.specs.View.{view_of, ViewRefusalPromise, ViewPromise}
use Rattle.refusals.proofs.Laws.{no_0}
use Rattle.view.proofs.Laws.{viewed_right}
use Rattle.view.proofs.bank_view.Goals as goal

pub used_cells-requires : goal.used_cells-requires
unfolding ViewRefusalPromise
used_cells-requires c =
    let both = viewed_right _ _ (sym c.view_refusal.ensures ∙ ap refusal_in c.in-Ok.is) in
    record { fixed_value = both.0; fixed_value_2 = both.1 }

pub returns-in-Ok : goal.returns-in-Ok
unfolding ViewPromise view_of ViewRefusalPromise
returns-in-Ok c = rw (← c.view_refusal.ensures, c.in-Ok.is) c.used_cells.ensures

pub returns-in-Err : goal.returns-in-Err
unfolding ViewPromise view_of ViewRefusalPromise
returns-in-Err c = rw (← c.view_refusal.ensures, c.in-Err.is, no_0)
