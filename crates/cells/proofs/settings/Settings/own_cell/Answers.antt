-- `Settings::own_cell` meets its contract: the number that is asked for is the one that the settings go by (`asked`).
use mathlib.Core.Path.{◌≡◌, sym, ◌∙◌}
use Rattle.cells.specs.Settings.{effective_number, own_cell_of}
use Rattle.cells.specs.Roles.{owns}
use Rattle.cells.proofs.Numbers.{number_from}
use Rattle.cells.proofs.settings.Settings.own_cell.Goals as goal

pub owned-requires : goal.owned-requires
owned-requires c = rw c.module_number-number.ensures (number_from _)

pub returns-then-not-owned : goal.returns-then-not-owned
unfolding own_cell_of
returns-then-not-owned c =
    let asked : c.owned.result ≡ owns (effective_number c.args.self) c.args.cv = cc in
    rw (sym asked ∙ c.if-not-owned.true)

pub offset_of-requires : goal.offset_of-requires
offset_of-requires c =
    record { number_nonzero = rw c.module_number-number.ensures (number_from _); cv_value = sym c.owned.ensures ∙ c.if-not-owned.false }

pub read_cell-requires : goal.read_cell-requires
read_cell-requires c =
    c.requires

pub returns : goal.returns
unfolding own_cell_of
returns c =
    let asked : c.owned.result ≡ owns (effective_number c.args.self) c.args.cv = cc in
    rw (sym asked ∙ c.if-not-owned.false, ← c.module_number-number.ensures, ← c.offset_of.ensures, c.read_cell.ensures)
