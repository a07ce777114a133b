-- `Settings::write_byte` meets its contract: the number that is judged by is the one that the settings go by (`judged`).
use native.Mathlib.Omega.{arith}
use mathlib.Core.Path.{◌≡◌, refl, sym, ◌∙◌}
use Rattle.cells.specs.Roles.{may_write}
use Rattle.cells.specs.Settings.{write_byte_of, effective_number}
use Rattle.cells.proofs.Owning.{own_lt}
use Rattle.store.proofs.Places.{cell_within}
use Rattle.cells.proofs.Numbers.{number_from}
use Rattle.cells.proofs.settings.Settings.write_byte.Goals as goal

pub may_write-requires : goal.may_write-requires
may_write-requires c =
    record { number_nonzero = rw c.module_number-number.ensures (number_from _); sheet_value = c.requires.sheet_value }

pub returns-then-not-may_write : goal.returns-then-not-may_write
unfolding write_byte_of
returns-then-not-may_write c =
    let judged : c.may_write.result ≡ may_write c.args.cv c.args.value (effective_number c.args.self) c.args.self.bank c.args.sizes.now = cc in
    rw (sym judged ∙ c.if-not-may_write.true) (record { value = refl; store_after = refl })

pub role_of-role-requires : goal.role_of-role-requires
role_of-role-requires c = rw c.module_number-number.ensures (number_from _)

pub put-requires : goal.put-requires
put-requires c =
    λ o e. cell_within _ c.requires.store_value c.args.self.bank o (omega arith) (own_lt _ _ o (sym c.role_of-role.ensures ∙ e))

pub returns : goal.returns
unfolding write_byte_of
returns c =
    let judged : c.may_write.result ≡ may_write c.args.cv c.args.value (effective_number c.args.self) c.args.self.bank c.args.sizes.now = cc in
    rw (sym judged ∙ c.if-not-may_write.false, ← c.module_number-number.ensures, ← c.role_of-role.ensures)
    (record { value = rw c.with_value.ensures; store_after = c.put.ensures })
