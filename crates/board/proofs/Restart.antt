-- A module as it is made is what a restart leaves where CV 897 is 1 and CV 1021 is 0; both its control bits are 1.
use mathlib.Core.Path.{◌≡◌, refl}
use Rattle.board.specs.declared.record.Module.{Module}
use Rattle.board.specs.Board.{restarted_of, fresh_module}

pub new_is_restarted : (m : Module) → m.settings.number ≡ 1 → m.settings.bank ≡ 0 → restarted_of m ≡ fresh_module
unfolding restarted_of
new_is_restarted m number bank = simp (number, bank)

pub new_control : fresh_module.drive.control ≡ 3
new_control = refl
