use mathlib.Core.Path.{refl, sym, ◌∙◌}
use Rattle.command.proofs.Laws.{read_in_room}
use Rattle.effects.specs.Effects.{packet_effect, meaning_effect}
use Rattle.effects.proofs.tables.packet.Goals as goal

pub obey-requires : goal.obey-requires
obey-requires c =
    record { room_value = c.requires; room_of_numbers = read_in_room c.args.packet _ (sym c.decode.ensures ∙ c.in-Some.is) }

pub returns-in-Some : goal.returns-in-Some
unfolding packet_effect meaning_effect
returns-in-Some c =
    rw (sym c.decode.ensures ∙ c.in-Some.is) c.obey.ensures

pub returns-in-None : goal.returns-in-None
unfolding packet_effect meaning_effect
returns-in-None c =
    rw (sym c.decode.ensures ∙ c.in-None.is) (rw c.nothing.ensures refl)
