-- THE RECEIVER IS NO PART OF AN EFFECT: a command does with another receiver what it does, and leaves that receiver.
use mathlib.Core.Path.{◌≡◌, refl}
use lib.Dec.{eqb}
use Rattle.bits.proofs.Tests.{by}
use Rattle.line.specs.declared.packet.Packet.{Packet}
use Rattle.line.specs.declared.receiver.Receiver.{Receiver}
use Rattle.command.specs.declared.Command.{Command}
use Rattle.command.specs.declared.Command.TheVariants as C
use Rattle.std.specs.Prelude.{Option, Some, None}
use Rattle.command.specs.Meaning.{meaning_of}
use Rattle.store.specs.Sheet.{Sheets}
use Rattle.board.specs.declared.record.Half.{Half}
use Rattle.board.specs.declared.record.Half.TheVariants.{AddressHalf, StateHalf, PositionHalf}
use Rattle.board.specs.Board.{Board, kind_of, holds_half}
use Rattle.reactions.specs.Reactions.{Effect, receiving, second_half, bank_answers}
use Rattle.effects.specs.Effects.{effect_of, meaning_effect, packet_effect}

-- an effect with another receiver
abbrev pub moved : Effect → Receiver → Effect
moved e r = record { board = receiving e.board r; acknowledged = e.acknowledged; reply = e.reply }

module _ (b : Board) (r : Receiver) where
  second_moved : (half : Half) (acts : Effect) → second_half (receiving b r) half (moved acts r) ≡ moved (second_half b half acts) r
  unfolding second_half holds_half
  second_moved half acts = by (eqb (kind_of b.kept.half) (kind_of half)) (λ e. rw e) (λ e. rw e)

  -- any command
  pub effect_moved : (sheets : Sheets) (c : Command) → effect_of (receiving b r) sheets c ≡ moved (effect_of b sheets c) r
  unfolding effect_of bank_answers
  effect_moved sheets C.NoOperation = refl
  effect_moved sheets (C.ActualSpeed speed) = refl
  effect_moved sheets (C.WantedSpeed speed) = refl
  effect_moved sheets (C.Load load) = refl
  effect_moved sheets (C.AddressLow byte) = refl
  effect_moved sheets (C.AddressHigh byte) = second_moved AddressHalf _
  effect_moved sheets (C.FunctionsFrom0 on) = refl
  effect_moved sheets (C.FunctionsFrom5 on) = refl
  effect_moved sheets (C.FunctionsFrom13 on) = refl
  effect_moved sheets (C.FunctionsFrom21 on) = refl
  effect_moved sheets (C.Control control) = refl
  effect_moved sheets (C.ShortState number on) = refl
  effect_moved sheets (C.LongLow low on) = refl
  effect_moved sheets (C.LongHigh high) = second_moved StateHalf _
  effect_moved sheets (C.VerifyByte cv value) = refl
  effect_moved sheets (C.WriteByte cv value) = refl
  effect_moved sheets (C.VerifyBit cv place value) = refl
  effect_moved sheets (C.WriteBit cv place value) = refl
  effect_moved sheets (C.Call number forced status) = refl
  effect_moved sheets (C.BankRead number bank) = refl
  effect_moved sheets (C.ReadCv cv) = refl
  effect_moved sheets (C.PositionHigh high) = refl
  effect_moved sheets (C.PositionLow low) = second_moved PositionHalf _

  meant_moved : (sheets : Sheets) (m : Option Command) → meaning_effect (receiving b r) sheets m ≡ moved (meaning_effect b sheets m) r
  unfolding meaning_effect
  meant_moved sheets (Some c) = effect_moved sheets c
  meant_moved sheets None = refl

  pub packet_moved : (sheets : Sheets) (p : Packet) → packet_effect (receiving b r) sheets p ≡ moved (packet_effect b sheets p) r
  unfolding packet_effect
  packet_moved sheets p = meant_moved sheets (meaning_of p)
