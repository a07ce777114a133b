-- The kinds of effects: what holds of each kind holds of every command and of every packet.
use Prim.Native.Nat.{ℕ}
use mathlib.Core.List.{List, []}
use mathlib.Core.Bool.{Bool, false}
use mathlib.Core.Path.{◌≡◌, refl}
use Rattle.line.specs.declared.packet.Packet.{Packet}
use Rattle.command.specs.declared.Command.{Command}
use Rattle.command.specs.declared.Command.TheVariants as C
use Rattle.std.specs.Prelude.{Option, Some, None}
use Rattle.command.specs.Meaning.{meaning_of}
use Rattle.drive.specs.declared.Drive.{Drive}
use Rattle.position.specs.declared.Position.{Position}
use Rattle.store.specs.Sheet.{Sheets}
use Rattle.cells.specs.Settings.{AfterWrite}
use Rattle.bidi.specs.Bidi.{Called}
use Rattle.board.specs.declared.record.Half.{Half}
use Rattle.board.specs.declared.record.Half.TheVariants.{AddressHalf, StateHalf, PositionHalf}
use Rattle.board.specs.Board.{Board, with_bidi, without_half}
use Rattle.reactions.specs.Reactions.{Effect, drive_effect, position_effect, states_effect, half_effect, second_half, verify_effect, write_effect}
use Rattle.reactions.specs.Reactions.{bytes_if, replying_with, with_kept, halfless}
use Rattle.reactions.proofs.Halves.{second_half_lem}
use Rattle.effects.specs.Effects.{effect_of, meaning_effect, packet_effect}

-- a fact of effects on a board, for each kind
pub record Kinds (b : Board) (P : Effect → Type 0) : Type 0 where
  pub of_drive_lem : (d : Drive) → P (drive_effect b d)
  pub of_position : (p : Position) → P (position_effect b p)
  pub of_half : (half : Half) (byte : ℕ) → P (half_effect b half byte)
  pub of_states : (stateson : ℕ) (states : List ℕ) → P (states_effect b stateson states)
  pub of_verify : (is : Bool) → P (verify_effect b is)
  pub of_write : (w : AfterWrite) → P (write_effect b w)
  pub of_call : (c : Called) → P (replying_with c.acknowledged c.reply (with_kept b (with_bidi (without_half b.kept) c.bidi)))
  pub of_read_lem : (acknowledged : Bool) (bytes : List ℕ) → P (replying_with acknowledged bytes (halfless b))

module _ (b : Board) (sheets : Sheets) (P : Effect → Type 0) (k : Kinds b P) where
  of_second : (half : Half) (acts : Effect) → P acts → P (second_half b half acts)
  of_second half acts p = second_half_lem b half acts P (k.of_verify false) (λ e. p)

  pub each_command : (c : Command) → P (effect_of b sheets c)
  unfolding effect_of
  each_command C.NoOperation = k.of_verify false
  each_command (C.ActualSpeed speed) = k.of_drive_lem _
  each_command (C.WantedSpeed speed) = k.of_drive_lem _
  each_command (C.Load load) = k.of_drive_lem _
  each_command (C.AddressLow byte) = k.of_half _ _
  each_command (C.AddressHigh byte) = of_second AddressHalf _ (k.of_drive_lem _)
  each_command (C.FunctionsFrom0 on) = k.of_drive_lem _
  each_command (C.FunctionsFrom5 on) = k.of_drive_lem _
  each_command (C.FunctionsFrom13 on) = k.of_drive_lem _
  each_command (C.FunctionsFrom21 on) = k.of_drive_lem _
  each_command (C.Control control) = k.of_drive_lem _
  each_command (C.ShortState number on) = k.of_states _ _
  each_command (C.LongLow low on) = k.of_half _ _
  each_command (C.LongHigh high) = of_second StateHalf _ (k.of_states _ _)
  each_command (C.VerifyByte cv value) = k.of_verify _
  each_command (C.WriteByte cv value) = k.of_write _
  each_command (C.VerifyBit cv place value) = k.of_verify _
  each_command (C.WriteBit cv place value) = k.of_write _
  each_command (C.Call number forced status) = k.of_call _
  each_command (C.BankRead number bank) = k.of_read_lem _ _
  each_command (C.ReadCv cv) = k.of_read_lem _ _
  each_command (C.PositionHigh high) = k.of_half _ _
  each_command (C.PositionLow low) = of_second PositionHalf _ (k.of_position _)

  each_meaning : (m : Option Command) → P (meaning_effect b sheets m)
  unfolding meaning_effect
  each_meaning (Some c) = each_command c
  each_meaning None = k.of_verify false

  pub each_packet : (p : Packet) → P (packet_effect b sheets p)
  unfolding packet_effect
  each_packet p = each_meaning (meaning_of p)

-- no effect touches the receiver
same_receiver : (b : Board) → Kinds b (λ (e : Effect). e.board.kept.receiver ≡ b.kept.receiver)
same_receiver b =
    record { of_drive_lem = λ d. refl; of_position = λ p. refl; of_half = λ h n. refl; of_states = λ n l. refl; of_verify = λ i. refl; of_write = λ w. refl; of_call = λ c. refl; of_read_lem = λ a l. refl }

pub receiver_stays : (b : Board) (sheets : Sheets) (c : Command) → (effect_of b sheets c).board.kept.receiver ≡ b.kept.receiver
receiver_stays b sheets = each_command b sheets _ (same_receiver b)

pub packet_receiver_stays : (b : Board) (sheets : Sheets) (p : Packet) → (packet_effect b sheets p).board.kept.receiver ≡ b.kept.receiver
packet_receiver_stays b sheets = each_packet b sheets _ (same_receiver b)

-- without an acknowledgement there is no reply
pub replied_none : (acknowledged : Bool) (bytes : List ℕ) → acknowledged ≡ false → bytes_if acknowledged bytes ≡ []
unfolding bytes_if
replied_none acknowledged bytes h = rw h

no_reply_lem : (b : Board) → Kinds b (λ (e : Effect). e.acknowledged ≡ false → e.reply ≡ [])
no_reply_lem b =
    record { of_drive_lem = λ d e. refl; of_position = λ p e. refl; of_half = λ h n e. refl; of_states = λ n l e. refl; of_verify = λ i e. refl; of_write = λ w e. refl; of_call = λ c. replied_none c.acknowledged c.reply; of_read_lem = λ a l. replied_none a l }

pub silent_no_reply : (b : Board) (sheets : Sheets) (c : Command) → (effect_of b sheets c).acknowledged ≡ false → (effect_of b sheets c).reply ≡ []
silent_no_reply b sheets = each_command b sheets _ (no_reply_lem b)

pub silent_packet_no_reply : (b : Board) (sheets : Sheets) (p : Packet) → (packet_effect b sheets p).acknowledged ≡ false → (packet_effect b sheets p).reply ≡ []
silent_packet_no_reply b sheets = each_packet b sheets _ (no_reply_lem b)
