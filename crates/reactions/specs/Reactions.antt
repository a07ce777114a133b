-- WHAT A COMPLETED COMMAND CAN DO to a board, kind by kind, and what it answers: document 01, "Commands" and "BiDi (001)"; C-12; C-05.
use Rattle.std.specs.Prelude.{ℕ, ◌+◌, ◌*◌, List, [], Bool, true, false, cond, ◌&&◌, not, eqb, length, Option, Some, None}
use Rattle.bits.specs.Bits.{part_of, bit_at}
use Rattle.line.specs.declared.receiver.Receiver.{Receiver}
use Rattle.drive.specs.declared.Drive.{Drive}
use Rattle.drive.specs.Drive.{with_address}
use Rattle.position.specs.declared.Position.{Position}
use Rattle.position.specs.Position.{position_of}
use Rattle.states.specs.States.{with_short, with_long, stateson_short, stateson_long}
use Rattle.store.specs.Sheet.{Sheets, size_of}
use Rattle.store.specs.Store.{bank_cells}
use Rattle.cells.specs.Settings.{AfterWrite, effective_number}
use Rattle.bank.specs.Reply.{reply_of, at_front}
use Rattle.bidi.specs.Bidi.{called_of}
use Rattle.bidi.specs.Read.{read_cv_of}
use Rattle.board.specs.declared.record.Half.{Half}
use Rattle.board.specs.declared.record.Half.TheVariants.{AddressHalf, StateHalf, PositionHalf}
use Rattle.board.specs.declared.record.Module.{Module}
use Rattle.board.specs.Board.{Board, board_of, with_receiver, with_half, with_drive, with_position, with_settings, with_bidi}
use Rattle.board.specs.Board.{with_states_on, without_half, holds_half}
use Rattle.reactions.specs.declared.reaction.Reaction as code

-- what a command leaves and answers: nothing, or an acknowledgement with its reply bytes
pub record Effect : Type 0 where
  pub board : Board
  pub acknowledged : Bool
  pub reply : List ℕ

-- the board is left so, and nothing is answered
abbrev pub silently : Board → Effect
silently b = record { board = b; acknowledged = false; reply = [] }

-- the board is left so; the answer is an acknowledgement, or nothing
abbrev pub acknowledging : Bool → Board → Effect
acknowledging acknowledged b = record { board = b; acknowledged = acknowledged; reply = [] }

-- the bytes of an answer, where there is one
unfoldable pub bytes_if : Bool → List ℕ → List ℕ
bytes_if acknowledged bytes = cond acknowledged bytes []

-- the board is left so; the answer is an acknowledgement with these bytes, or nothing
abbrev pub replying_with : Bool → List ℕ → Board → Effect
replying_with acknowledged bytes b = record { board = b; acknowledged = acknowledged; reply = bytes_if acknowledged bytes }

-- a board with another record; with another receiver; one whose held half is dropped
abbrev pub with_kept : Board → Module → Board
with_kept b m = board_of m b.states b.store

abbrev pub receiving : Board → Receiver → Board
receiving b r = with_kept b (with_receiver b.kept r)

abbrev pub halfless : Board → Board
halfless b = with_kept b (without_half b.kept)

-- "any other completed command, 0x00 too, drops a held half"
abbrev pub no_effect : Board → Effect
no_effect b = silently (halfless b)

-- the locomotive is told something
abbrev pub drive_effect : Board → Drive → Effect
drive_effect b d = silently (with_kept b (with_drive (without_half b.kept) d))

-- a position is heard
abbrev pub position_effect : Board → Position → Effect
position_effect b p = silently (with_kept b (with_position (without_half b.kept) (Some p)))

-- states are switched; C-05: and so many are on
abbrev pub states_effect : Board → ℕ → List ℕ → Effect
states_effect b stateson states = silently (board_of (with_states_on (without_half b.kept) stateson) states b.store)

abbrev pub short_effect : Board → ℕ → Bool → Effect
short_effect b number on = states_effect b (stateson_short b.kept.stateson b.states number on) (with_short b.states number on)

-- "a new low half replaces it" (C-12: of a position the high half)
abbrev pub half_effect : Board → Half → ℕ → Effect
half_effect b half byte = silently (with_kept b (with_half b.kept half byte))

-- "A high half acts only if its own low half was the command just before"; C-12: 0x88 "followed directly by" 0x89, "The same dropping
-- rules apply"
unfoldable pub second_half : Board → Half → Effect → Effect
second_half b half acts = cond (holds_half b.kept half) acts (no_effect b)

abbrev pub address_effect : Board → ℕ → Effect
address_effect b high = second_half b AddressHalf (drive_effect b (with_address b.kept.drive b.kept.halfbyte high))

-- "Long number = 128·H + low 7 bits"; bit 7 of the low half is D
abbrev pub long_effect : Board → ℕ → Effect
long_effect b high =
    let number = 128 * high + part_of b.kept.halfbyte 0 7 in
    let on = eqb (bit_at b.kept.halfbyte 7) 1 in
    second_half b StateHalf (states_effect b (stateson_long b.kept.stateson b.states number on) (with_long b.states number on))

-- C-12: the position is what both bytes say
abbrev pub position_low_effect : Board → ℕ → Effect
position_low_effect b low = second_half b PositionHalf (position_effect b (position_of b.kept.halfbyte low))

-- "Acknowledged: a verify that is true, a write that is done. Nothing else of these."
abbrev pub verify_effect : Board → Bool → Effect
verify_effect b is = acknowledging is (halfless b)

abbrev pub write_effect : Board → AfterWrite → Effect
write_effect b w =
    acknowledging w.written.done (board_of (with_settings (without_half b.kept) w.written.settings) b.states w.store)

-- 0x01
abbrev pub call_effect : Board → ℕ → Bool → ℕ → Effect
call_effect b number forced status =
    let c = called_of b.kept.bidi (effective_number b.kept.settings) number forced status in
    replying_with c.acknowledged c.reply (with_kept b (with_bidi (without_half b.kept) c.bidi))

-- "0x0C, 0x0D, 0x0E with a bank number (modules 1, 2, 3): acknowledged if that bank's size isn't 0; CV 1021 plays no part."
unfoldable pub bank_answers : Board → Sheets → ℕ → ℕ → Bool
bank_answers b sheets number bank = eqb number (effective_number b.kept.settings) && not (eqb (size_of sheets.sizes bank) 0)

abbrev pub bank_effect : Board → Sheets → ℕ → ℕ → Effect
bank_effect b sheets number bank = replying_with (bank_answers b sheets number bank) (reply_of (bank_cells b.store sheets bank)) (halfless b)

-- 0x0F
abbrev pub cv_effect : Board → Sheets → ℕ → Effect
cv_effect b sheets cv =
    let r = read_cv_of b.kept.settings cv b.store sheets in
    replying_with r.acknowledged r.reply (halfless b)

-- the bytes of a short reply and their count, where there is one
abbrev pub reply_bytes : Option (List ℕ) → List ℕ
reply_bytes None = []
reply_bytes (Some bytes) = bytes

abbrev pub reply_count : Option (List ℕ) → Option ℕ
reply_count None = None
reply_count (Some bytes) = Some (length bytes)

-- what a caller is told: the record, whether the command is acknowledged, and how many bytes the reply has
pub record Reaction : Type 0 where
  pub kept : Module
  pub acknowledged : Bool
  pub length : ℕ

-- the code's answer, said so. No two of them are told alike: law `told_once`
abbrev pub reacted_as : Module → Option ℕ → Reaction
reacted_as kept None = record { kept = kept; acknowledged = false; length = 0 }
reacted_as kept (Some length) = record { kept = kept; acknowledged = true; length = length }

abbrev pub told_of : code.Reaction → Reaction
told_of r = reacted_as r.kept r.reply

-- what a caller is told of an effect, beside the buffers
abbrev pub reaction_of : Effect → Reaction
reaction_of e = record { kept = e.board.kept; acknowledged = e.acknowledged; length = length e.reply }

-- all that a command leaves: what the caller is given, and the lent buffers; the reply stands at the front of the room
pub record AfterCommand : Type 0 where
  pub reaction : Reaction
  pub states : List ℕ
  pub store : List ℕ
  pub room : List ℕ

abbrev pub left : Reaction → List ℕ → List ℕ → List ℕ → AfterCommand
left r states store room = record { reaction = r; states = states; store = store; room = room }

abbrev pub leaves : Effect → List ℕ → AfterCommand
leaves e room = left (reaction_of e) e.board.states e.board.store (at_front e.reply room)
