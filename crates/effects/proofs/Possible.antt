-- WHAT A COMPLETED COMMAND LEAVES IS RIGHT AGAIN: a possible record, buffers of their lengths, a reply of at most 84 bytes.
use Prim.Native.Nat.{ℕ, ◌≤◌, ◌<◌}
use mathlib.Core.List.{List}
use mathlib.Core.Bool.{Bool, true, false}
use mathlib.Core.Path.{◌≡◌, refl, ◌∙◌}
use native.Mathlib.Omega.{arith}
use native.Mathlib.Nat.{min-le_left}
use lib.Dec.{leb, eqb, lit<}
use lib.ListN.{length, length-set, length-take}
use borrow.Author.Tests.{le-leb}
use Rattle.bits.proofs.Tests.{by}
use Rattle.line.specs.declared.packet.Packet.{Packet}
use Rattle.command.specs.declared.Command.{Command}
use Rattle.command.specs.declared.Command.TheVariants as C
use Rattle.std.specs.Prelude.{Option, Some, None}
use Rattle.command.specs.Meaning.{meaning_of}
use Rattle.command.specs.Room.{InRoom}
use Rattle.command.specs.Saying.{state_byte, ThreeBytes}
use Rattle.effects.proofs.LastByte.{LastByte, last_byte_room, bytes_last}
use Rattle.drive.specs.declared.Drive.{Drive}
use Rattle.drive.specs.Drive.{drive_possible}
use Rattle.drive.proofs.Laws.{actual_possible, wanted_possible, load_possible, address_possible, functions_possible, control_possible}
use Rattle.position.specs.declared.Position.{Position}
use Rattle.position.specs.Position.{position_possible}
use Rattle.position.proofs.Laws.{heard_possible}
use Rattle.states.specs.States.{with_state, with_states}
use Rattle.states.proofs.All.{all_length}
use Rattle.store.specs.Sheet.{Sheets, lengths_hold, sheets_hold, leading_of}
use Rattle.store.specs.Store.{used_cells, bank_cells}
use Rattle.store.proofs.Sizes.{leading_at_most}
use Rattle.cells.specs.declared.settings.Settings.{Settings}
use Rattle.cells.specs.Settings.{AfterWrite, settings_possible, effective_number, write_byte_of, write_bit_of}
use Rattle.cells.proofs.Laws.{write_possible, lengths_kept}
use Rattle.cells.proofs.BitLaws.{bit_possible, bit_lengths_kept}
use Rattle.bank.specs.Reply.{at_front}
use Rattle.bank.proofs.Laws.{at_most_84}
use Rattle.bank.proofs.Lists.{front_length}
use Rattle.bidi.specs.declared.record.Bidi.{Bidi}
use Rattle.slots.specs.Slots.{oldest as oldest_entry}
use Rattle.bidi.specs.Bidi.{Called, bidi_possible, forced_reply, called_of}
use Rattle.bidi.specs.Read.{read_cv_of, answers}
use Rattle.bidi.proofs.Calls.{call_cases}
use Rattle.bidi.proofs.Possible.{call_possible}
use Rattle.bidi.proofs.Reading.{read_four}
use Rattle.board.specs.declared.record.Half.{Half}
use Rattle.board.specs.declared.record.Half.TheVariants.{AddressHalf, StateHalf, PositionHalf}
use Rattle.board.specs.declared.record.Module.{Module}
use Rattle.board.specs.Board.{Board, half_possible, module_possible, with_bidi, without_half, board_refusal}
use Rattle.board.proofs.Checked.{Right, right, passed, states_long, lengths_right, room_long}
use Rattle.board.proofs.Parts.{Parts, apart, buffers_hold_lem, half_set_lem, drive_set, position_set, settings_set, bidi_set, stateson_set_lem, half_dropped}
use Rattle.reactions.specs.Reactions.{Effect, no_effect, drive_effect, position_effect, states_effect, half_effect, second_half, verify_effect, write_effect}
use Rattle.reactions.specs.Reactions.{bytes_if, replying_with, with_kept, halfless}
use Rattle.reactions.proofs.Halves.{second_half_lem}
use Rattle.effects.specs.Effects.{effect_of, meaning_effect, packet_effect}

-- what is to be shown of an effect
pub record Sound (sheets : Sheets) (e : Effect) : Type 0 where
  pub possible : module_possible e.board.kept ≡ true
  pub states_stay_long : length e.board.states ≡ 4096
  pub store_stays_long : lengths_hold e.board.store sheets ≡ true
  pub short : length e.reply ≤ 84

-- a command for states keeps their length, whatever its number
states_length : (count : ℕ) (states : List ℕ) (n : ℕ) (on : Bool) → 0 < count → count ≤ length states → length (with_states count states n on) ≡ length states
unfolding with_states with_state
states_length count states n on some fits = by (eqb n 0) (λ e. rw e (all_length states count on some fits)) (λ e. rw e (simp length-set))

few_cells : (store : List ℕ) (sheets : Sheets) (bank : ℕ) → sheets_hold sheets ≡ true → length (bank_cells store sheets bank) ≤ 40
unfolding bank_cells
few_cells store sheets bank h = simp length-take (omega (arith, leading_at_most sheets h bank, min-le_left (leading_of sheets.sizes bank) (length (used_cells store sheets bank))))

-- the bytes of a reply are there where it is acknowledged, and else none
replied_short : (acknowledged : Bool) (bytes : List ℕ) → length bytes ≤ 84 → length (bytes_if acknowledged bytes) ≤ 84
unfolding bytes_if
replied_short true bytes h = h
replied_short false bytes h = omega arith

-- a call's reply is of four bytes, or of the fewer that a short queue has
call_short : (b : Bidi) (own number : ℕ) (forced : Bool) (status : ℕ) → length (called_of b own number forced status).reply ≤ 84
unfolding forced_reply oldest_entry
call_short b own number forced status =
    call_cases b own number forced status (λ (r : Called). length r.reply ≤ 84) (omega arith)
    (λ f. by (leb status 1) (λ e. rw e (omega arith)) (λ e. rw e (omega arith)))
    (λ f q. simp length-take (omega (arith, min-le_left 4 (length b.queue)))) (λ f q r. omega arith)

cv_short : (s : Settings) (cv : ℕ) (store : List ℕ) (sheets : Sheets) → length (read_cv_of s cv store sheets).reply ≤ 84
unfolding read_cv_of
cv_short s cv store sheets = by (answers s cv) (λ e. rw e (omega (arith, read_four s cv store sheets))) (λ e. rw e (omega arith))

-- each kind of effect
module _ (b : Board) (sheets : Sheets) (room : List ℕ) (r : Right b sheets room) where
  parts : Parts b.kept
  parts = apart b.kept r.possible

  four_thousand : length b.states ≡ 4096
  four_thousand = states_long b.states b.store sheets room r.buffers

  long_lists : lengths_hold b.store sheets ≡ true
  long_lists = lengths_right b.states b.store sheets room r.buffers

  -- a record that is possible, with a reply that is short
  kept_sound : (m : Module) (acknowledged : Bool) (reply : List ℕ) → module_possible m ≡ true → length reply ≤ 84
      → Sound sheets (record { board = with_kept b m; acknowledged = acknowledged; reply = reply })
  kept_sound m acknowledged reply p short = record { possible = p; states_stay_long = four_thousand; store_stays_long = long_lists; short = short }

  dropped : module_possible (without_half b.kept) ≡ true
  dropped = half_dropped b.kept r.possible

  nothing_sound : Sound sheets (no_effect b)
  nothing_sound = kept_sound _ _ _ dropped (omega arith)

  drive_sound : (d : Drive) → drive_possible d ≡ true → Sound sheets (drive_effect b d)
  drive_sound d h = kept_sound _ _ _ (drive_set _ dropped d h) (omega arith)

  position_sound : (p : Position) → position_possible (Some p) ≡ true → Sound sheets (position_effect b p)
  position_sound p h = kept_sound _ _ _ (position_set _ dropped (Some p) h) (omega arith)

  half_sound : (half : Half) (byte : ℕ) → half_possible half byte ≡ true → Sound sheets (half_effect b half byte)
  half_sound half byte h = kept_sound _ _ _ (half_set_lem b.kept r.possible half byte h) (omega arith)

  states_sound : (stateson : ℕ) (states : List ℕ) → length states ≡ 4096 → Sound sheets (states_effect b stateson states)
  states_sound stateson states h = record { possible = stateson_set_lem _ dropped stateson; states_stay_long = h; store_stays_long = long_lists; short = omega arith }

  verify_sound : (is : Bool) → Sound sheets (verify_effect b is)
  verify_sound is = kept_sound _ _ _ dropped (omega arith)

  write_sound : (w : AfterWrite) → settings_possible w.written.settings ≡ true → lengths_hold w.store sheets ≡ true → Sound sheets (write_effect b w)
  write_sound w p l =
      record { possible = settings_set _ dropped _ p; states_stay_long = four_thousand; store_stays_long = l; short = omega arith }

  call_sound : (c : Called) → bidi_possible c.bidi ≡ true → length c.reply ≤ 84
      → Sound sheets (replying_with c.acknowledged c.reply (with_kept b (with_bidi (without_half b.kept) c.bidi)))
  call_sound c p l = kept_sound _ _ _ (bidi_set _ dropped _ p) (replied_short c.acknowledged c.reply l)

  reply_sound : (acknowledged : Bool) (bytes : List ℕ) → length bytes ≤ 84 → Sound sheets (replying_with acknowledged bytes (halfless b))
  reply_sound acknowledged bytes l = kept_sound _ _ _ dropped (replied_short acknowledged bytes l)

  second_sound : (half : Half) (acts : Effect) → Sound sheets acts → Sound sheets (second_half b half acts)
  second_sound half acts s = second_half_lem b half acts (Sound sheets) nothing_sound (λ e. s)

  -- every command whose numbers have room
  pub effect_sound : (c : Command) → InRoom c → Sound sheets (effect_of b sheets c)
  unfolding effect_of half_possible
  effect_sound C.NoOperation t = nothing_sound
  effect_sound (C.ActualSpeed speed) t = drive_sound _ (actual_possible b.kept.drive parts.driven speed)
  effect_sound (C.WantedSpeed speed) t = drive_sound _ (wanted_possible b.kept.drive parts.driven speed)
  effect_sound (C.Load load) t = drive_sound _ (load_possible b.kept.drive parts.driven load t)
  effect_sound (C.AddressLow byte) t = half_sound AddressHalf byte refl
  effect_sound (C.AddressHigh byte) t = second_sound AddressHalf _ (drive_sound _ (address_possible b.kept.drive parts.driven b.kept.halfbyte byte))
  effect_sound (C.FunctionsFrom0 on) t = drive_sound _ (functions_possible b.kept.drive parts.driven 0 5 on (omega arith) t)
  effect_sound (C.FunctionsFrom5 on) t = drive_sound _ (functions_possible b.kept.drive parts.driven 5 8 on (omega arith) t)
  effect_sound (C.FunctionsFrom13 on) t = drive_sound _ (functions_possible b.kept.drive parts.driven 13 8 on (omega arith) t)
  effect_sound (C.FunctionsFrom21 on) t = drive_sound _ (functions_possible b.kept.drive parts.driven 21 8 on (omega arith) t)
  effect_sound (C.Control control) t = drive_sound _ (control_possible b.kept.drive parts.driven control t)
  effect_sound (C.ShortState number on) t =
      states_sound _ _ (states_length 16 b.states number on (lit< tt) (omega (arith, four_thousand)) ∙ four_thousand)
  effect_sound (C.LongLow low on) t = half_sound StateHalf (state_byte low on) refl
  effect_sound (C.LongHigh high) t =
      second_sound StateHalf _ (states_sound _ _ (states_length 4096 b.states _ _ (lit< tt) (omega (arith, four_thousand)) ∙ four_thousand))
  effect_sound (C.VerifyByte cv value) t = verify_sound _
  effect_sound (C.WriteByte cv value) t =
      write_sound (write_byte_of b.kept.settings cv value b.store sheets.sizes) (write_possible b.kept.settings cv value b.store sheets.sizes parts.set_up)
      (lengths_kept b.kept.settings cv value b.store sheets.sizes sheets.fixed long_lists)
  effect_sound (C.VerifyBit cv place value) t = verify_sound _
  effect_sound (C.WriteBit cv place value) t =
      write_sound (write_bit_of b.kept.settings cv place value b.store sheets) (bit_possible b.kept.settings cv place value b.store sheets parts.set_up)
      (bit_lengths_kept b.kept.settings cv place value b.store sheets long_lists)
  effect_sound (C.Call number forced status) t =
      call_sound (called_of b.kept.bidi (effective_number b.kept.settings) number forced status)
      (call_possible b.kept.bidi (effective_number b.kept.settings) number forced status parts.queued_up)
      (call_short b.kept.bidi (effective_number b.kept.settings) number forced status)
  effect_sound (C.BankRead number bank) t = reply_sound _ _ (at_most_84 (bank_cells b.store sheets bank) (few_cells b.store sheets bank r.sheeted))
  effect_sound (C.ReadCv cv) t = reply_sound _ _ (cv_short b.kept.settings cv b.store sheets)
  effect_sound (C.PositionHigh high) t = half_sound PositionHalf high (le-leb high 15 (omega arith))
  effect_sound (C.PositionLow low) t = second_sound PositionHalf _ (position_sound _ (heard_possible b.kept.halfbyte low t))

  -- and every packet that was completed by a byte, whatever it says
  meant_sound : (p : Packet) → LastByte p → (m : Option Command) → meaning_of p ≡ m → Sound sheets (meaning_effect b sheets m)
  unfolding meaning_effect
  meant_sound p l (Some c) e = effect_sound c (last_byte_room p c l e)
  meant_sound p l None e = nothing_sound

  pub packet_sound : (p : Packet) → LastByte p → Sound sheets (packet_effect b sheets p)
  unfolding packet_effect
  packet_sound p l = meant_sound p l (meaning_of p) refl

-- so board and room are right again, with the reply at the room's front and without it
module _ (b : Board) (sheets : Sheets) (room : List ℕ) (r : Right b sheets room) (e : Effect) (s : Sound sheets e) where
  enough : 84 ≤ length room
  enough = room_long b.states b.store sheets room r.buffers

  pub room_stays : length (at_front e.reply room) ≡ length room
  room_stays = front_length e.reply room (omega (arith, s.short, enough))

  pub sound_right : Right e.board sheets room
  sound_right = record { possible = s.possible; buffers = buffers_hold_lem _ _ sheets room s.states_stay_long s.store_stays_long enough; sheeted = r.sheeted }

  pub sound_right_replied : Right e.board sheets (at_front e.reply room)
  sound_right_replied =
      record { possible = s.possible; buffers = buffers_hold_lem _ _ sheets (at_front e.reply room) s.states_stay_long s.store_stays_long (rw room_stays enough); sheeted = r.sheeted }

-- THE LAWS OF A COMMAND whose numbers have room: those that the encoder takes and those that a packet says
module _ (b : Board) (sheets : Sheets) (room : List ℕ) (c : Command) (r : Right b sheets room) (fits : InRoom c) where
  command_sound : Sound sheets (effect_of b sheets c)
  command_sound = effect_sound b sheets room r c fits

  pub effect_right : Right (effect_of b sheets c).board sheets room
  effect_right = sound_right b sheets room r _ command_sound

  pub effect_right_replied : Right (effect_of b sheets c).board sheets (at_front (effect_of b sheets c).reply room)
  effect_right_replied = sound_right_replied b sheets room r _ command_sound

  pub reply_short : length (effect_of b sheets c).reply ≤ 84
  reply_short = command_sound.short

-- THE LAWS OF A PACKET, whatever it says, that was completed by a byte
module _ (b : Board) (sheets : Sheets) (room : List ℕ) (p : Packet) (l : LastByte p) where
  heard_sound : Right b sheets room → Sound sheets (packet_effect b sheets p)
  heard_sound r = packet_sound b sheets room r p l

  pub packet_right : Right b sheets room → Right (packet_effect b sheets p).board sheets room
  packet_right r = sound_right b sheets room r _ (heard_sound r)

  pub packet_right_replied : Right b sheets room → Right (packet_effect b sheets p).board sheets (at_front (packet_effect b sheets p).reply room)
  packet_right_replied r = sound_right_replied b sheets room r _ (heard_sound r)

  pub packet_reply_short : Right b sheets room → length (packet_effect b sheets p).reply ≤ 84
  packet_reply_short r = (heard_sound r).short

  -- as the check says it: 0 before, 0 after
  pub packet_checked : board_refusal b sheets room ≡ 0
      → board_refusal (packet_effect b sheets p).board sheets (at_front (packet_effect b sheets p).reply room) ≡ 0
  packet_checked h = passed _ sheets _ (packet_right_replied (right b sheets room h))

-- a packet of three bytes is one such: what `effects::packet` is handed
pub bytes_checked : (b : Board) (sheets : Sheets) (room : List ℕ) (p : Packet) → ThreeBytes p → board_refusal b sheets room ≡ 0
    → board_refusal (packet_effect b sheets p).board sheets (at_front (packet_effect b sheets p).reply room) ≡ 0
bytes_checked b sheets room p three h = packet_checked b sheets room p (bytes_last p three) h
