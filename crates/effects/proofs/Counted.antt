-- C-05: A COMMAND AND THE NUMBER OF STATES ON. It moves by the difference, whatever it was; a long broadcast sets it.
use Prim.Native.Nat.{ℕ, ◌+◌, ◌*◌, ◌<◌}
use mathlib.Core.Bool.{Bool}
use mathlib.Core.List.{List}
use mathlib.Core.Logic.{◌⊎◌, inl, inr, ⊎_elim}
use mathlib.Core.Path.{◌≡◌, refl, sym, ◌∙◌, ap}
use native.Mathlib.Omega.{arith}
use lib.Dec.{eqb}
use lib.ListN.{length}
use borrow.Author.Tests.{eqb-true, eqb-false}
use Rattle.bits.specs.Bits.{part_of, bit_at}
use Rattle.bits.proofs.Parts.{part_lt}
use Rattle.bits.proofs.Tests.{by}
use Rattle.line.specs.declared.packet.Packet.{Packet}
use Rattle.command.specs.declared.Command.{Command}
use Rattle.command.specs.declared.Command.TheVariants as C
use Rattle.std.specs.Prelude.{Option, Some, None}
use Rattle.command.specs.Meaning.{meaning_of}
use Rattle.command.specs.Room.{InRoom}
use Rattle.states.specs.States.{states_on, moved_by, with_long, stateson_long}
use Rattle.states.proofs.Counted.{on_at_most, unmoved, moved_lt, true_moved, short_moves, long_moves, long_sets}
use Rattle.store.specs.Sheet.{Sheets}
use Rattle.board.specs.declared.record.Half.{Half}
use Rattle.board.specs.declared.record.Half.TheVariants.{StateHalf}
use Rattle.board.specs.Board.{Board, NumberTrue}
use Rattle.board.proofs.Halves.{is_held}
use Rattle.reactions.specs.Reactions.{Effect, no_effect, second_half, states_effect}
use Rattle.effects.specs.Effects.{effect_of, meaning_effect, packet_effect}
use Rattle.effects.specs.Frames.{SetsStates, short_state, long_state_lem, LongBroadcast, all_long, NumberMoved, SaysOne}
use Rattle.effects.proofs.Frames.{switching_frame}
use Rattle.effects.proofs.LastByte.{LastByte, last_byte_room}

-- the number that a long pair makes
abbrev long_number : Board → ℕ → ℕ
long_number b high = 128 * high + part_of b.kept.halfbyte 0 7

-- two boards with the same states and the same number: it moved by nothing
pub still_moved : (b after : Board) → b.kept.stateson < 65536 → after.states ≡ b.states → after.kept.stateson ≡ b.kept.stateson → NumberMoved b after
still_moved b after small same number =
    number ∙ sym (unmoved b.kept.stateson (states_on b.states) small (omega (arith, on_at_most b.states)))
    ∙ ap (λ (s : List ℕ). moved_by b.kept.stateson (states_on b.states) (states_on s)) (sym same)

module _ (b : Board) (sheets : Sheets) (long : length b.states ≡ 4096) (small : b.kept.stateson < 65536) where
  -- what is to be shown of an effect
  abbrev pub Counted : Command → Effect → Type 0
  Counted c e = NumberMoved b e.board ⊎ (LongBroadcast b.kept.half b.kept.halfbyte c × NumberTrue e.board.kept e.board.states)

  -- a long command where its low half is held: both halves make a state's number, or 0 for all
  module _ (high : ℕ) (byte : high < 256) (held : b.kept.half ≡ StateHalf) where
    abbrev on : Bool
    on = eqb (bit_at b.kept.halfbyte 7) 1

    abbrev number : ℕ
    number = long_number b high

    fits_long : number < 32768
    fits_long = omega (arith, part_lt b.kept.halfbyte 0 7)

    broadcast : number ≡ 0 → LongBroadcast b.kept.half b.kept.halfbyte (C.LongHigh high)
    broadcast none =
        let upper : high ≡ 0 = omega (arith, none) in
        let lower : part_of b.kept.halfbyte 0 7 ≡ 0 = omega (arith, none) in
        rw (held, upper) (all_long b.kept.halfbyte lower)

    long_set : number ≡ 0 → stateson_long b.kept.stateson b.states number on ≡ states_on (with_long b.states number on)
    long_set none = rw none (long_sets b.states long on b.kept.stateson)

    long_counted : Counted (C.LongHigh high) (states_effect b (stateson_long b.kept.stateson b.states number on) (with_long b.states number on))
    long_counted =
        by (eqb number 0) (λ e. inr (broadcast (eqb-true _ _ e), long_set (eqb-true _ _ e)))
        (λ e. inl (long_moves b.states long on b.kept.stateson number (eqb-false _ _ e) fits_long))

  switches : (c : Command) → InRoom c → (half : Half) → b.kept.half ≡ half → SetsStates half c → Counted c (effect_of b sheets c)
  unfolding effect_of second_half
  switches c fits half held (short_state number on) = inl (short_moves b.states long on b.kept.stateson number fits)
  switches c fits half held (long_state_lem high) = rw (is_held b.kept StateHalf held) (long_counted high fits held)

  -- EVERY COMMAND whose numbers have room
  pub command_counted : (c : Command) → InRoom c → Counted c (effect_of b sheets c)
  command_counted c fits =
      ⊎_elim (λ same. inl (still_moved b (effect_of b sheets c).board small same.0 same.1)) (switches c fits b.kept.half refl) (switching_frame b sheets c)

  -- and the number has 16 bits again
  pub command_small : (c : Command) → InRoom c → (effect_of b sheets c).board.kept.stateson < 65536
  command_small c fits =
      ⊎_elim (λ moved. rw moved (moved_lt _ _ _)) (λ set. rw set.1 (omega (arith, on_at_most (effect_of b sheets c).board.states))) (command_counted c fits)

-- a true number stays true
pub moved_true : (b after : Board) → NumberTrue b.kept b.states → NumberMoved b after → NumberTrue after.kept after.states
moved_true b after true moved =
    moved ∙ ap (λ (n : ℕ). moved_by n (states_on b.states) (states_on after.states)) true
    ∙ true_moved (states_on b.states) (states_on after.states) (omega (arith, on_at_most b.states)) (omega (arith, on_at_most after.states))

-- a long broadcast sets it, whatever it was
pub broadcast_true : (b : Board) (sheets : Sheets) → length b.states ≡ 4096 → (half : Half) (byte : ℕ) (c : Command) → LongBroadcast half byte c
    → b.kept.half ≡ half → b.kept.halfbyte ≡ byte → NumberTrue (effect_of b sheets c).board.kept (effect_of b sheets c).board.states
unfolding effect_of second_half
broadcast_true b sheets long half byte c (all_long low none) held its =
    let zeroth : long_number b 0 ≡ 0 = omega (arith, ap (λ (x : ℕ). part_of x 0 7) its, none) in
    rw (is_held b.kept StateHalf held) (rw zeroth (long_sets b.states long (eqb (bit_at b.kept.halfbyte 7) 1) b.kept.stateson))

-- EVERY PACKET that was completed by a byte, whatever it says: the number moves, or the packet says a long broadcast
module _ (b : Board) (sheets : Sheets) (long : length b.states ≡ 4096) (small : b.kept.stateson < 65536) (p : Packet) (l : LastByte p) where
  abbrev PacketCounted : Effect → Type 0
  PacketCounted e =
      (NumberMoved b e.board ⊎ (SaysOne p (LongBroadcast b.kept.half b.kept.halfbyte) × NumberTrue e.board.kept e.board.states)) × (e.board.kept.stateson < 65536)

  meant_counted : (m : Option Command) → meaning_of p ≡ m → PacketCounted (meaning_effect b sheets m)
  unfolding meaning_effect
  meant_counted (Some c) e =
      let fits = last_byte_room p c l e in (
        ⊎_elim inl (λ set. inr (record { command = c; says = e; kind = set.0 }, set.1)) (command_counted b sheets long small c fits),
        command_small b sheets long small c fits,
      )
  meant_counted None e = (inl (still_moved b (no_effect b).board small refl refl), small)

  pub packet_counted : PacketCounted (packet_effect b sheets p)
  unfolding packet_effect
  packet_counted = meant_counted (meaning_of p) refl
