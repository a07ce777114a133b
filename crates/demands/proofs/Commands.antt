-- What single commands and pairs come to when they are obeyed.
use Prim.Native.Nat.{ℕ, ◌+◌, ◌*◌, ◌/◌, ◌%◌, ◌≤◌, ◌<◌}
use mathlib.Core.Bool.{Bool, true}
use mathlib.Core.List.{List, [], ◌∷◌}
use mathlib.Core.Path.{◌≡◌, refl, sym, ◌∙◌, ap}
use native.Mathlib.Omega.{arith}
use lib.Dec.{eqb}
use borrow.Author.Tests.{eq-eqb, ne_eqb, eqb-true, eqb-false}
use Rattle.bits.proofs.Tests.{by}
use Rattle.bits.specs.Bits.{part_of, bit_at}
use Rattle.line.specs.declared.receiver.Receiver.{Receiver}
use Rattle.line.specs.Line.{packet_of2, idle_at}
use Rattle.line.specs.Wire.{Later, Unpaused, last_of}
use Rattle.command.specs.declared.Command.{Command}
use Rattle.command.specs.declared.Command.TheVariants.{AddressLow, AddressHigh, LongLow, LongHigh, BankRead}
use Rattle.command.specs.declared.pairs.Halves.{Halves}
use Rattle.command.specs.Pairs.{address_halves, long_halves}
use Rattle.command.specs.Saying.{has_room, state_byte, bank_first, packet_saying}
use Rattle.command.proofs.Fields.{number_read, on_read}
use Rattle.command.proofs.Room.{facts_room}
use Rattle.command.proofs.PairLaws.{address_room, long_room}
use Rattle.store.specs.Sheet.{Sheets, size_of}
use Rattle.store.specs.Store.{bank_cells}
use Rattle.cells.specs.Settings.{effective_number}
use Rattle.bank.specs.Reply.{reply_of}
use Rattle.states.specs.States.{with_long}
use Rattle.host.specs.Encode.{Encoded, encoded_of}
use Rattle.host.proofs.EncoderLaws.{taken}
use Rattle.board.specs.Board.{Board, kind_of, holds_half}
use Rattle.effects.specs.Effects as E
use Rattle.reactions.specs.Reactions as X
use Rattle.module.specs.Whole.{Story, story_with}
use Rattle.running.specs.Running.{ended, answering, answering_if}
use Rattle.demands.specs.Sending.{edge_count, SentBy, AllSent, at_last_edge, obeyed, pair_sent, TwoBytes, TwoBytesLater, left_with, unchanged, addressing, stateson_set, AllSentBy, obeyed_from}

-- a command of two bytes that has room is sent by 16 edges
module _ (r : Receiver) (c : Command) (times : List ℕ) (room : has_room c ≡ true) (short : (packet_saying c).length ≡ 2) where
  pub sixteen : edge_count (record { command = c; times = times }) ≡ 16
  sixteen = ap (λ (e : Encoded). 8 * e.packet.length) (taken c room) ∙ ap (λ (k : ℕ). 8 * k) short

  pub two_sent : TwoBytes r times → SentBy Unpaused r (record { command = c; times = times })
  two_sent two =
      record {
        accepted = ap (λ (e : Encoded). e.refusal) (taken c room);
        timed = two.timed ∙ sym sixteen;
        in_time = two.in_time;
      }

  pub two_sent_later : TwoBytesLater r times → SentBy Later r (record { command = c; times = times })
  two_sent_later two =
      record {
        accepted = ap (λ (e : Encoded). e.refusal) (taken c room);
        timed = two.timed ∙ sym sixteen;
        in_time = two.in_time;
      }

-- ---- pairs

-- the low half, of whose edges the first may be a pause, and the high one without a pause
abbrev pub PairSent : Receiver → Halves → List ℕ → List ℕ → Type 0
PairSent r halves low high =
    SentBy Later r (record { command = halves.low; times = low }) × AllSent (idle_at (last_of r.last low)) (record { command = halves.high; times = high } ∷ [])

-- both halves have two bytes
module _ (r : Receiver) (n : ℕ) (l h : Command) (low high : List ℕ) (l-room : has_room l ≡ true) (h-room : has_room h ≡ true)
    (l-two : (packet_saying l).length ≡ 2) (h-two : (packet_saying h).length ≡ 2) where
  pub pair_sent_lem : TwoBytesLater r low → TwoBytes (idle_at (last_of r.last low)) high → PairSent r (record { low = l; high = h }) low high
  unfolding AllSentBy
  pair_sent_lem a b = (two_sent_later r l low l-room l-two a, (two_sent (idle_at (last_of r.last low)) h high h-room h-two b, tt))

  pub pair_edges : n + edge_count (record { command = l; times = low }) + edge_count (record { command = h; times = high }) ≡ n + 32
  pair_edges = omega (arith, sixteen r l low l-room l-two, sixteen r h high h-room h-two)

module _ (b : Board) (sheets : Sheets) (n : ℕ) (low high : List ℕ) where
  abbrev last : ℕ
  last = last_of (last_of b.kept.receiver.last low) high

  -- a low half of a state waits, and its high half acts
  state_obeyed : (l h : ℕ) (on : Bool) (count : ℕ)
      → n + edge_count (record { command = LongLow l on; times = low }) + edge_count (record { command = LongHigh h; times = high }) ≡ count
      → obeyed b sheets n (pair_sent (record { low = LongLow l on; high = LongHigh h }) low high)
      ≡ ended (left_with b last (stateson_set b.states (128 * h + part_of (state_byte l on) 0 7) (eqb (bit_at (state_byte l on) 7) 1)) (with_long b.states (128 * h + part_of (state_byte l on) 0 7) (eqb (bit_at (state_byte l on) 7) 1))) count 0
  unfolding obeyed_from answering_if E.effect_of X.second_half kind_of holds_half
  state_obeyed l h on count e = ap (λ (k : ℕ). ended (left_with b last (stateson_set b.states (128 * h + part_of (state_byte l on) 0 7) (eqb (bit_at (state_byte l on) 7) 1)) (with_long b.states (128 * h + part_of (state_byte l on) 0 7) (eqb (bit_at (state_byte l on) 7) 1))) k 0) e

  address_obeyed : (l h count : ℕ)
      → n + edge_count (record { command = AddressLow l; times = low }) + edge_count (record { command = AddressHigh h; times = high }) ≡ count
      → obeyed b sheets n (pair_sent (record { low = AddressLow l; high = AddressHigh h }) low high)
      ≡ ended (left_with b last (addressing (256 * h + l)) b.states) count 0
  unfolding obeyed_from answering_if E.effect_of X.second_half kind_of holds_half
  address_obeyed l h count e = ap (λ (k : ℕ). ended (left_with b last (addressing (256 * h + l)) b.states) k 0) e

-- the halves of a state's number
module _ (number : ℕ) (on : Bool) (small : number ≤ 32767) where
  halves_room : (has_room (LongLow (number % 128) on) ≡ true) × (has_room (LongHigh (number / 128)) ≡ true)
  unfolding long_halves
  halves_room = long_room number on small

  pub state_pair_sent : (r : Receiver) (low high : List ℕ) → TwoBytesLater r low → TwoBytes (idle_at (last_of r.last low)) high → PairSent r (long_halves number on) low high
  unfolding packet_saying long_halves
  state_pair_sent r low high a b =
      pair_sent_lem r 0 (LongLow (number % 128) on) (LongHigh (number / 128)) low high halves_room.0 halves_room.1 refl refl a b

  pub state_pair_obeyed : (b : Board) (sheets : Sheets) (n : ℕ) (low high : List ℕ)
      → obeyed b sheets n (pair_sent (long_halves number on) low high)
      ≡ ended (left_with b (last_of (last_of b.kept.receiver.last low) high) (stateson_set b.states number on) (with_long b.states number on)) (n + 32) 0
  unfolding packet_saying long_halves
  state_pair_obeyed b sheets n low high =
      let count = pair_edges b.kept.receiver n (LongLow (number % 128) on) (LongHigh (number / 128)) low high halves_room.0 halves_room.1 refl refl in
      let whole : 128 * (number / 128) + number % 128 ≡ number = omega arith in
      let few : number % 128 < 128 = omega arith in
      state_obeyed b sheets n low high (number % 128) (number / 128) on (n + 32) count
      ∙ simp (number_read (number % 128) on few, on_read (number % 128) on few, whole)

-- the halves of an address
module _ (address : ℕ) (small : address < 65536) where
  pub address_pair_sent : (r : Receiver) (low high : List ℕ) → TwoBytesLater r low → TwoBytes (idle_at (last_of r.last low)) high → PairSent r (address_halves address) low high
  unfolding packet_saying address_halves
  address_pair_sent r low high a b =
      let room = address_room address small in
      pair_sent_lem r 0 (AddressLow (address % 256)) (AddressHigh (address / 256)) low high room.0 room.1 refl refl a b

  pub address_pair_obeyed : (b : Board) (sheets : Sheets) (n : ℕ) (low high : List ℕ)
      → obeyed b sheets n (pair_sent (address_halves address) low high)
      ≡ ended (left_with b (last_of (last_of b.kept.receiver.last low) high) (addressing address) b.states) (n + 32) 0
  unfolding packet_saying address_halves
  address_pair_obeyed b sheets n low high =
      let room = address_room address small in
      let count = pair_edges b.kept.receiver n (AddressLow (address % 256)) (AddressHigh (address / 256)) low high room.0 room.1 refl refl in
      let whole : 256 * (address / 256) + address % 256 ≡ address = omega arith in
      address_obeyed b sheets n low high (address % 256) (address / 256) (n + 32) count ∙ rw whole

-- ---- a bank read

module _ (number bank : ℕ) (from : 1 ≤ number) (to : number ≤ 3) (small : bank < 256) where
  bank_room : has_room (BankRead number bank) ≡ true
  bank_room = facts_room (BankRead number bank) ((from, to), small)

  pub bank_sent : (r : Receiver) (times : List ℕ) → TwoBytesLater r times → SentBy Later r (record { command = BankRead number bank; times = times })
  unfolding packet_saying
  bank_sent r times two = two_sent_later r (BankRead number bank) times bank_room refl two

  -- its packet: 0x0C, 0x0D, 0x0E for modules 1, 2, 3
  pub bank_packet : (encoded_of (BankRead number bank)).packet ≡ packet_of2 (0x0B + number) bank
  unfolding packet_saying bank_first
  bank_packet =
      ap (λ (e : Encoded). e.packet) (taken (BankRead number bank) bank_room)
      ∙ by (eqb number 1) (λ e. simp (e, eqb-true number 1 e))
      (λ e. by (eqb number 2) (λ f. simp (e, f, eqb-true number 2 f))
      (λ f. let third : number ≡ 3 = omega (arith, eqb-false number 1 e, eqb-false number 2 f) in simp third))

  module _ (b : Board) (sheets : Sheets) (n : ℕ) (times : List ℕ) where
    abbrev bank_left : Story
    bank_left = ended (left_with b (last_of b.kept.receiver.last times) unchanged b.states) (n + 16) 0

    pub bank_obeyed : obeyed b sheets n (record { command = BankRead number bank; times = times } ∷ [])
        ≡ story_with (X.bank_effect (at_last_edge b (last_of b.kept.receiver.last times)) sheets number bank) (n + 16) bank_left
    unfolding obeyed_from E.effect_of packet_saying
    bank_obeyed =
        ap (λ (k : ℕ). story_with (X.bank_effect (at_last_edge b (last_of b.kept.receiver.last times)) sheets number bank) (n + k)
        (ended (left_with b (last_of b.kept.receiver.last times) unchanged b.states) (n + k) 0))
        (sixteen b.kept.receiver (BankRead number bank) times bank_room refl)

    pub bank_answered : number ≡ effective_number b.kept.settings → (size_of sheets.sizes bank ≡ 0 → ⊥)
        → obeyed b sheets n (record { command = BankRead number bank; times = times } ∷ [])
        ≡ answering (n + 16) (reply_of (bank_cells b.store sheets bank)) bank_left
    unfolding answering_if X.bank_answers X.bytes_if
    bank_answered own some = bank_obeyed ∙ simp (eq-eqb number (effective_number b.kept.settings) own, ne_eqb (size_of sheets.sizes bank) 0 some)

    pub bank_silent : (number ≡ effective_number b.kept.settings → size_of sheets.sizes bank ≡ 0)
        → obeyed b sheets n (record { command = BankRead number bank; times = times } ∷ []) ≡ bank_left
    unfolding answering_if X.bank_answers
    bank_silent none =
        bank_obeyed
        ∙ by (eqb number (effective_number b.kept.settings)) (λ e. simp (e, eq-eqb (size_of sheets.sizes bank) 0 (none (eqb-true _ _ e)))) (λ e. simp e)
