-- A packet that was completed by a byte says nothing without room, whatever stands in its other places.
use Prim.Native.Nat.{ℕ, ◌-◌, ◌≤◌, ◌<◌}
use mathlib.Core.Path.{◌≡◌, refl}
use native.Mathlib.Omega.{arith}
use lib.Dec.{eqb}
use lib.ListN.{length, get_or-eq_default}
use borrow.Author.Tests.{eqb-true, eqb-false}
use Rattle.bits.proofs.Parts.{part_lt}
use Rattle.bits.proofs.Tests.{by}
use Rattle.line.specs.declared.packet.Packet.{Packet}
use Rattle.line.specs.Line.{packet_length}
use Rattle.command.specs.declared.Command.{Command}
use Rattle.std.specs.Prelude.{Some}
use Rattle.command.specs.Meaning.{byte_at, meaning_of, call_said}
use Rattle.command.specs.Room.{InRoom}
use Rattle.command.specs.Saying.{ThreeBytes}
use Rattle.command.proofs.BothWays.{shaped}
use Rattle.command.proofs.Fields.{bit_lt, functions_lt, cv_room}
use Rattle.command.proofs.Rows.{Rows, by_rows}

-- the last byte of a packet
abbrev pub LastByte : Packet → Type 0
LastByte p = byte_at p (p.length - 1) < 256

Roomy : ℕ → ℕ → ℕ → Command → Type 0
Roomy f s t c = (packet_length f ≡ 2 → s < 256) → (packet_length f ≡ 3 → t < 256) → InRoom c

rows_roomy : Rows Roomy
unfolding Roomy packet_length call_said
rows_roomy =
    record {
      no_operation = λ s t two three. tt;
      actual_speed = λ s t two three. two refl;
      wanted_speed = λ s t two three. two refl;
      load = λ s t l two three. l;
      address_low = λ s t two three. two refl;
      address_high = λ s t two three. two refl;
      functions_from_0 = λ s t two three. functions_lt s;
      functions_from_5 = λ s t two three. two refl;
      functions_from_13 = λ s t two three. two refl;
      functions_from_21 = λ s t two three. two refl;
      control = λ s t two three. part_lt s 0 2;
      short_state = λ s t two three. part_lt s 0 7;
      long_low = λ s t two three. part_lt s 0 7;
      long_high = λ s t two three. two refl;
      call = λ s t two three. (part_lt s 0 2, part_lt s 3 2);
      bank_read_1 = λ s t two three. ((omega arith, omega arith), two refl);
      bank_read_2 = λ s t two three. ((omega arith, omega arith), two refl);
      bank_read_3 = λ s t two three. ((omega arith, omega arith), two refl);
      read_cv = λ s t two three. (omega arith, let h : s < 256 = two refl in omega arith);
      verify_byte = λ s t b two three. (cv_room s, three refl);
      write_byte = λ s t b two three. (cv_room s, three refl);
      verify_bit = λ s t b top k two three. (cv_room s, (part_lt t 0 3, bit_lt t 3));
      write_bit = λ s t b top k two three. (cv_room s, (part_lt t 0 3, bit_lt t 3));
      position_high = λ s t l two three. l;
      position_low = λ s t two three. two refl;
    }

pub last_byte_room : (p : Packet) (c : Command) → LastByte p → meaning_of p ≡ Some c → InRoom c
unfolding Roomy
last_byte_room p c l h =
    let g = shaped p c h in
    by_rows Roomy rows_roomy (byte_at p 0) (byte_at p 1) (byte_at p 2) c g.2
    (λ e. let n : p.length ≡ 2 = rw e at g.0 in rw n at l) (λ e. let n : p.length ≡ 3 = rw e at g.0 in rw n at l)

-- three bytes, as every packet of the code has, are bytes in every place
pub bytes_last : (p : Packet) → ThreeBytes p → LastByte p
bytes_last p b = each (p.length - 1)
  where
    each : (i : ℕ) → byte_at p i < 256
    each i =
        by (eqb i 0) (λ e. rw (eqb-true i 0 e) b.first)
        (λ e. by (eqb i 1) (λ f. rw (eqb-true i 1 f) b.second)
        (λ f. by (eqb i 2) (λ g. rw (eqb-true i 2 g) b.third)
        (λ g. let n : length p.bytes ≤ i = omega (arith, b.three, eqb-false i 0 e, eqb-false i 1 f, eqb-false i 2 g) in
        rw (get_or-eq_default p.bytes 0 {n = i} n) (omega arith))))
