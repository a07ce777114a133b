-- Row by row: what Laws.antt says of all commands and all packets.
use Prim.Native.Nat.{ℕ, ◌+◌, ◌-◌, ◌≤◌, ◌<◌}
use mathlib.Core.Path.{◌≡◌, refl, ◌∙◌, ap}
use mathlib.Core.Bool.{true, cond, ◌||◌}
use mathlib.Core.List.{List, [], ◌∷◌}
use native.Mathlib.Omega.{arith}
use lib.Dec.{eqb}
use lib.ListN.{length, get_or}
use borrow.Author.Tests.{eqb-true, eqb-false, lt-ltb, le-leb}
use Rattle.bits.specs.Bits.{part_of}
use Rattle.bits.proofs.Parts.{part_lt, whole}
use Rattle.bits.proofs.Tests.{by, and_left, and_right}
use Rattle.line.specs.declared.packet.Packet.{Packet}
use Rattle.line.specs.Line.{packet_length, packet_of2, packet_of3}
use Rattle.std.proofs.Common.{Some, None}
use Rattle.command.specs.declared.Command.{Command}
use Rattle.command.specs.declared.Command.TheVariants.{NoOperation, ActualSpeed, WantedSpeed, Load, AddressLow, AddressHigh, FunctionsFrom0, FunctionsFrom5, FunctionsFrom13, FunctionsFrom21, Control, ShortState, LongLow, LongHigh, VerifyByte, WriteByte, VerifyBit, WriteBit, Call, BankRead, ReadCv, PositionHigh, PositionLow}
use Rattle.command.specs.Meaning.{byte_at, is_packet, load_of, call_said, bit7, cv_of, of_cv, bit_form, position_high_of, said_by, meaning_of}
use Rattle.command.specs.Saying.{has_room, cv_byte, bit_byte, bank_first, packet_saying, bits_read, unread_cleared, ThreeBytes}
use Rattle.command.specs.Room.{RoomOf}
use Rattle.command.proofs.Room.{room_facts}
use Rattle.command.proofs.Fields.{bit_lt, functions_read, functions_written, functions_lt, functions_fit, number_read, on_read, state_written, state_fits, call_read, call_written, call_fits, cv_read, cv_marked, cv_fits, cv_written, cv_room, bit_read, bit_written_lem, bit_fits}
use Rattle.command.proofs.Rows.{Rows, row, never, by_rows}

-- the packet of a command that has room means that command
bit_said : (k cv place value : ℕ) → k < 2 → 897 ≤ cv → cv ≤ 1024 → place < 8 → value < 2
    → bit_form (bit7 (cv_byte cv)) (cv_of (cv_byte cv)) (bit_byte k value place) ≡ cond (eqb k 0) (Some (VerifyBit cv place value)) (Some (WriteBit cv place value))
unfolding bit_form of_cv
bit_said k cv place value hk l h hp hv =
    let b = bit_read k value place hk hv hp in
    simp (b.0, b.1, b.2, b.3, cv_marked cv l h, cv_read cv l h)

bank_said : (asked bank : ℕ) → 1 ≤ asked → asked ≤ 3 → meaning_of (packet_saying (BankRead asked bank)) ≡ Some (BankRead asked bank)
unfolding meaning_of is_packet packet_length said_by packet_saying bank_first
bank_said asked bank l h =
    by (eqb asked 1) (λ e. rw (eqb-true asked 1 e) refl)
    (λ e. by (eqb asked 2) (λ f. rw (eqb-true asked 2 f) refl)
    (λ f. let three : asked ≡ 3 = omega (arith, eqb-false asked 1 e, eqb-false asked 2 f) in rw three refl))

pub said : (c : Command) → has_room c ≡ true → meaning_of (packet_saying c) ≡ Some c
unfolding meaning_of is_packet packet_length said_by packet_saying load_of call_said of_cv position_high_of
said NoOperation h = refl
said (ActualSpeed speed) h = refl
said (WantedSpeed speed) h = refl
said (Load load) h = simp (lt-ltb load 128 (room_facts (Load load) h))
said (AddressLow half) h = refl
said (AddressHigh half) h = refl
said (FunctionsFrom0 set) h = simp (functions_read set (room_facts (FunctionsFrom0 set) h))
said (FunctionsFrom5 set) h = refl
said (FunctionsFrom13 set) h = refl
said (FunctionsFrom21 set) h = refl
said (Control control) h = ap (λ (n : ℕ). Some (Control n)) (whole control 2 (room_facts (Control control) h))
said (ShortState number on) h = let r = room_facts (ShortState number on) h in simp (number_read number on r, on_read number on r)
said (LongLow low on) h = let r = room_facts (LongLow low on) h in simp (number_read low on r, on_read low on r)
said (LongHigh high) h = refl
said (VerifyByte cv value) h = let r = room_facts (VerifyByte cv value) h in simp (cv_marked cv r.0.0 r.0.1, cv_read cv r.0.0 r.0.1)
said (WriteByte cv value) h = let r = room_facts (WriteByte cv value) h in simp (cv_marked cv r.0.0 r.0.1, cv_read cv r.0.0 r.0.1)
said (VerifyBit cv place value) h =
    let r = room_facts (VerifyBit cv place value) h in
    bit_said 0 cv place value (omega arith) r.0.0 r.0.1 r.1.0 r.1.1
said (WriteBit cv place value) h =
    let r = room_facts (WriteBit cv place value) h in
    bit_said 1 cv place value (omega arith) r.0.0 r.0.1 r.1.0 r.1.1
said (Call called forced status) h =
    let r = room_facts (Call called forced status) h in
    let b = call_read called forced status r.0 r.1 in
    simp (b.0, b.1, b.2)
said (BankRead asked bank) h = let r = room_facts (BankRead asked bank) h in bank_said asked bank r.0.0 r.0.1
said (ReadCv cv) h = let r = room_facts (ReadCv cv) h in ap (λ (n : ℕ). Some (ReadCv n)) (omega arith)
said (PositionHigh high) h = let r = room_facts (PositionHigh high) h in simp (le-leb high 15 (omega arith))
said (PositionLow low) h = refl

-- a packet that says something has the length of its first byte, 0 past its end, and says it by the tables
pub shaped : (p : Packet) (c : Command) → meaning_of p ≡ Some c
    → (p.length ≡ packet_length (byte_at p 0)) × ((eqb (packet_length (byte_at p 0)) 3 || eqb (byte_at p 2) 0) ≡ true) × (said_by (byte_at p 0) (byte_at p 1) (byte_at p 2) ≡ Some c)
unfolding meaning_of is_packet
shaped p c h =
    row (is_packet p) (said_by (byte_at p 0) (byte_at p 1) (byte_at p 2)) None c h
    (λ e m.
    let l : p.length ≡ packet_length (byte_at p 0) = eqb-true _ _ (and_left (eqb p.length (packet_length (byte_at p 0))) (eqb p.length 3 || eqb (byte_at p 2) 0) e) in
    let z : (eqb p.length 3 || eqb (byte_at p 2) 0) ≡ true = and_right (eqb p.length (packet_length (byte_at p 0))) (eqb p.length 3 || eqb (byte_at p 2) 0) e in
    (l, rw l at z, m))
    (λ n. never c)

-- a short packet, whatever its first byte, has 0 in its third place
short_packet : (a b t : ℕ) → eqb t 0 ≡ true → packet_of2 a b ≡ record { length = 2; bytes = a ∷ b ∷ t ∷ [] }
short_packet a b t z = rw (eqb-true t 0 z)

-- the packet of what a row says, from the row's bytes
Written : ℕ → ℕ → ℕ → Command → Type 0
Written f s t c =
    s < 256 → t < 256 → (eqb (packet_length f) 3 || eqb t 0) ≡ true
    → packet_saying c ≡ record { length = packet_length f; bytes = f ∷ bits_read f s ∷ t ∷ [] }

rows_written : Rows Written
unfolding Written packet_saying packet_length bits_read call_said bank_first
rows_written =
    record {
      no_operation = λ s t hs ht. short_packet 0x00 0 t;
      actual_speed = λ s t hs ht. short_packet 0x24 s t;
      wanted_speed = λ s t hs ht. short_packet 0x25 s t;
      load = λ s t l hs ht. short_packet 0x26 s t;
      address_low = λ s t hs ht. short_packet 0x5E s t;
      address_high = λ s t hs ht. short_packet 0x5F s t;
      functions_from_0 = λ s t hs ht. rw (functions_written s) (short_packet 0x60 (part_of s 0 5) t);
      functions_from_5 = λ s t hs ht. short_packet 0x61 s t;
      functions_from_13 = λ s t hs ht. short_packet 0x62 s t;
      functions_from_21 = λ s t hs ht. short_packet 0x63 s t;
      control = λ s t hs ht. short_packet 0x6C (part_of s 0 2) t;
      short_state = λ s t hs ht. rw (state_written s hs) (short_packet 0x6D s t);
      long_low = λ s t hs ht. rw (state_written s hs) (short_packet 0x6E s t);
      long_high = λ s t hs ht. short_packet 0x6F s t;
      call = λ s t hs ht. rw (call_written s) (short_packet 0x01 (part_of s 0 5) t);
      bank_read_1 = λ s t hs ht. short_packet 0x0C s t;
      bank_read_2 = λ s t hs ht. short_packet 0x0D s t;
      bank_read_3 = λ s t hs ht. short_packet 0x0E s t;
      read_cv = λ s t hs ht. let e : s + 769 - 769 ≡ s = omega arith in rw e (short_packet 0x0F s t);
      verify_byte = λ s t b hs ht z. rw (cv_written s hs b);
      write_byte = λ s t b hs ht z. rw (cv_written s hs b);
      verify_bit = λ s t b top k hs ht z. rw (cv_written s hs b, bit_written_lem 0 t ht top k);
      write_bit = λ s t b top k hs ht z. rw (cv_written s hs b, bit_written_lem 1 t ht top k);
      position_high = λ s t l hs ht. short_packet 0x88 s t;
      position_low = λ s t hs ht. short_packet 0x89 s t;
    }

-- the packet of a packet's meaning is that packet with its unread bits 0
pub written_back : (p : Packet) (c : Command) → ThreeBytes p → meaning_of p ≡ Some c → packet_saying c ≡ unread_cleared p
unfolding Written
written_back p c b h =
    let g = shaped p c h in
    by_rows Written rows_written (byte_at p 0) (byte_at p 1) (byte_at p 2) c g.2 b.second b.third g.1 ∙ rw g.0

-- a list of three
pub three_of : (l : List ℕ) → length l ≡ 3 → l ≡ get_or l 0 0 ∷ get_or l 1 0 ∷ get_or l 2 0 ∷ []
three_of [] h = let z : ⊥ = omega arith in absurd z
three_of (a ∷ []) h = let z : ⊥ = omega arith in absurd z
three_of (a ∷ b ∷ []) h = let z : ⊥ = omega arith in absurd z
three_of (a ∷ b ∷ d ∷ []) h = refl
three_of (a ∷ b ∷ d ∷ e ∷ l) h = let z : ⊥ = omega arith in absurd z

-- what a row says has room; `Byte` is what is known of the bytes
Roomy : (ℕ → Type 0) → ℕ → ℕ → ℕ → Command → Type 0
Roomy Byte f s t c = Byte s → Byte t → RoomOf Byte c

rows_roomy : (Byte : ℕ → Type 0) → Rows (Roomy Byte)
unfolding Roomy call_said
rows_roomy Byte =
    record {
      no_operation = λ s t bs bt. tt;
      actual_speed = λ s t bs bt. bs;
      wanted_speed = λ s t bs bt. bs;
      load = λ s t l bs bt. l;
      address_low = λ s t bs bt. bs;
      address_high = λ s t bs bt. bs;
      functions_from_0 = λ s t bs bt. functions_lt s;
      functions_from_5 = λ s t bs bt. bs;
      functions_from_13 = λ s t bs bt. bs;
      functions_from_21 = λ s t bs bt. bs;
      control = λ s t bs bt. part_lt s 0 2;
      short_state = λ s t bs bt. part_lt s 0 7;
      long_low = λ s t bs bt. part_lt s 0 7;
      long_high = λ s t bs bt. bs;
      call = λ s t bs bt. (part_lt s 0 2, part_lt s 3 2);
      bank_read_1 = λ s t bs bt. ((omega arith, omega arith), bs);
      bank_read_2 = λ s t bs bt. ((omega arith, omega arith), bs);
      bank_read_3 = λ s t bs bt. ((omega arith, omega arith), bs);
      read_cv = λ s t bs bt. (omega arith, let e : s ≡ s + 769 - 769 = omega arith in rw e at bs);
      verify_byte = λ s t b bs bt. (cv_room s, bt);
      write_byte = λ s t b bs bt. (cv_room s, bt);
      verify_bit = λ s t b top k bs bt. (cv_room s, (part_lt t 0 3, bit_lt t 3));
      write_bit = λ s t b top k bs bt. (cv_room s, (part_lt t 0 3, bit_lt t 3));
      position_high = λ s t l bs bt. l;
      position_low = λ s t bs bt. bs;
    }

pub said_room : (Byte : ℕ → Type 0) (p : Packet) (c : Command) → Byte (byte_at p 1) → Byte (byte_at p 2) → meaning_of p ≡ Some c → RoomOf Byte c
unfolding Roomy
said_room Byte p c bs bt h =
    by_rows (Roomy Byte) (rows_roomy Byte) (byte_at p 0) (byte_at p 1) (byte_at p 2) c (shaped p c h).2 bs bt

-- what a row says is said by a packet with the row's first byte, whatever follows it
First : ℕ → ℕ → ℕ → Command → Type 0
First f s t c = byte_at (packet_saying c) 0 ≡ f

rows_first : Rows First
unfolding First packet_saying call_said bank_first
rows_first =
    record {
      no_operation = λ s t. refl;
      actual_speed = λ s t. refl;
      wanted_speed = λ s t. refl;
      load = λ s t l. refl;
      address_low = λ s t. refl;
      address_high = λ s t. refl;
      functions_from_0 = λ s t. refl;
      functions_from_5 = λ s t. refl;
      functions_from_13 = λ s t. refl;
      functions_from_21 = λ s t. refl;
      control = λ s t. refl;
      short_state = λ s t. refl;
      long_low = λ s t. refl;
      long_high = λ s t. refl;
      call = λ s t. refl;
      bank_read_1 = λ s t. refl;
      bank_read_2 = λ s t. refl;
      bank_read_3 = λ s t. refl;
      read_cv = λ s t. refl;
      verify_byte = λ s t b. refl;
      write_byte = λ s t b. refl;
      verify_bit = λ s t b top k. refl;
      write_bit = λ s t b top k. refl;
      position_high = λ s t l. refl;
      position_low = λ s t. refl;
    }

pub first_said : (p : Packet) (c : Command) → meaning_of p ≡ Some c → byte_at (packet_saying c) 0 ≡ byte_at p 0
unfolding First
first_said p c h = by_rows First rows_first (byte_at p 0) (byte_at p 1) (byte_at p 2) c (shaped p c h).2

-- the packet of a command that has room is three bytes
short_bytes : (a b : ℕ) → a < 256 → b < 256 → ThreeBytes (packet_of2 a b)
short_bytes a b ha hb = record { three = refl; first = ha; second = hb; third = omega arith }

long_bytes : (a b d : ℕ) → a < 256 → b < 256 → d < 256 → ThreeBytes (packet_of3 a b d)
long_bytes a b d ha hb hd = record { three = refl; first = ha; second = hb; third = hd }

bank_first_lt : (asked : ℕ) → bank_first asked < 256
unfolding bank_first
bank_first_lt asked =
    by (eqb asked 1) (λ e. rw e (omega arith)) (λ e. by (eqb asked 2) (λ f. rw (e, f) (omega arith)) (λ f. rw (e, f) (omega arith)))

pub in_bytes : (c : Command) → has_room c ≡ true → ThreeBytes (packet_saying c)
unfolding packet_saying
in_bytes NoOperation h = short_bytes _ _ (omega arith) (omega arith)
in_bytes (ActualSpeed speed) h = short_bytes _ _ (omega arith) (room_facts (ActualSpeed speed) h)
in_bytes (WantedSpeed speed) h = short_bytes _ _ (omega arith) (room_facts (WantedSpeed speed) h)
in_bytes (Load load) h = let r = room_facts (Load load) h in short_bytes _ _ (omega arith) (omega arith)
in_bytes (AddressLow half) h = short_bytes _ _ (omega arith) (room_facts (AddressLow half) h)
in_bytes (AddressHigh half) h = short_bytes _ _ (omega arith) (room_facts (AddressHigh half) h)
in_bytes (FunctionsFrom0 set) h = short_bytes _ _ (omega arith) (omega (arith, functions_fit set))
in_bytes (FunctionsFrom5 set) h = short_bytes _ _ (omega arith) (room_facts (FunctionsFrom5 set) h)
in_bytes (FunctionsFrom13 set) h = short_bytes _ _ (omega arith) (room_facts (FunctionsFrom13 set) h)
in_bytes (FunctionsFrom21 set) h = short_bytes _ _ (omega arith) (room_facts (FunctionsFrom21 set) h)
in_bytes (Control control) h = let r = room_facts (Control control) h in short_bytes _ _ (omega arith) (omega arith)
in_bytes (ShortState number on) h = short_bytes _ _ (omega arith) (state_fits number on (room_facts (ShortState number on) h))
in_bytes (LongLow low on) h = short_bytes _ _ (omega arith) (state_fits low on (room_facts (LongLow low on) h))
in_bytes (LongHigh high) h = short_bytes _ _ (omega arith) (room_facts (LongHigh high) h)
in_bytes (VerifyByte cv value) h =
    let r = room_facts (VerifyByte cv value) h in long_bytes _ _ _ (omega arith) (cv_fits cv r.0.0 r.0.1) r.1
in_bytes (WriteByte cv value) h =
    let r = room_facts (WriteByte cv value) h in long_bytes _ _ _ (omega arith) (cv_fits cv r.0.0 r.0.1) r.1
in_bytes (VerifyBit cv place value) h =
    let r = room_facts (VerifyBit cv place value) h in
    long_bytes _ _ _ (omega arith) (cv_fits cv r.0.0 r.0.1) (bit_fits 0 value place (omega arith) r.1.1 r.1.0)
in_bytes (WriteBit cv place value) h =
    let r = room_facts (WriteBit cv place value) h in
    long_bytes _ _ _ (omega arith) (cv_fits cv r.0.0 r.0.1) (bit_fits 1 value place (omega arith) r.1.1 r.1.0)
in_bytes (Call called forced status) h =
    let r = room_facts (Call called forced status) h in
    short_bytes _ _ (omega arith) (omega (arith, call_fits called forced status r.0 r.1))
in_bytes (BankRead asked bank) h =
    let r = room_facts (BankRead asked bank) h in short_bytes _ _ (bank_first_lt asked) r.1
in_bytes (ReadCv cv) h = let r = room_facts (ReadCv cv) h in short_bytes _ _ (omega arith) r.1
in_bytes (PositionHigh high) h = let r = room_facts (PositionHigh high) h in short_bytes _ _ (omega arith) (omega arith)
in_bytes (PositionLow low) h = short_bytes _ _ (omega arith) (room_facts (PositionLow low) h)
