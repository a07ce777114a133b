-- The test for room and the facts of it are the same thing.
use Prim.Native.Nat.{ℕ, ◌≤◌, ◌<◌}
use mathlib.Core.Path.{◌≡◌, refl}
use mathlib.Core.Bool.{Bool, true, ◌&&◌}
use native.Mathlib.Omega.{arith}
use lib.Dec.{ltb, leb}
use borrow.Author.Tests.{ltb-true, leb-true, lt-ltb, le-leb}
use Rattle.bits.proofs.Tests.{and_left, and_right}
use Rattle.command.specs.declared.Command.{Command}
use Rattle.command.specs.declared.Command.TheVariants.{NoOperation, ActualSpeed, WantedSpeed, Load, AddressLow, AddressHigh, FunctionsFrom0, FunctionsFrom5, FunctionsFrom13, FunctionsFrom21, Control, ShortState, LongLow, LongHigh, VerifyByte, WriteByte, VerifyBit, WriteBit, Call, BankRead, ReadCv, PositionHigh, PositionLow}
use Rattle.command.specs.Room.{InRoom}
use Rattle.command.specs.Saying.{between, room_for_byte, room_for_bit, room_for_call, room_for_bank, has_room}

-- a test of two parts and the two facts
both : {P Q : Type 0} (a b : Bool) → (a ≡ true → P) → (b ≡ true → Q) → (a && b) ≡ true → P × Q
both a b f g h = (f (and_left a b h), g (and_right a b h))

pub between_true : (low n high : ℕ) → between low n high ≡ true → (low ≤ n) × (n ≤ high)
unfolding between
between_true low n high = both (leb low n) (leb n high) (leb-true low n) (leb-true n high)

pub between_holds : (low n high : ℕ) → low ≤ n → n ≤ high → between low n high ≡ true
unfolding between
between_holds low n high l h = simp (le-leb low n l, le-leb n high h)

byte_room : (cv value : ℕ) → room_for_byte cv value ≡ true → ((897 ≤ cv) × (cv ≤ 1024)) × (value < 256)
unfolding room_for_byte
byte_room cv value = both (between 897 cv 1024) (ltb value 256) (between_true 897 cv 1024) (ltb-true value 256)

bit_room : (cv place value : ℕ) → room_for_bit cv place value ≡ true → ((897 ≤ cv) × (cv ≤ 1024)) × ((place < 8) × (value < 2))
unfolding room_for_bit
bit_room cv place value =
    both (between 897 cv 1024) (ltb place 8 && ltb value 2) (between_true 897 cv 1024)
    (both (ltb place 8) (ltb value 2) (ltb-true place 8) (ltb-true value 2))

-- what is found to have room is in its room
pub room_facts : (c : Command) → has_room c ≡ true → InRoom c
unfolding has_room room_for_call room_for_bank
room_facts NoOperation h = tt
room_facts (ActualSpeed speed) h = ltb-true _ _ h
room_facts (WantedSpeed speed) h = ltb-true _ _ h
room_facts (Load load) h = ltb-true _ _ h
room_facts (AddressLow half) h = ltb-true _ _ h
room_facts (AddressHigh half) h = ltb-true _ _ h
room_facts (FunctionsFrom0 set) h = ltb-true _ _ h
room_facts (FunctionsFrom5 set) h = ltb-true _ _ h
room_facts (FunctionsFrom13 set) h = ltb-true _ _ h
room_facts (FunctionsFrom21 set) h = ltb-true _ _ h
room_facts (Control control) h = ltb-true _ _ h
room_facts (ShortState number on) h = ltb-true _ _ h
room_facts (LongLow low on) h = ltb-true _ _ h
room_facts (LongHigh high) h = ltb-true _ _ h
room_facts (VerifyByte cv value) h = byte_room cv value h
room_facts (WriteByte cv value) h = byte_room cv value h
room_facts (VerifyBit cv place value) h = bit_room cv place value h
room_facts (WriteBit cv place value) h = bit_room cv place value h
room_facts (Call called forced status) h = both (ltb called 4) (ltb status 4) (ltb-true called 4) (ltb-true status 4) h
room_facts (BankRead asked bank) h = both (between 1 asked 3) (ltb bank 256) (between_true 1 asked 3) (ltb-true bank 256) h
room_facts (ReadCv cv) h = let b = between_true 769 cv 1024 h in (b.0, omega arith)
room_facts (PositionHigh high) h = ltb-true _ _ h
room_facts (PositionLow low) h = ltb-true _ _ h

-- and what is in its room is found to have it
pub facts_room : (c : Command) → InRoom c → has_room c ≡ true
unfolding has_room room_for_byte room_for_bit room_for_call room_for_bank
facts_room NoOperation r = refl
facts_room (ActualSpeed speed) r = lt-ltb _ _ r
facts_room (WantedSpeed speed) r = lt-ltb _ _ r
facts_room (Load load) r = lt-ltb _ _ r
facts_room (AddressLow half) r = lt-ltb _ _ r
facts_room (AddressHigh half) r = lt-ltb _ _ r
facts_room (FunctionsFrom0 set) r = lt-ltb _ _ r
facts_room (FunctionsFrom5 set) r = lt-ltb _ _ r
facts_room (FunctionsFrom13 set) r = lt-ltb _ _ r
facts_room (FunctionsFrom21 set) r = lt-ltb _ _ r
facts_room (Control control) r = lt-ltb _ _ r
facts_room (ShortState number on) r = lt-ltb _ _ r
facts_room (LongLow low on) r = lt-ltb _ _ r
facts_room (LongHigh high) r = lt-ltb _ _ r
facts_room (VerifyByte cv value) r = simp (between_holds 897 cv 1024 r.0.0 r.0.1, lt-ltb _ _ r.1)
facts_room (WriteByte cv value) r = simp (between_holds 897 cv 1024 r.0.0 r.0.1, lt-ltb _ _ r.1)
facts_room (VerifyBit cv place value) r = simp (between_holds 897 cv 1024 r.0.0 r.0.1, lt-ltb _ _ r.1.0, lt-ltb _ _ r.1.1)
facts_room (WriteBit cv place value) r = simp (between_holds 897 cv 1024 r.0.0 r.0.1, lt-ltb _ _ r.1.0, lt-ltb _ _ r.1.1)
facts_room (Call called forced status) r = simp (lt-ltb _ _ r.0, lt-ltb _ _ r.1)
facts_room (BankRead asked bank) r = simp (between_holds 1 asked 3 r.0.0 r.0.1, lt-ltb _ _ r.1)
facts_room (ReadCv cv) r = between_holds 769 cv 1024 r.0 (omega arith)
facts_room (PositionHigh high) r = lt-ltb _ _ r
facts_room (PositionLow low) r = lt-ltb _ _ r

pub room_of : {s c : Command} → has_room s ≡ true → s ≡ c → InRoom c
room_of {s} {c} h e = room_facts c (rw e at h)
