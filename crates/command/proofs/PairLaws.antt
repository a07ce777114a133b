-- The laws of pairs: what a module makes of the two halves is the number that they were made of.
use Prim.Native.Nat.{ℕ, ◌+◌, ◌*◌, ◌/◌, ◌%◌, ◌≤◌, ◌<◌}
use mathlib.Core.Path.{◌≡◌, refl, ap}
use mathlib.Core.Bool.{Bool, true}
use native.Mathlib.Omega.{arith}
use borrow.Author.Tests.{lt-leb, le-leb}
use Rattle.std.proofs.Common.{Result, Ok, Err}
use Rattle.refusals.specs.declared.Refusal.{Refusal}
use Rattle.refusals.specs.Numbers.{paper_number, refusal_in}
use Rattle.refusals.proofs.Laws.{same_number}
use Rattle.command.specs.declared.pairs.Halves.{Halves}
use Rattle.command.specs.declared.Command.TheVariants.{AddressLow, AddressHigh, LongLow, LongHigh}
use Rattle.command.specs.Saying.{has_room}
use Rattle.command.specs.Pairs.{Pair, Refused, address_halves, long_halves, long_pair, pair_refusal, paired}
use Rattle.command.proofs.Room.{facts_room}

-- NO TWO ANSWERS SAY THE SAME: what the answer to a number says determines it
taken_apart : (one : Halves) (other : Result Halves Refusal) → Pair one ≡ paired other → Ok one ≡ other
taken_apart one (Ok other) same = cc
taken_apart one (Err why) same = cc

refused_apart : (one : Refusal) (other : Result Halves Refusal) → Refused (paper_number one) ≡ paired other → Err one ≡ other
refused_apart one (Ok other) same = cc
refused_apart one (Err why) same = let number : paper_number one ≡ paper_number why = cc in ap Err (same_number one why number)

pub paired_once : (one other : Result Halves Refusal) → paired one ≡ paired other → one ≡ other
paired_once (Ok halves) other same = taken_apart halves other same
paired_once (Err why) other same = refused_apart why other same

-- the refusal of an answer is the one that its pair has
pub paired_refusal : (answer : Result Halves Refusal) → pair_refusal (paired answer) ≡ refusal_in answer
paired_refusal (Ok halves) = refl
paired_refusal (Err why) = refl

-- AN ADDRESS: 256·high + low, and both halves have room
pub address_again : (address low high : ℕ) → (address_halves address).low ≡ AddressLow low → (address_halves address).high ≡ AddressHigh high
    → 256 * high + low ≡ address
unfolding address_halves
address_again address low high l h =
    let a : address % 256 ≡ low = cc in
    let b : address / 256 ≡ high = cc in
    omega arith

pub address_room : (address : ℕ) → address < 65536
    → (has_room (address_halves address).low ≡ true) × (has_room (address_halves address).high ≡ true)
unfolding address_halves
address_room address h =
    (facts_room (AddressLow (address % 256)) (omega arith), facts_room (AddressHigh (address / 256)) (omega arith))

-- A LONG STATE: refused exactly over 32767; else 128·high + low with on or off, and both halves have room
pub long_refused : (number : ℕ) (on : Bool) → 32767 < number → long_pair number on ≡ Refused 8
unfolding long_pair
long_refused number on h = simp (lt-leb number 32767 h)

pub long_taken : (number : ℕ) (on : Bool) → number ≤ 32767 → long_pair number on ≡ Pair (long_halves number on)
unfolding long_pair
long_taken number on h = simp (le-leb number 32767 h)

pub long_again : (number low high : ℕ) (on told : Bool)
    → (long_halves number on).low ≡ LongLow low told → (long_halves number on).high ≡ LongHigh high
    → (128 * high + low ≡ number) × (told ≡ on)
unfolding long_halves
long_again number low high on told l g =
    let a : number % 128 ≡ low = cc in
    let b : number / 128 ≡ high = cc in
    (omega arith, cc)

pub long_room : (number : ℕ) (on : Bool) → number ≤ 32767
    → (has_room (long_halves number on).low ≡ true) × (has_room (long_halves number on).high ≡ true)
unfolding long_halves
long_room number on h =
    (facts_room (LongLow (number % 128) on) (omega arith), facts_room (LongHigh (number / 128)) (omega arith))
