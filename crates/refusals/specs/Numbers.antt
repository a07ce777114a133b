-- The numbers of document 01's table of refusals.
use Rattle.std.specs.Prelude.{ℕ, Result, Ok, Err}
use Rattle.refusals.specs.declared.Refusal.{Refusal}
use Rattle.refusals.specs.declared.Refusal.TheVariants.{Uneven, Level, Time, Lengths, Sheet, Message, Queue, Room, Shape, Checksum, Status, Impossible}

abbrev pub paper_number : Refusal → ℕ
paper_number Uneven = 1
paper_number Level = 2
paper_number Time = 3
paper_number Lengths = 4
paper_number Sheet = 5
paper_number Message = 6
paper_number Queue = 7
paper_number Room = 8
paper_number Shape = 9
paper_number Checksum = 10
paper_number Status = 11
paper_number Impossible = 12

-- the number that an answer gives: 0 where nothing is refused
abbrev pub refusal_in : {A : Type 0} → Result A Refusal → ℕ
refusal_in (Ok a) = 0
refusal_in (Err why) = paper_number why
