-- No two refusals have one number, and none has 0: an answer that gives its number names its refusal.
use Rattle.std.proofs.Common.{ℕ, ◌<◌, arith, ◌≡◌, cond, eqb, refl, sym, ap, ◌∙◌, false, Result, Ok, Err}
use Rattle.refusals.specs.declared.Refusal.{Refusal}
use Rattle.refusals.specs.declared.Refusal.TheVariants.{Uneven, Level, Time, Lengths, Sheet, Message, Queue, Room, Shape, Checksum, Status, Impossible}
use borrow.Author.Tests.{ne_eqb}
use Rattle.refusals.specs.Numbers.{paper_number, refusal_in}

-- the refusal of a number; of any other number, the last
named : ℕ → Refusal
named n =
    cond (eqb n 1) Uneven
    (cond (eqb n 2) Level
    (cond (eqb n 3) Time
    (cond (eqb n 4) Lengths
    (cond (eqb n 5) Sheet
    (cond (eqb n 6) Message
    (cond (eqb n 7) Queue
    (cond (eqb n 8) Room
    (cond (eqb n 9) Shape
    (cond (eqb n 10) Checksum
    (cond (eqb n 11) Status Impossible))))))))))

named_back : (why : Refusal) → named (paper_number why) ≡ why
unfolding named
named_back Uneven = refl
named_back Level = refl
named_back Time = refl
named_back Lengths = refl
named_back Sheet = refl
named_back Message = refl
named_back Queue = refl
named_back Room = refl
named_back Shape = refl
named_back Checksum = refl
named_back Status = refl
named_back Impossible = refl

pub same_number : (one other : Refusal) → paper_number one ≡ paper_number other → one ≡ other
same_number one other same = sym (named_back one) ∙ ap named same ∙ named_back other

pub some_number : (why : Refusal) → 0 < paper_number why
some_number Uneven = omega arith
some_number Level = omega arith
some_number Time = omega arith
some_number Lengths = omega arith
some_number Sheet = omega arith
some_number Message = omega arith
some_number Queue = omega arith
some_number Room = omega arith
some_number Shape = omega arith
some_number Checksum = omega arith
some_number Status = omega arith
some_number Impossible = omega arith

pub never_0 : (why : Refusal) → paper_number why ≡ 0 → ⊥
never_0 why none = let some = some_number why in omega arith

pub no_0 : (why : Refusal) → eqb (paper_number why) 0 ≡ false
no_0 why = ne_eqb (paper_number why) 0 (never_0 why)

-- a check's answer is whole in its number
pub checked_once : (one other : Result (Unit {0}) Refusal) → refusal_in one ≡ refusal_in other → one ≡ other
checked_once (Ok one) (Ok other) e = refl
checked_once (Ok one) (Err why) e = absurd (never_0 why (sym e))
checked_once (Err why) (Ok other) e = absurd (never_0 why e)
checked_once (Err one) (Err other) e = ap Err (same_number one other e)
