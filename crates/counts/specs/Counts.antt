-- C-05: what the two entries give that say how many states and how many functions are on.
use Rattle.std.specs.Prelude.{ℕ, cond, List, [], ◌∷◌, ◌≡◌, eqb, Result, Ok, Err}
use Rattle.refusals.specs.declared.Refusal.{Refusal}
use Rattle.refusals.specs.Numbers.{paper_number}
use Rattle.drive.specs.Drive.{functions_on}
use Rattle.states.specs.States.{length_holds, states_on}
use Rattle.board.specs.declared.record.Module.{Module}
use Rattle.board.specs.Board.{module_possible, refusal_row, first_broken}
use Rattle.counts.specs.declared.Counts.{Counts as TwoCounts}

-- an answer: 12 or 4, and no number; or so many states and so many functions are on
pub data Counts : Type 0 where
  Refused : (number : ℕ) → Counts
  On : (states functions : ℕ) → Counts

-- the answer that a result gives
abbrev pub counted_as : Result TwoCounts Refusal → Counts
counted_as (Ok counts) = On counts.states counts.functions
counted_as (Err why) = Refused (paper_number why)

-- both numbers, that of the states being this
abbrev pub counts_of : Module → ℕ → TwoCounts
counts_of m stateson = record { states = stateson; functions = functions_on m.drive }

-- so many states are on; "Also report how many of F0 to F28 are on."
abbrev pub on_of : Module → ℕ → Counts
on_of m stateson = On stateson (functions_on m.drive)

-- for a display, by the record alone
unfoldable pub shown_of : Module → Counts
shown_of m = cond (module_possible m) (on_of m m.stateson) (Refused 12)

-- "A check entry recounts the ones in the bytes, bit 0 of byte 0 left out; a record whose number disagrees with the lent states is refused
-- with 12 by that entry only, after 4.": its rows, in this order, where `counted` is what the recount gives
unfoldable pub check_refusal : Module → List ℕ → ℕ → ℕ
check_refusal m states counted =
    first_broken (refusal_row 12 (module_possible m) ∷ refusal_row 4 (length_holds states) ∷ refusal_row 12 (eqb m.stateson counted) ∷ [])

unfoldable pub checked_as : Module → List ℕ → ℕ → Counts
checked_as m states counted =
    cond (eqb (check_refusal m states counted) 0) (on_of m counted) (Refused (check_refusal m states counted))

abbrev pub checked_of : Module → List ℕ → Counts
checked_of m states = checked_as m states (states_on states)

-- WHAT THE ENTRIES PROMISE
unfoldable pub ShownPromise : Module → Counts → Type 0
ShownPromise m c = c ≡ shown_of m

unfoldable pub CheckedPromise : Module → List ℕ → Counts → Type 0
CheckedPromise m states c = c ≡ checked_of m states

-- the paper's number of an answer, 0 for none
abbrev pub refusal_of : Counts → ℕ
refusal_of (Refused number) = number
refusal_of (On states functions) = 0
