-- The pairs of commands that a host makes of one number, low half first. (A position, C-12, is sent by modules.)
use Rattle.std.specs.Prelude.{ℕ, ◌/◌, ◌%◌, Bool, cond, ◌≡◌, leb, Result, Ok, Err}
use Rattle.refusals.specs.declared.Refusal.{Refusal}
use Rattle.refusals.specs.Numbers.{paper_number}
use Rattle.command.specs.declared.pairs.Halves.{Halves}
use Rattle.command.specs.declared.Command.TheVariants.{AddressLow, AddressHigh, LongLow, LongHigh}

-- the answer to a number: its pair, or the paper's number of a refusal
pub data Paired : Type 0 where
  Pair : Halves → Paired
  Refused : ℕ → Paired

-- "address low, high half"
unfoldable pub address_halves : ℕ → Halves
address_halves address = record { low = AddressLow (address % 256); high = AddressHigh (address / 256) }

-- "Long number = 128·H + low 7 bits"
unfoldable pub long_halves : ℕ → Bool → Halves
long_halves number on = record { low = LongLow (number % 128) on; high = LongHigh (number / 128) }

-- row 8: a number over 32767 has no room
unfoldable pub long_pair : ℕ → Bool → Paired
long_pair number on = cond (leb number 32767) (Pair (long_halves number on)) (Refused 8)

-- the paper's number of an answer (0: none)
abbrev pub pair_refusal : Paired → ℕ
pair_refusal (Pair halves) = 0
pair_refusal (Refused number) = number

-- what the code's answer says (no two say the same: law `paired_once`)
abbrev pub paired : Result Halves Refusal → Paired
paired (Ok halves) = Pair halves
paired (Err why) = Refused (paper_number why)

-- WHAT `Command::long_state` PROMISES
abbrev pub LongStatePromise : ℕ → Bool → Paired → Type 0
LongStatePromise number on answer = answer ≡ long_pair number on
