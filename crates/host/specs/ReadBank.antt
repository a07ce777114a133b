-- "The host's reader takes exactly that language .. It gives n and writes the first n of 40 bytes." The language is `reply_of`.
use Rattle.std.specs.Prelude.{ℕ, ◌≤◌, ◌<◌, cond, List, [], ◌≡◌, eqb, length, Result, Ok, Err}
use Rattle.refusals.specs.declared.Refusal.{Refusal}
use Rattle.refusals.specs.Numbers.{paper_number}
use Rattle.bank.specs.declared.Group.{Group}
use Rattle.bank.specs.declared.Group.TheVariants as G
use Rattle.bank.specs.Reply.{body_of, checksum_of, reply_of, Shaped, at_front}

-- an answer: so many cells are at the front of the room; or nothing is written, and the number says why
pub data BankRead : Type 0 where
  Cells : ℕ → BankRead
  Refused : ℕ → BankRead

-- what the code's answer says (no two say the same: law `read_once`)
abbrev pub read_as : Result ℕ Refusal → BankRead
read_as (Ok n) = Cells n
read_as (Err why) = Refused (paper_number why)

-- "shape right, checksum wrong": the reply of some cells with another byte in the checksum's place; and no shape at all
abbrev pub OtherChecksum : List ℕ → Type 0
OtherChecksum reply = (cells : List ℕ) × (c : ℕ) × Shaped reply cells c × (c ≡ checksum_of (body_of cells) → ⊥)

abbrev pub NoShape : List ℕ → Type 0
NoShape reply = (cells : List ℕ) (c : ℕ) → Shaped reply cells c → ⊥

-- the answer to a reply, and the cells that go into the room with it
pub data Judged (reply : List ℕ) : BankRead → List ℕ → Type 0 where
  -- the reply of n cells gives n and those cells
  right : (cells : List ℕ) → length cells ≤ 40 → reply ≡ reply_of cells → Judged reply (Cells (length cells)) cells
  -- 10: "shape right, checksum wrong"
  wrong_checksum : (cells : List ℕ) (c : ℕ) → Shaped reply cells c → (c ≡ checksum_of (body_of cells) → ⊥) → Judged reply (Refused 10) []
  -- 9: "bank reply not of the shape"
  no_shape : ((cells : List ℕ) (c : ℕ) → Shaped reply cells c → ⊥) → Judged reply (Refused 9) []

-- and what it leaves in the room
pub data Reads (reply room : List ℕ) : BankRead → List ℕ → Type 0 where
  -- 4: "reader's room under 40"
  small_room : length room < 40 → Reads reply room (Refused 4) room
  -- else the cells stand at its front; the bytes past them stay, and with a refusal all do
  judged : {answer : BankRead} {cells : List ℕ} → 40 ≤ length room → Judged reply answer cells
      → Reads reply room answer (at_front cells room)

-- WHAT `read_bank` PROMISES of its answer and of the room at exit
abbrev pub ReadBankPromise : List ℕ → List ℕ → BankRead → List ℕ → Type 0
ReadBankPromise reply room answer after = Reads reply room answer after

-- a step of the reader: n cells stand in the bytes before, and this is the last group
unfoldable pub closed_of : ℕ → List ℕ → Group → BankRead
closed_of n before (G.Checksum c) = cond (eqb c (checksum_of before)) (Cells n) (Refused 10)
closed_of n before G.Cells = Refused 9
closed_of n before (G.End more) = Refused 9
closed_of n before G.Bad = Refused 9
