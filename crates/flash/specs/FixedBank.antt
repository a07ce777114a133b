-- C-13, "Fixed bank in flash": a record whose fields are the request's sentences. proofs/FixedBank.antt shows that it holds. (That the fixed
-- sheet is lent to each entry that takes store and size sheet, stands in their promises: `Sheets` has it. The entries only read it.)
use Rattle.std.specs.Prelude.{ℕ, ◌+◌, ◌*◌, ◌<◌, true, List, [], ◌↔◌, ◌⊎◌, ◌≡◌, length, get_or, take, Some, Result}
use Rattle.running.specs.Alike.{StoriesAlike}
use Rattle.refusals.specs.declared.Refusal.{Refusal}
use Rattle.refusals.specs.Numbers.{refusal_in}
use Rattle.line.specs.Wire.{Edge}
use Rattle.store.specs.Sheet.{Sheets, sheets_of, sizes_hold, size_of, readable, leading_of}
use Rattle.store.specs.Store.{cell_of, bank_cells}
use Rattle.view.specs.View.{ViewRefusalPromise, ViewPromise}
use Rattle.board.specs.Board.{Board}
use Rattle.module.specs.Feed.{FeedOutcome, paper_of, FeedPromise}
use Rattle.module.specs.Whole.{whole_of}
use Rattle.lines.specs.Taken.{AfterBlock, block_number, WritePromise}
use Rattle.demands.specs.HowManyOn.{left_by}
use Rattle.demands.specs.Pieces.{Good}
use Rattle.flash.specs.OldBank.{whole_was, refusal_was, feed_was, write_was}

-- "a 40-byte sheet", "its byte 1 must be 11"
pub record GoodFixed (fixed : List ℕ) : Type 0 where
  pub forty : length fixed ≡ 40
  pub version : get_or fixed 1 0 ≡ 11

-- two stores that differ, if at all, in bank 254's old places
pub record OtherBanksSame (store other : List ℕ) : Type 0 where
  pub same_length : length other ≡ length store
  pub same_cells : (bank offset : ℕ) → (bank ≡ 254 → ⊥) → offset < 40 → get_or other (bank * 40 + offset) 0 ≡ get_or store (bank * 40 + offset) 0

-- two boards with the same record, the same states, and the same cells of all other banks
pub record SameButOldPlaces (b other : Board) : Type 0 where
  pub same_record : other.kept ≡ b.kept
  pub same_states : other.states ≡ b.states
  pub other_banks : OtherBanksSame b.store other.store

-- WHEN ROWS 4 AND 5 ARE GIVEN, by the rows as they were and the fixed sheet
abbrev pub GivesFour : Board → List ℕ → List ℕ → List ℕ → Type 0
GivesFour b sizes fixed room =
    (refusal_was b sizes room ≡ 4) ⊎ ((refusal_was b sizes room ≡ 12 → ⊥) × (length fixed ≡ 40 → ⊥))

abbrev pub GivesFive : Board → List ℕ → List ℕ → List ℕ → Type 0
GivesFive b sizes fixed room =
    (length fixed ≡ 40) × ((refusal_was b sizes room ≡ 5) ⊎ ((refusal_was b sizes room ≡ 0) × (get_or fixed 1 0 ≡ 11 → ⊥)))

-- THE ROWS of the view's check: the lengths that it asks for, and the rules
pub record LengthsRight (store : List ℕ) (sheets : Sheets) : Type 0 where
  pub store_10240 : length store ≡ 10240
  pub sizes_256 : length sheets.sizes ≡ 256
  pub fixed_40 : length sheets.fixed ≡ 40

pub record RulesKept (sheets : Sheets) : Type 0 where
  pub sizes_hold_lem : sizes_hold 0 sheets.sizes ≡ true
  pub version_11 : get_or sheets.fixed 1 0 ≡ 11

pub data ViewRow (store : List ℕ) (sheets : Sheets) : ℕ → Type 0 where
  view_4 : (LengthsRight store sheets → ⊥) → ViewRow store sheets 4
  view_5 : LengthsRight store sheets → (RulesKept sheets → ⊥) → ViewRow store sheets 5
  view_given : LengthsRight store sheets → RulesKept sheets → ViewRow store sheets 0

pub record C13 : Type 0 where
  -- "a sheet of another length is refused with 4"; "its byte 1 must be 11, else refusal 5": of each entry that is lent it
  pub feed_4 : (b : Board) (sizes fixed room times levels : List ℕ) (o : FeedOutcome)
      → FeedPromise b (sheets_of sizes fixed) room times levels o → ((paper_of o.answer).number ≡ 4) ↔ GivesFour b sizes fixed room
  pub feed_5 : (b : Board) (sizes fixed room times levels : List ℕ) (o : FeedOutcome)
      → FeedPromise b (sheets_of sizes fixed) room times levels o → ((paper_of o.answer).number ≡ 5) ↔ GivesFive b sizes fixed room
  pub write_4 : (b : Board) (sizes fixed room out input : List ℕ) (l : AfterBlock)
      → WritePromise b (sheets_of sizes fixed) room out input l → (block_number l.given.answer ≡ 4) ↔ GivesFour b sizes fixed room
  pub write_5 : (b : Board) (sizes fixed room out input : List ℕ) (l : AfterBlock)
      → WritePromise b (sheets_of sizes fixed) room out input l → (block_number l.given.answer ≡ 5) ↔ GivesFive b sizes fixed room
  -- "a separate check gives the refusal's number": no two numbers keep its promise, nor do two results of the code
  pub check_determined : (store : List ℕ) (sheets : Sheets) (k q : ℕ) → ViewRefusalPromise store sheets k
      → ViewRefusalPromise store sheets q → k ≡ q
  pub check_decided : (store : List ℕ) (sheets : Sheets) (a q : Result (Unit {0}) Refusal) → ViewRefusalPromise store sheets (refusal_in a)
      → ViewRefusalPromise store sheets (refusal_in q) → a ≡ q
  pub check_rows : (store : List ℕ) (sheets : Sheets) (k : ℕ) → ViewRefusalPromise store sheets k ↔ ViewRow store sheets k
  -- "the used cells of a bank as a part of the caller's own sheet for 254, and of the store for any other": as many as the size says, and by
  -- bank and offset
  pub view_determined : (store : List ℕ) (sheets : Sheets) (bank : ℕ) (part other : List ℕ) → ViewPromise store sheets bank part
      → ViewPromise store sheets bank other → part ≡ other
  pub view_length : (store : List ℕ) (sheets : Sheets) (bank : ℕ) (part : List ℕ) → ViewRefusalPromise store sheets 0
      → ViewPromise store sheets bank part → length part ≡ size_of sheets.sizes bank
  pub fixed_cells : (store : List ℕ) (sheets : Sheets) (part : List ℕ) → ViewRefusalPromise store sheets 0
      → ViewPromise store sheets 254 part → (offset : ℕ) → offset < 2 → get_or part offset 0 ≡ get_or sheets.fixed offset 0
  pub store_cells : (store : List ℕ) (sheets : Sheets) (bank : ℕ) (part : List ℕ) → ViewRefusalPromise store sheets 0 → (bank ≡ 254 → ⊥)
      → ViewPromise store sheets bank part → (offset : ℕ) → offset < size_of sheets.sizes bank
      → get_or part offset 0 ≡ get_or store (bank * 40 + offset) 0
  -- what the module reads of a bank is the view's: a cell, by a verify or by 0x0F, and the cells of its reply; bank 254 still reads as 11
  pub as_read : (store : List ℕ) (sheets : Sheets) (bank : ℕ) (part : List ℕ) → ViewRefusalPromise store sheets 0
      → ViewPromise store sheets bank part → (offset : ℕ) → readable sheets.sizes bank offset ≡ true
      → cell_of store sheets bank offset ≡ Some (get_or part offset 0)
  pub as_sent : (store : List ℕ) (sheets : Sheets) (bank : ℕ) (part : List ℕ) → ViewRefusalPromise store sheets 0
      → ViewPromise store sheets bank part → bank_cells store sheets bank ≡ take (leading_of sheets.sizes bank) part
  pub version_read : (store : List ℕ) (sheets : Sheets) → ViewRefusalPromise store sheets 0 → cell_of store sheets 254 1 ≡ Some 11
  -- "A size of 0 and every refusal give an empty part", and nothing else does
  pub view_empty : (store : List ℕ) (sheets : Sheets) (bank : ℕ) (part : List ℕ) (k : ℕ) → ViewRefusalPromise store sheets k
      → ViewPromise store sheets bank part → (part ≡ []) ↔ ((size_of sheets.sizes bank ≡ 0) ⊎ (k ≡ 0 → ⊥))
  -- "The answers on the line stay the same": as before the request, whatever good fixed sheet is lent; of any recording, of any call of the
  -- feed and of the bench's writer, refused or not
  pub whole_as_before : (b : Board) (sizes fixed : List ℕ) (n : ℕ) (es : List Edge) → Good b (sheets_of sizes fixed)
      → whole_of b (sheets_of sizes fixed) n es ≡ whole_was b sizes n es
  pub feed_as_before : (b : Board) (sizes fixed room times levels : List ℕ) (o : FeedOutcome) → GoodFixed fixed
      → FeedPromise b (sheets_of sizes fixed) room times levels o → o ≡ feed_was b sizes room times levels
  pub write_as_before : (b : Board) (sizes fixed room out input : List ℕ) (l : AfterBlock) → GoodFixed fixed
      → WritePromise b (sheets_of sizes fixed) room out input l → l ≡ write_was b sizes room out input
  -- and whatever stands in the store's old places: answers, their edges, record, states and the cells of all other banks are the same
  pub whole_same : (b other : Board) (sizes fixed another : List ℕ) (n : ℕ) (es : List Edge) → Good b (sheets_of sizes fixed)
      → GoodFixed another → SameButOldPlaces b other
      → StoriesAlike SameButOldPlaces (whole_of b (sheets_of sizes fixed) n es) (whole_of other (sheets_of sizes another) n es)
  pub feed_same : (b other : Board) (sizes fixed another room times levels : List ℕ) (o q : FeedOutcome) → GoodFixed fixed
      → GoodFixed another → SameButOldPlaces b other → FeedPromise b (sheets_of sizes fixed) room times levels o
      → FeedPromise other (sheets_of sizes another) room times levels q
      → (q.answer ≡ o.answer) × (q.room ≡ o.room) × SameButOldPlaces o.board q.board
  pub write_same : (b other : Board) (sizes fixed another room out input : List ℕ) (l m : AfterBlock) → GoodFixed fixed
      → GoodFixed another → SameButOldPlaces b other → WritePromise b (sheets_of sizes fixed) room out input l
      → WritePromise other (sheets_of sizes another) room out input m
      → (m.given.answer ≡ l.given.answer) × (m.room ≡ l.room) × (m.out ≡ l.out) × SameButOldPlaces (left_by l) (left_by m)
  -- no write reaches the old places, 10,160 to 10,199
  pub whole_stays : (b : Board) (sheets : Sheets) (n : ℕ) (es : List Edge) (offset : ℕ) → offset < 40
      → get_or (whole_of b sheets n es).board.store (10160 + offset) 0 ≡ get_or b.store (10160 + offset) 0
  pub feed_stays : (b : Board) (sheets : Sheets) (room times levels : List ℕ) (o : FeedOutcome) → FeedPromise b sheets room times levels o
      → (offset : ℕ) → offset < 40 → get_or o.board.store (10160 + offset) 0 ≡ get_or b.store (10160 + offset) 0
  pub write_stays : (b : Board) (sheets : Sheets) (room out input : List ℕ) (l : AfterBlock) → WritePromise b sheets room out input l
      → (offset : ℕ) → offset < 40 → get_or l.store (10160 + offset) 0 ≡ get_or b.store (10160 + offset) 0
