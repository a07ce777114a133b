-- A board: its record, and what row 12, 4 and 5 ask of it and of the buffers lent with it.
use Rattle.std.specs.Prelude.{ℕ, List, [], ◌∷◌, Bool, true, cond, ◌&&◌, ◌≡◌, leb, eqb, length, Option, None}
use Rattle.line.specs.declared.receiver.Receiver.{Receiver}
use Rattle.line.specs.Line.{fresh_receiver, is_pause, paused_of, receiver_possible}
use Rattle.drive.specs.declared.Drive.{Drive}
use Rattle.drive.specs.Drive.{restarted, drive_possible}
use Rattle.position.specs.declared.Position.{Position}
use Rattle.position.specs.Position.{position_possible}
use Rattle.states.specs.States as S
use Rattle.cells.specs.declared.settings.Settings.{Settings}
use Rattle.store.specs.Sheet.{Sheets, lengths_hold, sheets_hold}
use Rattle.cells.specs.Settings.{settings, settings_possible}
use Rattle.bidi.specs.declared.record.Bidi.{Bidi}
use Rattle.bidi.specs.Bidi.{fresh_bidi, bidi_possible}
use Rattle.board.specs.declared.record.Half.{Half}
use Rattle.board.specs.declared.record.Half.TheVariants.{NoHalf, AddressHalf, StateHalf, PositionHalf}
use Rattle.board.specs.declared.record.Module.{Module}

-- what edges act on: the record that the board keeps, the states and the store; the lent sheets are only read
pub record Board : Type 0 where
  pub kept : Module
  pub states : List ℕ
  pub store : List ℕ

abbrev pub board_of : Module → List ℕ → List ℕ → Board
board_of m states store = record { kept = m; states = states; store = store }

-- A MODULE'S RECORD BY ITS PARTS, in the order of the fields: in the module's own crates only here a record is written out
abbrev pub module_of : Receiver → Half → ℕ → Drive → Settings → Bidi → Option Position → ℕ → Module
module_of r half byte d s b p stateson =
    record { receiver = r; half = half; halfbyte = byte; drive = d; settings = s; bidi = b; position = p; stateson = stateson }

-- the setters: a module's record with one part of it another
abbrev pub with_receiver : Module → Receiver → Module
with_receiver m r = module_of r m.half m.halfbyte m.drive m.settings m.bidi m.position m.stateson

abbrev pub with_half : Module → Half → ℕ → Module
with_half m half byte = module_of m.receiver half byte m.drive m.settings m.bidi m.position m.stateson

abbrev pub with_drive : Module → Drive → Module
with_drive m d = module_of m.receiver m.half m.halfbyte d m.settings m.bidi m.position m.stateson

abbrev pub with_position : Module → Option Position → Module
with_position m p = module_of m.receiver m.half m.halfbyte m.drive m.settings m.bidi p m.stateson

abbrev pub with_settings : Module → Settings → Module
with_settings m s = module_of m.receiver m.half m.halfbyte m.drive s m.bidi m.position m.stateson

abbrev pub with_bidi : Module → Bidi → Module
with_bidi m b = module_of m.receiver m.half m.halfbyte m.drive m.settings b m.position m.stateson

abbrev pub with_states_on : Module → ℕ → Module
with_states_on m stateson = module_of m.receiver m.half m.halfbyte m.drive m.settings m.bidi m.position stateson

-- "drops a held half"
abbrev pub without_half : Module → Module
without_half m = with_half m NoHalf 0

-- a number for each kind of half, to compare them by
unfoldable pub kind_of : Half → ℕ
kind_of NoHalf = 0
kind_of AddressHalf = 1
kind_of StateHalf = 2
kind_of PositionHalf = 3

-- "only if its own low half was the command just before" (C-12: of a position the high half comes first): a half of this kind was
unfoldable pub holds_half : Module → Half → Bool
holds_half m half = eqb (kind_of m.half) (kind_of half)

-- "A pause drops held bits, held bytes and a held half"; C-03: it "clears everything held": the record at an edge's time, before its bit
unfoldable pub after_gap : Module → ℕ → Module
after_gap m time = with_receiver (cond (is_pause m.receiver time) (without_half m) m) (paused_of m.receiver time)

-- C-05: the number of states on that a record keeps is true of these states
abbrev pub NumberTrue : Module → List ℕ → Type 0
NumberTrue m states = m.stateson ≡ S.states_on states

-- row 12: "an unused .. half .. byte not 0"; C-12: a held half of a position over 15
unfoldable pub half_possible : Half → ℕ → Bool
half_possible NoHalf byte = eqb byte 0
half_possible AddressHalf byte = true
half_possible StateHalf byte = true
half_possible PositionHalf byte = leb byte 15

-- row 12, whole
unfoldable pub module_possible : Module → Bool
module_possible m =
    receiver_possible m.receiver && half_possible m.half m.halfbyte && drive_possible m.drive
    && settings_possible m.settings && bidi_possible m.bidi && position_possible m.position

-- row 4: "store, size sheet, states not 10,240, 256, 4,096 bytes; reply room under 84"; C-13: the fixed sheet not 40
unfoldable pub buffers_hold : List ℕ → List ℕ → Sheets → List ℕ → Bool
buffers_hold states store sheets room = S.length_holds states && lengths_hold store sheets && leb 84 (length room)

-- a row of the table of refusals: its number, and whether it gives no cause
pub record RefusalRow : Type 0 where
  pub number : ℕ
  pub passes : Bool

abbrev pub refusal_row : ℕ → Bool → RefusalRow
refusal_row number passes = record { number = number; passes = passes }

-- the number of the first row that gives cause, or 0
unfoldable pub first_broken : List RefusalRow → ℕ
first_broken [] = 0
first_broken (r ∷ rows) = cond r.passes (first_broken rows) r.number

-- THE ROWS that come before all others, in this order, for a board and what is lent with it
unfoldable pub board_refusal : Board → Sheets → List ℕ → ℕ
board_refusal b sheets room =
    first_broken
    (refusal_row 12 (module_possible b.kept) ∷ refusal_row 4 (buffers_hold b.states b.store sheets room)
    ∷ refusal_row 5 (sheets_hold sheets) ∷ [])

-- what a restart leaves of the record, given number and selected bank: "it zeroes functions, speeds, load, address, .. statuses, WAIT,
-- queue, registration and receiver, and sets the control bits to 1" (the states are no part of the record: `restart_of`); C-12: "Restart
-- forgets the position."; C-05: "a restart sets the count": no state is on then
abbrev pub fresh_as : ℕ → ℕ → Module
fresh_as number bank = module_of fresh_receiver NoHalf 0 restarted (settings number 0 bank) fresh_bidi None 0

-- "A restart keeps CV 897, CV 1021 and the store"
unfoldable pub restarted_of : Module → Module
restarted_of m = fresh_as m.settings.number m.settings.bank

-- a module as it is made: CV 897 is 1, CV 1021 is 0
abbrev pub fresh_module : Module
fresh_module = fresh_as 1 0
