-- THE VERSIONS OF A BOARD'S SETTINGS, and the changes that are kept of them: C-07.
use Rattle.std.specs.Prelude.{ℕ, zero, suc, ◌+◌, ◌-◌, ◌*◌, ◌<◌, Bool, true, cond, ◌&&◌, List, [], ◌∷◌, ltb, leb, eqb, length, get_or, replicate}
use Rattle.slots.specs.Slots.{joined_by, after_oldest}
use Rattle.store.specs.Sheet.{writable}
use Rattle.store.specs.Store.{cell_place, with_cell}
use Rattle.history.specs.declared.History.{History}

-- the version number, and how many versions back can be gone to: so many changes are kept
abbrev pub history : ℕ → ℕ → History
history version reach = record { version = version; reach = reach }

-- "(bank, offset, byte before)"
abbrev pub change : ℕ → ℕ → ℕ → List ℕ
change bank offset before = bank ∷ offset ∷ before ∷ []

-- "Keep the last 64 of them": 64 places of three bytes, in a list that is lent; the oldest is at place 0
unfoldable pub changes_long : List ℕ → Bool
changes_long changes = eqb (length changes) 192

abbrev pub no_changes : List ℕ
no_changes = replicate 192 0

unfoldable pub bank_at : List ℕ → ℕ → ℕ
bank_at changes place = get_or changes (3 * place) 0

unfoldable pub offset_at : List ℕ → ℕ → ℕ
offset_at changes place = get_or changes (3 * place + 1) 0

unfoldable pub before_at : List ℕ → ℕ → ℕ
before_at changes place = get_or changes (3 * place + 2) 0

-- a board just made
abbrev pub fresh_history : History
fresh_history = history 0 0

-- refusal 12: "over 64 kept, .. more kept than the version number"; "an unused kept place not 0" is `unused_zero` of three bytes
unfoldable pub history_possible : History → Bool
history_possible h = leb h.reach 64 && leb h.reach h.version

-- "and, after 5, a kept cell not writable by the lent sheet": whether so many kept cells are writable
unfoldable pub kept_writable : ℕ → List ℕ → List ℕ → Bool
kept_writable zero changes sizes = true
kept_writable (suc n) changes sizes = writable sizes (bank_at changes n) (offset_at changes n) && kept_writable n changes sizes

-- "At 2^32 - 1 a cell write is not done": whether there is a number for one more version
unfoldable pub version_free : History → Bool
version_free h = ltb h.version 4294967295

-- what a change leaves: "Each acknowledged write to a module-range cell raises a version number"; of 64 that are kept the oldest is pushed out
pub record Noted : Type 0 where
  pub history : History
  pub changes : List ℕ

abbrev pub noting : History → List ℕ → Noted
noting h changes = record { history = h; changes = changes }

unfoldable pub noted : History → List ℕ → List ℕ → Noted
noted h changes entry =
    cond (ltb h.reach 64)
    (noting (history (h.version + 1) (h.reach + 1)) (joined_by 3 changes h.reach entry))
    (noting (history (h.version + 1) 64) (joined_by 3 (after_oldest 3 changes) 63 entry))

-- GOING BACK. "Refuse with 13 a version older than the kept ones reach or newer than the present": whether a version is neither
unfoldable pub reaches : History → ℕ → Bool
reaches h version = leb version h.version && leb h.version (version + h.reach)

-- what it acts on: how many changes are kept, these, and the store
pub record Past : Type 0 where
  pub reach : ℕ
  pub changes : List ℕ
  pub store : List ℕ

abbrev pub past : ℕ → List ℕ → List ℕ → Past
past reach changes store = record { reach = reach; changes = changes; store = store }

-- "puts the later kept bytes back, newest first, and forgets them": the newest,
unfoldable pub newest_undone : Past → Past
newest_undone p =
    let place = p.reach - 1 in
    past place (joined_by 3 p.changes place (change 0 0 0))
    (with_cell p.store (bank_at p.changes place) (offset_at p.changes place) (before_at p.changes place))

-- and so many in turn
unfoldable pub undone_by : ℕ → Past → Past
undone_by zero p = p
undone_by (suc n) p = undone_by n (newest_undone p)

-- every change later than a version is undone, and the version is the one asked for
pub record WentBack : Type 0 where
  pub history : History
  pub changes : List ℕ
  pub store : List ℕ

abbrev pub went_back : History → List ℕ → List ℕ → WentBack
went_back h changes store = record { history = h; changes = changes; store = store }

unfoldable pub gone_back : History → ℕ → List ℕ → List ℕ → WentBack
gone_back h version changes store =
    let p = undone_by (h.version - version) (past h.reach changes store) in
    went_back (history version p.reach) p.changes p.store

-- the cells of so many changes have a place in the store
abbrev pub KeptWithin : ℕ → List ℕ → List ℕ → Type 0
KeptWithin reach changes store = (place : ℕ) → place < reach → cell_place (bank_at changes place) (offset_at changes place) < length store
