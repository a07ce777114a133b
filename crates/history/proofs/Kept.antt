-- What is kept of the changes: possible stays possible, over a write and over going back.
use Prim.Native.Nat.{ℕ, zero, suc, ◌+◌, ◌-◌, ◌*◌, ◌≤◌, ◌<◌}
use mathlib.Core.Bool.{true}
use mathlib.Core.List.{List}
use mathlib.Core.Path.{◌≡◌, refl, sym, ◌∙◌, ap}
use native.Mathlib.Omega.{arith}
use native.Mathlib.Nat.{add-zero}
use lib.Dec.{ltb, leb, eqb}
use lib.ListN.{length, get_or, drop, drop_of_length-le}
use lib.Seq.{drop-drop}
use borrow.Author.Tests.{ltb-true, ltb-false, lt-ltb, le-ltb, leb-true, le-leb, eqb-true, eqb-false}
use Rattle.bits.proofs.Tests.{by, and_left, and_right, and_both}
use Rattle.slots.specs.Slots.{all_zero, unused_zero, joined_by, after_oldest}
use Rattle.slots.proofs.Zeros.{zeros_drop}
use Rattle.slots.proofs.Joined.{joined_before, joined_here, joined_unused, joined_length, cleared_before, cleared_unused, left_each, left_length}
use Rattle.store.specs.Sheet.{Sheets, lengths_hold, sheets_hold, size_of, writable}
use Rattle.store.specs.Store.{cell_place}
use Rattle.store.proofs.Sizes.{store_long_lem, sizes_long_lem, size_count, size_at_most, no_size}
use Rattle.store.proofs.Places.{cell_within, length_with}
use Rattle.store.proofs.Reading.{readable_used, writable_readable}
use Rattle.history.specs.declared.History.{History}
use Rattle.history.specs.History.{history, change, changes_long, bank_at, offset_at, before_at, history_possible, kept_writable, Noted, noting, noted}
use Rattle.history.specs.History.{reaches, Past, past, newest_undone, undone_by, gone_back, KeptWithin}

-- ---- The changes' bytes, and the places they make.

pub changes_bytes : (changes : List ℕ) → changes_long changes ≡ true → length changes ≡ 192
unfolding changes_long
changes_bytes changes h = eqb-true _ _ h

pub long_stays : (changes changes' : List ℕ) → length changes' ≡ length changes → changes_long changes ≡ true → changes_long changes' ≡ true
unfolding changes_long
long_stays changes changes' e h = rw e h

-- one place holds what another one does
pub record SamePlace (changes : List ℕ) (place : ℕ) (changes' : List ℕ) (place' : ℕ) : Type 0 where
  pub bank : bank_at changes place ≡ bank_at changes' place'
  pub offset : offset_at changes place ≡ offset_at changes' place'
  pub before : before_at changes place ≡ before_at changes' place'

pub same_place : (changes changes' : List ℕ) (place place' : ℕ)
    → ((j : ℕ) → j < 3 → get_or changes (3 * place + j) 0 ≡ get_or changes' (3 * place' + j) 0) → SamePlace changes place changes' place'
unfolding bank_at offset_at before_at
same_place changes changes' place place' h =
    record { bank = simp add-zero at (h 0 (omega arith)); offset = h 1 (omega arith); before = h 2 (omega arith) }

pub same_then : {changes changes' changes'' : List ℕ} {place place' place'' : ℕ}
    → SamePlace changes place changes' place' → SamePlace changes' place' changes'' place'' → SamePlace changes place changes'' place''
same_then p q = record { bank = p.bank ∙ q.bank; offset = p.offset ∙ q.offset; before = p.before ∙ q.before }

pub same_back : {changes changes' : List ℕ} {place place' : ℕ} → SamePlace changes place changes' place' → SamePlace changes' place' changes place
same_back p = record { bank = sym p.bank; offset = sym p.offset; before = sym p.before }

-- a change that joins leaves those before it, and is at its place; so do zeros in the place of the newest
pub joined_same : (changes entry : List ℕ) (used place : ℕ) → 3 * used ≤ length changes → place < used → SamePlace (joined_by 3 changes used entry) place changes place
joined_same changes entry used place fits h =
    same_place (joined_by 3 changes used entry) changes place place (λ j l. joined_before 3 used changes entry fits (3 * place + j) (omega arith))

pub joined_new : (changes : List ℕ) (used bank offset before : ℕ) → 3 * used ≤ length changes
    → let joined = joined_by 3 changes used (change bank offset before) in
    (bank_at joined used ≡ bank) × (offset_at joined used ≡ offset) × (before_at joined used ≡ before)
unfolding bank_at offset_at before_at
joined_new changes used bank offset before fits =
    let here = joined_here 3 used changes (change bank offset before) fits in
    (simp add-zero at (here 0 (omega arith)), here 1 (omega arith), here 2 (omega arith))

pub cleared_place : (changes : List ℕ) (used place : ℕ) → place < used → SamePlace (joined_by 3 changes used (change 0 0 0)) place changes place
unfolding all_zero
cleared_place changes used place h =
    same_place (joined_by 3 changes used (change 0 0 0)) changes place place (λ j l. cleared_before 3 used changes (change 0 0 0) refl (3 * place + j) (omega arith))

-- without the oldest each of the others is a place nearer
pub left_place : (changes : List ℕ) (place : ℕ) → SamePlace (after_oldest 3 changes) place changes (place + 1)
left_place changes place =
    same_place (after_oldest 3 changes) changes place (place + 1)
    (λ j l. let e : 3 + (3 * place + j) ≡ 3 * (place + 1) + j = omega arith in left_each 3 changes (3 * place + j) ∙ ap (λ (i : ℕ). get_or changes i 0) e)

-- ---- Kept cells that are all writable are each writable, and the other way round; each has a place in the store.

pub kept_each : (n : ℕ) (changes sizes : List ℕ) → kept_writable n changes sizes ≡ true → (place : ℕ) → place < n → writable sizes (bank_at changes place) (offset_at changes place) ≡ true
unfolding kept_writable
kept_each zero changes sizes h place l = let z : ⊥ = omega arith in absurd z
kept_each (suc n) changes sizes h place l =
    by (eqb place n) (λ e. rw (eqb-true place n e) (and_left (writable sizes (bank_at changes n) (offset_at changes n)) (kept_writable n changes sizes) h))
    (λ e. let other : place ≡ n → ⊥ = eqb-false place n e in
    kept_each n changes sizes (and_right (writable sizes (bank_at changes n) (offset_at changes n)) (kept_writable n changes sizes) h) place (omega arith))

pub each_kept : (n : ℕ) (changes sizes : List ℕ) → ((place : ℕ) → place < n → writable sizes (bank_at changes place) (offset_at changes place) ≡ true) → kept_writable n changes sizes ≡ true
unfolding kept_writable
each_kept zero changes sizes h = refl
each_kept (suc n) changes sizes h =
    and_both (writable sizes (bank_at changes n) (offset_at changes n)) (kept_writable n changes sizes) (h n (omega arith)) (each_kept n changes sizes (λ place l. h place (omega arith)))

same_writable : (changes changes' sizes : List ℕ) (place place' : ℕ) → SamePlace changes place changes' place'
    → writable sizes (bank_at changes' place') (offset_at changes' place') ≡ true → writable sizes (bank_at changes place) (offset_at changes place) ≡ true
same_writable changes changes' sizes place place' p h = rw (p.bank, p.offset) h

pub writable_within : (store : List ℕ) (sheets : Sheets) → lengths_hold store sheets ≡ true → sheets_hold sheets ≡ true
    → (bank offset : ℕ) → writable sheets.sizes bank offset ≡ true → cell_place bank offset < length store
writable_within store sheets l h bank offset w =
    let used : offset < size_of sheets.sizes bank = readable_used sheets.sizes bank offset (writable_readable sheets.sizes bank offset w) in
    let few : size_of sheets.sizes bank ≤ 40 = size_at_most sheets h bank in
    let banks : length sheets.sizes ≡ 256 = size_count sheets.sizes (sizes_long_lem store sheets l) in
    by (ltb bank 256) (λ b. cell_within store (store_long_lem store sheets l) bank offset (ltb-true bank 256 b) (omega arith))
    (λ b. let none : size_of sheets.sizes bank ≡ 0 = no_size sheets.sizes bank (omega (arith, ltb-false bank 256 b)) in let z : ⊥ = omega arith in absurd z)

pub kept_within : (store : List ℕ) (sheets : Sheets) → lengths_hold store sheets ≡ true → sheets_hold sheets ≡ true
    → (reach : ℕ) (changes : List ℕ) → kept_writable reach changes sheets.sizes ≡ true → KeptWithin reach changes store
kept_within store sheets l h reach changes w place n =
    writable_within store sheets l h (bank_at changes place) (offset_at changes place) (kept_each reach changes sheets.sizes w place n)

-- ---- A possible history, taken apart and put together.

pub at_most_64 : (h : History) → history_possible h ≡ true → h.reach ≤ 64
unfolding history_possible
at_most_64 h p = leb-true _ _ (and_left (leb h.reach 64) (leb h.reach h.version) p)

pub at_most_version : (h : History) → history_possible h ≡ true → h.reach ≤ h.version
unfolding history_possible
at_most_version h p = leb-true _ _ (and_right (leb h.reach 64) (leb h.reach h.version) p)

pub possible_if : (h : History) → h.reach ≤ 64 → h.reach ≤ h.version → history_possible h ≡ true
unfolding history_possible
possible_if h a b = and_both (leb h.reach 64) (leb h.reach h.version) (le-leb _ _ a) (le-leb _ _ b)

-- ---- A change that is noted: one version more, one place more of 64 at most; what is possible stays so.

module _ (h : History) (changes entry : List ℕ) where
  pub noted_few : h.reach < 64 → noted h changes entry ≡ noting (history (h.version + 1) (h.reach + 1)) (joined_by 3 changes h.reach entry)
  unfolding noted
  noted_few l = rw (lt-ltb h.reach 64 l)

  pub noted_full : 64 ≤ h.reach → noted h changes entry ≡ noting (history (h.version + 1) 64) (joined_by 3 (after_oldest 3 changes) 63 entry)
  unfolding noted
  noted_full l = rw (le-ltb h.reach 64 l)

  -- what holds of a change behind fewer than 64, and of one behind 64, holds of every change
  pub noted_cases : (P : Noted → Type 0)
      → (h.reach < 64 → P (noting (history (h.version + 1) (h.reach + 1)) (joined_by 3 changes h.reach entry)))
      → (64 ≤ h.reach → P (noting (history (h.version + 1) 64) (joined_by 3 (after_oldest 3 changes) 63 entry))) → P (noted h changes entry)
  noted_cases P few full =
      by (ltb h.reach 64) (λ e. let l : h.reach < 64 = ltb-true h.reach 64 e in rw (noted_few l) (few l))
      (λ e. let l : 64 ≤ h.reach = ltb-false h.reach 64 e in rw (noted_full l) (full l))

  pub noted_version : (noted h changes entry).history.version ≡ h.version + 1
  noted_version = noted_cases (λ (n : Noted). n.history.version ≡ h.version + 1) (λ l. refl) (λ l. refl)

  pub noted_reach_few : h.reach < 64 → (noted h changes entry).history.reach ≡ h.reach + 1
  noted_reach_few l = rw (noted_few l)

  pub noted_reach_full : 64 ≤ h.reach → (noted h changes entry).history.reach ≡ 64
  noted_reach_full l = rw (noted_full l)

  pub noted_possible : history_possible h ≡ true → history_possible (noted h changes entry).history ≡ true
  noted_possible p =
      noted_cases (λ (n : Noted). history_possible n.history ≡ true)
      (λ l. possible_if (history (h.version + 1) (h.reach + 1)) (omega arith) (omega (arith, at_most_version h p)))
      (λ l. possible_if (history (h.version + 1) 64) (omega arith) (omega (arith, at_most_version h p)))

  pub noted_long : changes_long changes ≡ true → length entry ≡ 3 → changes_long (noted h changes entry).changes ≡ true
  noted_long long three =
      let bytes = changes_bytes changes long in
      let left : length (after_oldest 3 changes) ≡ length changes = left_length 3 changes (omega arith) in
      noted_cases (λ (n : Noted). changes_long n.changes ≡ true)
      (λ l. long_stays changes (joined_by 3 changes h.reach entry) (joined_length 3 h.reach changes entry three (omega arith)) long)
      (λ l. long_stays changes (joined_by 3 (after_oldest 3 changes) 63 entry) (joined_length 3 63 (after_oldest 3 changes) entry three (omega arith) ∙ left) long)

  pub noted_unused : changes_long changes ≡ true → length entry ≡ 3 → unused_zero 3 h.reach changes ≡ true
      → unused_zero 3 (noted h changes entry).history.reach (noted h changes entry).changes ≡ true
  unfolding unused_zero all_zero
  noted_unused long three zeros =
      let bytes = changes_bytes changes long in
      let left : length (after_oldest 3 changes) ≡ length changes = left_length 3 changes (omega arith) in
      let all : length (joined_by 3 (after_oldest 3 changes) 63 entry) ≡ 192 = joined_length 3 63 (after_oldest 3 changes) entry three (omega arith) ∙ left ∙ bytes in
      noted_cases (λ (n : Noted). unused_zero 3 n.history.reach n.changes ≡ true)
      (λ l. joined_unused 3 h.reach changes entry three zeros)
      (λ l. rw (drop_of_length-le (joined_by 3 (after_oldest 3 changes) 63 entry) {i = 192} (omega arith)))

-- the kept cells stay writable
module _ (h : History) (changes sizes : List ℕ) (bank offset before : ℕ) (long : changes_long changes ≡ true) (kept : kept_writable h.reach changes sizes ≡ true) where
  joined_writable : (list : List ℕ) (used : ℕ) → 3 * used ≤ length list → writable sizes bank offset ≡ true
      → ((place : ℕ) → place < used → writable sizes (bank_at list place) (offset_at list place) ≡ true) → kept_writable (used + 1) (joined_by 3 list used (change bank offset before)) sizes ≡ true
  joined_writable list used fits w each =
      each_kept (used + 1) (joined_by 3 list used (change bank offset before)) sizes
      (λ place l. by (eqb place used)
      (λ e. let new = joined_new list used bank offset before fits in rw (eqb-true place used e, new.0, new.1) w)
      (λ e. let other : place ≡ used → ⊥ = eqb-false place used e in let less : place < used = omega arith in
      same_writable (joined_by 3 list used (change bank offset before)) list sizes place place (joined_same list (change bank offset before) used place fits less) (each place less)))

  pub noted_writable : history_possible h ≡ true → writable sizes bank offset ≡ true
      → kept_writable (noted h changes (change bank offset before)).history.reach (noted h changes (change bank offset before)).changes sizes ≡ true
  noted_writable p w =
      let bytes = changes_bytes changes long in
      let few = at_most_64 h p in
      let left : length (after_oldest 3 changes) ≡ length changes = left_length 3 changes (omega arith) in
      noted_cases h changes (change bank offset before) (λ (n : Noted). kept_writable n.history.reach n.changes sizes ≡ true)
      (λ l. joined_writable changes h.reach (omega arith) w (kept_each h.reach changes sizes kept))
      (λ l. joined_writable (after_oldest 3 changes) 63 (omega arith) w
      (λ place n. same_writable (after_oldest 3 changes) changes sizes place (place + 1) (left_place changes place) (kept_each h.reach changes sizes kept (place + 1) (omega arith))))

-- ---- The newest undone, and so many in turn: what is possible stays so, and the places that are left hold what they held.

pub undone_keeps : (P : Past → Type 0) → ((p : Past) → P p → P (newest_undone p)) → (n : ℕ) (p : Past) → P p → P (undone_by n p)
unfolding undone_by
undone_keeps P step zero p h = h
undone_keeps P step (suc n) p h = undone_keeps P step n (newest_undone p) (step p h)

pub undone_reach : (n : ℕ) (p : Past) → (undone_by n p).reach ≡ p.reach - n
unfolding undone_by newest_undone
undone_reach zero p = omega arith
undone_reach (suc n) p = undone_reach n (newest_undone p) ∙ omega arith

newest_unused : (p : Past) → unused_zero 3 p.reach p.changes ≡ true → unused_zero 3 (newest_undone p).reach (newest_undone p).changes ≡ true
unfolding newest_undone unused_zero all_zero
newest_unused p h =
    let place = p.reach - 1 in
    let e : 3 * p.reach + (3 * place + 3 - 3 * p.reach) ≡ 3 * place + 3 = omega arith in
    let zeros = rw (drop-drop (3 * place + 3 - 3 * p.reach) (3 * p.reach) p.changes, e) at (zeros_drop (3 * place + 3 - 3 * p.reach) (drop (3 * p.reach) p.changes) h) in
    cleared_unused 3 place p.changes (change 0 0 0) refl zeros

pub undone_unused : (n : ℕ) (p : Past) → unused_zero 3 p.reach p.changes ≡ true → unused_zero 3 (undone_by n p).reach (undone_by n p).changes ≡ true
undone_unused n p h = undone_keeps (λ (q : Past). unused_zero 3 q.reach q.changes ≡ true) newest_unused n p h

pub newest_long : (p : Past) → (p.reach ≤ 64) × (changes_long p.changes ≡ true) → ((newest_undone p).reach ≤ 64) × (changes_long (newest_undone p).changes ≡ true)
unfolding newest_undone
newest_long p h =
    let bytes = changes_bytes p.changes h.1 in
    let some = h.0 in
    (omega arith, long_stays p.changes (joined_by 3 p.changes (p.reach - 1) (change 0 0 0)) (joined_length 3 (p.reach - 1) p.changes (change 0 0 0) refl (omega arith)) h.1)

pub undone_long : (n : ℕ) (p : Past) → p.reach ≤ 64 → changes_long p.changes ≡ true → changes_long (undone_by n p).changes ≡ true
undone_long n p few long = (undone_keeps (λ (q : Past). (q.reach ≤ 64) × (changes_long q.changes ≡ true)) newest_long n p (few, long)).1

pub newest_store_length : (size : ℕ) (p : Past) → length p.store ≡ size → length (newest_undone p).store ≡ size
unfolding newest_undone
newest_store_length size p h = length_with p.store _ _ _ ∙ h

pub undone_store_length : (n : ℕ) (p : Past) → length (undone_by n p).store ≡ length p.store
undone_store_length n p = undone_keeps (λ (q : Past). length q.store ≡ length p.store) (newest_store_length (length p.store)) n p refl

pub newest_kept : (p : Past) (place : ℕ) → place < p.reach - 1 → SamePlace (newest_undone p).changes place p.changes place
unfolding newest_undone
newest_kept p place l = cleared_place p.changes (p.reach - 1) place l

pub undone_kept : (n : ℕ) (p : Past) (place : ℕ) → place < p.reach - n → SamePlace (undone_by n p).changes place p.changes place
unfolding undone_by
undone_kept zero p place l = record { bank = refl; offset = refl; before = refl }
undone_kept (suc n) p place l =
    let one : (newest_undone p).reach ≡ p.reach - 1 = undone_reach 1 p in
    same_then (undone_kept n (newest_undone p) place (omega arith)) (newest_kept p place (omega arith))

pub undone_writable : (n : ℕ) (p : Past) (sizes : List ℕ) → kept_writable p.reach p.changes sizes ≡ true → kept_writable (undone_by n p).reach (undone_by n p).changes sizes ≡ true
undone_writable n p sizes h =
    let left = undone_reach n p in
    each_kept (undone_by n p).reach (undone_by n p).changes sizes
    (λ place l. same_writable (undone_by n p).changes p.changes sizes place place (undone_kept n p place (omega arith)) (kept_each p.reach p.changes sizes h place (omega arith)))

-- ---- Gone back to a version that is reached: what is possible stays so.

pub not_newer : (h : History) (version : ℕ) → reaches h version ≡ true → version ≤ h.version
unfolding reaches
not_newer h version r = leb-true _ _ (and_left (leb version h.version) (leb h.version (version + h.reach)) r)

pub not_older : (h : History) (version : ℕ) → reaches h version ≡ true → h.version ≤ version + h.reach
unfolding reaches
not_older h version r = leb-true _ _ (and_right (leb version h.version) (leb h.version (version + h.reach)) r)

pub reaches_if : (h : History) (version : ℕ) → version ≤ h.version → h.version ≤ version + h.reach → reaches h version ≡ true
unfolding reaches
reaches_if h version a b = and_both (leb version h.version) (leb h.version (version + h.reach)) (le-leb _ _ a) (le-leb _ _ b)

module _ (h : History) (version : ℕ) (changes store : List ℕ) where
  pub back_version : (gone_back h version changes store).history.version ≡ version
  unfolding gone_back
  back_version = refl

  pub back_reach : (gone_back h version changes store).history.reach ≡ h.reach - (h.version - version)
  unfolding gone_back
  back_reach = undone_reach (h.version - version) (past h.reach changes store)

  pub back_possible : history_possible h ≡ true → reaches h version ≡ true → history_possible (gone_back h version changes store).history ≡ true
  back_possible p r =
      let few = at_most_64 h p in
      let versions = at_most_version h p in
      let newer = not_newer h version r in
      possible_if (gone_back h version changes store).history (omega (arith, back_reach)) (omega (arith, back_reach, back_version))

  pub back_long : history_possible h ≡ true → changes_long changes ≡ true → changes_long (gone_back h version changes store).changes ≡ true
  unfolding gone_back
  back_long p long = undone_long (h.version - version) (past h.reach changes store) (at_most_64 h p) long

  pub back_unused : unused_zero 3 h.reach changes ≡ true → unused_zero 3 (gone_back h version changes store).history.reach (gone_back h version changes store).changes ≡ true
  unfolding gone_back
  back_unused zeros = undone_unused (h.version - version) (past h.reach changes store) zeros

  pub back_writable : (sizes : List ℕ) → kept_writable h.reach changes sizes ≡ true
      → kept_writable (gone_back h version changes store).history.reach (gone_back h version changes store).changes sizes ≡ true
  unfolding gone_back
  back_writable sizes kept = undone_writable (h.version - version) (past h.reach changes store) sizes kept

  pub back_store_length : length (gone_back h version changes store).store ≡ length store
  unfolding gone_back
  back_store_length = undone_store_length (h.version - version) (past h.reach changes store)
