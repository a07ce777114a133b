-- What going back gives: two steps are one, and a write that is undone was never made.
use Prim.Native.Nat.{ℕ, zero, suc, ◌+◌, ◌-◌, ◌*◌, ◌≤◌, ◌<◌}
use mathlib.Core.Bool.{true, cond}
use mathlib.Core.List.{List}
use mathlib.Core.Path.{◌≡◌, refl, sym, ◌∙◌, ap}
use native.Mathlib.Omega.{arith}
use native.Mathlib.Nat.{zero-add}
use lib.Dec.{leb}
use lib.ListN.{length, get_or}
use lib.Seq.{set-set, set-get_or}
use borrow.Author.Tests.{leb-true, leb-false, le-leb, lt-leb}
use Rattle.bits.proofs.Tests.{by}
use Rattle.slots.specs.Slots.{all_zero, unused_zero, joined_by, after_oldest}
use Rattle.slots.proofs.Joined.{joined_again, cleared_same, left_length}
use Rattle.store.specs.Store.{cell_place, held_at, with_cell}
use Rattle.history.specs.declared.History.{History}
use Rattle.history.specs.History.{history, change, changes_long, bank_at, offset_at, before_at, history_possible, Noted, noted}
use Rattle.history.specs.History.{reaches, Past, past, newest_undone, undone_by, WentBack, went_back, gone_back}
use Rattle.history.proofs.Kept.{changes_bytes, SamePlace, same_then, same_back, joined_new, cleared_place, left_place}
use Rattle.history.proofs.Kept.{at_most_64, noted_few, noted_cases, noted_version, undone_reach, not_newer, not_older, reaches_if, back_version}

-- the store after so many changes are undone
abbrev pub store_before : ℕ → ℕ → List ℕ → List ℕ → List ℕ
store_before n reach changes store = (undone_by n (past reach changes store)).store

-- ---- TWO STEPS ARE ONE.

pub two_steps : (j k : ℕ) (p : Past) → undone_by (j + k) p ≡ undone_by k (undone_by j p)
unfolding undone_by
two_steps zero k p = ap (λ (n : ℕ). undone_by n p) (zero-add k)
two_steps (suc j) k p =
    let e : suc j + k ≡ suc (j + k) = omega arith in
    ap (λ (n : ℕ). undone_by n p) e ∙ two_steps j k (newest_undone p)

-- to go back to the present version changes nothing
pub back_here : (h : History) (changes store : List ℕ) → gone_back h h.version changes store ≡ went_back h changes store
unfolding gone_back undone_by
back_here h changes store =
    let e : h.version - h.version ≡ 0 = omega arith in
    rw e

module _ (h : History) (u v : ℕ) (changes store : List ℕ) (reached : reaches h u ≡ true) (earlier : v ≤ u) where
  -- from a version that was gone back to, the earlier ones are reached that were reached before,
  pub back_reaches : reaches (gone_back h u changes store).history v ≡ reaches h v
  unfolding reaches gone_back
  back_reaches =
      let newer : u ≤ h.version = not_newer h u reached in
      let older : h.version ≤ u + h.reach = not_older h u reached in
      let n : v ≤ h.version = omega arith in
      let left = undone_reach (h.version - u) (past h.reach changes store) in
      by (leb h.version (v + h.reach))
      (λ e. let f : h.version ≤ v + h.reach = leb-true h.version (v + h.reach) e in
      let g : u ≤ v + (h.reach - (h.version - u)) = omega arith in
      simp (left, le-leb v u earlier, le-leb v h.version n, le-leb u (v + (h.reach - (h.version - u))) g, e))
      (λ e. let f : v + h.reach < h.version = leb-false h.version (v + h.reach) e in
      let g : v + (h.reach - (h.version - u)) < u = omega arith in
      simp (left, le-leb v u earlier, le-leb v h.version n, lt-leb u (v + (h.reach - (h.version - u))) g, e))

  -- and to go on to one gives what going to it at once gives
  pub back_twice : gone_back (gone_back h u changes store).history v (gone_back h u changes store).changes (gone_back h u changes store).store ≡ gone_back h v changes store
  unfolding gone_back
  back_twice =
      let newer : u ≤ h.version = not_newer h u reached in
      let e : h.version - v ≡ h.version - u + (u - v) = omega arith in
      let one : undone_by (u - v) (undone_by (h.version - u) (past h.reach changes store)) ≡ undone_by (h.version - v) (past h.reach changes store) =
      sym (two_steps (h.version - u) (u - v) (past h.reach changes store)) ∙ ap (λ (n : ℕ). undone_by n (past h.reach changes store)) (sym e) in
      ap (λ (p : Past). went_back (history v p.reach) p.changes p.store) one

-- ---- The store after going back hangs on the newest places alone.

before_last : (reach i : ℕ) → reach - 1 - suc i ≡ reach - 1 - 1 - i
before_last reach i = omega arith

below_last : (n reach i : ℕ) → suc n ≤ reach → i < n → reach - 1 - 1 - i < reach - 1
below_last n reach i h l = omega arith

pub same_places : (n reach reach' : ℕ) (changes changes' store : List ℕ) → n ≤ reach → n ≤ reach'
    → ((i : ℕ) → i < n → SamePlace changes (reach - 1 - i) changes' (reach' - 1 - i)) → store_before n reach changes store ≡ store_before n reach' changes' store
unfolding undone_by newest_undone
same_places zero reach reach' changes changes' store h h' same = refl
same_places (suc n) reach reach' changes changes' store h h' same =
    let e : reach - 1 - 0 ≡ reach - 1 = omega arith in
    let e' : reach' - 1 - 0 ≡ reach' - 1 = omega arith in
    let first : SamePlace changes (reach - 1) changes' (reach' - 1) = rw (e, e') at (same 0 (omega arith)) in
    same_places n (reach - 1) (reach' - 1) (joined_by 3 changes (reach - 1) (change 0 0 0)) (joined_by 3 changes' (reach' - 1) (change 0 0 0))
    (with_cell store (bank_at changes (reach - 1)) (offset_at changes (reach - 1)) (before_at changes (reach - 1))) (omega arith) (omega arith)
    (λ i l. let next = rw (before_last reach i, before_last reach' i) at (same (suc i) (omega arith)) in
    same_then (cleared_place changes (reach - 1) (reach - 1 - 1 - i) (below_last n reach i h l))
    (same_then next (same_back (cleared_place changes' (reach' - 1) (reach' - 1 - 1 - i) (below_last n reach' i h' l)))))
    ∙ rw (first.bank, first.offset, first.before)

-- ---- A WRITE UNDONE WAS NEVER MADE.

-- a byte put back
pub put_back : (store : List ℕ) (bank offset value : ℕ) → with_cell (with_cell store bank offset value) bank offset (held_at store bank offset) ≡ store
unfolding with_cell held_at
put_back store bank offset value = set-set store (cell_place bank offset) value (get_or store (cell_place bank offset) 0) ∙ set-get_or store (cell_place bank offset) 0

-- the newest of the changes, undone where it has just joined
joined_undone : (list store : List ℕ) (used bank offset value : ℕ) → 3 * used ≤ length list
    → newest_undone (past (used + 1) (joined_by 3 list used (change bank offset (held_at store bank offset))) (with_cell store bank offset value))
    ≡ past used (joined_by 3 list used (change 0 0 0)) store
unfolding newest_undone
joined_undone list store used bank offset value fits =
    let e : used + 1 - 1 ≡ used = omega arith in
    let new = joined_new list used bank offset (held_at store bank offset) fits in
    simp (e, new.0, new.1, new.2, put_back, joined_again 3 used list (change bank offset (held_at store bank offset)) fits (change 0 0 0) refl)

module _ (h : History) (changes store : List ℕ) (bank offset value : ℕ) (long : changes_long changes ≡ true) where
  -- what was kept and what was held before the write, to the byte, where it pushed no change out
  pub undone_note_changes : h.reach < 64 → unused_zero 3 h.reach changes ≡ true
      → let n = noted h changes (change bank offset (held_at store bank offset)) in
      newest_undone (past n.history.reach n.changes (with_cell store bank offset value)) ≡ past h.reach changes store
  unfolding all_zero
  undone_note_changes l zeros =
      let bytes = changes_bytes changes long in
      rw (noted_few h changes (change bank offset (held_at store bank offset)) l)
      (joined_undone changes store h.reach bank offset value (omega arith)
      ∙ ap (λ (c : List ℕ). past h.reach c store) (cleared_same 3 h.reach changes (change 0 0 0) refl refl (omega arith) zeros))

  -- one step more back after the write is as many steps back as before it
  pub undone_note : history_possible h ≡ true → (n : ℕ) → suc n ≤ (noted h changes (change bank offset (held_at store bank offset))).history.reach
      → let after = noted h changes (change bank offset (held_at store bank offset)) in
      store_before (suc n) after.history.reach after.changes (with_cell store bank offset value) ≡ store_before n h.reach changes store
  unfolding undone_by
  undone_note p n =
      let bytes = changes_bytes changes long in
      let few = at_most_64 h p in
      let left : length (after_oldest 3 changes) ≡ length changes = left_length 3 changes (omega arith) in
      noted_cases h changes (change bank offset (held_at store bank offset))
      (λ (after : Noted). suc n ≤ after.history.reach → store_before (suc n) after.history.reach after.changes (with_cell store bank offset value) ≡ store_before n h.reach changes store)
      (λ l m. ap (λ (q : Past). (undone_by n q).store) (joined_undone changes store h.reach bank offset value (omega arith))
      ∙ same_places n h.reach h.reach (joined_by 3 changes h.reach (change 0 0 0)) changes store (omega arith) (omega arith)
      (λ i k. cleared_place changes h.reach (h.reach - 1 - i) (omega arith)))
      (λ l m. ap (λ (q : Past). (undone_by n q).store) (joined_undone (after_oldest 3 changes) store 63 bank offset value (omega arith))
      ∙ same_places n 63 h.reach (joined_by 3 (after_oldest 3 changes) 63 (change 0 0 0)) changes store (omega arith) (omega arith)
      (λ i k. let e : 63 - 1 - i + 1 ≡ h.reach - 1 - i = omega arith in
      same_then (cleared_place (after_oldest 3 changes) 63 (63 - 1 - i) (omega arith)) (rw e at (left_place changes (63 - 1 - i)))))

-- ---- The same of versions: what going back over a write gives.

module _ (h : History) (changes entry : List ℕ) where
  -- of the versions before a change, those that are reached after it were reached before it
  pub note_reaches : (version : ℕ) → version ≤ h.version → reaches (noted h changes entry).history version ≡ true → reaches h version ≡ true
  note_reaches version v =
      noted_cases h changes entry (λ (n : Noted). reaches n.history version ≡ true → reaches h version ≡ true)
      (λ l r. reaches_if h version v (omega (arith, not_older (history (h.version + 1) (h.reach + 1)) version r)))
      (λ l r. reaches_if h version v (omega (arith, not_older (history (h.version + 1) 64) version r)))

  -- and the version just before it is always reached
  pub last_reached : reaches (noted h changes entry).history h.version ≡ true
  last_reached =
      noted_cases h changes entry (λ (n : Noted). reaches n.history h.version ≡ true)
      (λ l. reaches_if (history (h.version + 1) (h.reach + 1)) h.version (omega arith) (omega arith))
      (λ l. reaches_if (history (h.version + 1) 64) h.version (omega arith) (omega arith))

module _ (h : History) (changes store : List ℕ) (bank offset value : ℕ) (long : changes_long changes ≡ true) (possible : history_possible h ≡ true) where
  -- gone back over the write, the store is what it is without the write
  pub back_note : (version : ℕ) → version ≤ h.version
      → let after = noted h changes (change bank offset (held_at store bank offset)) in
      reaches after.history version ≡ true → (gone_back after.history version after.changes (with_cell store bank offset value)).store ≡ (gone_back h version changes store).store
  unfolding gone_back
  back_note version v r =
      let after = noted h changes (change bank offset (held_at store bank offset)) in
      let next : after.history.version ≡ h.version + 1 = noted_version h changes (change bank offset (held_at store bank offset)) in
      let older : after.history.version ≤ version + after.history.reach = not_older after.history version r in
      let e : after.history.version - version ≡ suc (h.version - version) = omega arith in
      ap (λ (n : ℕ). store_before n after.history.reach after.changes (with_cell store bank offset value)) e
      ∙ undone_note h changes store bank offset value long possible (h.version - version) (omega arith)

  -- gone back to the version just before it, the store is what it was
  pub note_undone :
      let after = noted h changes (change bank offset (held_at store bank offset)) in
      (gone_back after.history h.version after.changes (with_cell store bank offset value)).store ≡ store
  note_undone =
      back_note h.version (omega arith) (last_reached h changes (change bank offset (held_at store bank offset)))
      ∙ ap (λ (w : WentBack). w.store) (back_here h changes store)

-- ---- "Every cell is then as the history has it": a store for each version, and going back to a version that is reached gives that of the version.

abbrev pub AsAtVersions : (ℕ → List ℕ) → History → List ℕ → List ℕ → Type 0
AsAtVersions stores h changes store = (version : ℕ) → reaches h version ≡ true → (gone_back h version changes store).store ≡ stores version

-- the stores with one more version, that of a write
abbrev pub and_then : (ℕ → List ℕ) → ℕ → List ℕ → ℕ → List ℕ
and_then stores last store version = cond (leb version last) (stores version) store

-- so it is where nothing is kept, where only the present version is reached,
pub first_versions : (h : History) (changes store : List ℕ) → h.reach ≡ 0 → AsAtVersions (λ v. store) h changes store
unfolding gone_back undone_by
first_versions h changes store none version r =
    let newer = not_newer h version r in
    let older = not_older h version r in
    let e : h.version - version ≡ 0 = omega arith in
    rw e

-- after each write,
pub write_versions : (stores : ℕ → List ℕ) (h : History) (changes store : List ℕ) (bank offset value : ℕ) → changes_long changes ≡ true → history_possible h ≡ true
    → AsAtVersions stores h changes store
    → let after = noted h changes (change bank offset (held_at store bank offset)) in
    AsAtVersions (and_then stores h.version (with_cell store bank offset value)) after.history after.changes (with_cell store bank offset value)
write_versions stores h changes store bank offset value long possible told version r =
    let entry = change bank offset (held_at store bank offset) in
    let after = noted h changes entry in
    let next : after.history.version ≡ h.version + 1 = noted_version h changes entry in
    let newer : version ≤ after.history.version = not_newer after.history version r in
    by (leb version h.version)
    (λ e. let v : version ≤ h.version = leb-true version h.version e in
    back_note h changes store bank offset value long possible version v r ∙ told version (note_reaches h changes entry version v r) ∙ rw e)
    (λ e. let v : h.version < version = leb-false version h.version e in
    let present : version ≡ after.history.version = omega arith in
    ap (λ (u : ℕ). (gone_back after.history u after.changes (with_cell store bank offset value)).store) present
    ∙ ap (λ (w : WentBack). w.store) (back_here after.history after.changes (with_cell store bank offset value)) ∙ rw e)

-- and after each going back
pub back_versions : (stores : ℕ → List ℕ) (h : History) (changes store : List ℕ) (u : ℕ) → reaches h u ≡ true
    → AsAtVersions stores h changes store
    → AsAtVersions stores (gone_back h u changes store).history (gone_back h u changes store).changes (gone_back h u changes store).store
back_versions stores h changes store u reached told version r =
    let v : version ≤ u = omega (arith, not_newer (gone_back h u changes store).history version r, back_version h u changes store) in
    ap (λ (w : WentBack). w.store) (back_twice h u version changes store reached v) ∙ told version (sym (back_reaches h u version changes store reached v) ∙ r)
