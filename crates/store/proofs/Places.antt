-- A cell's place in the store: what is written there is read there, and nowhere else.
use Prim.Native.Nat.{ℕ, ◌+◌, ◌*◌, ◌≤◌, ◌<◌}
use mathlib.Core.List.{List}
use mathlib.Core.Bool.{true}
use mathlib.Core.Path.{◌≡◌, ◌∙◌}
use native.Mathlib.Omega.{arith}
use lib.ListN.{length, get_or, take, drop, length-set, length-drop}
use lib.Seq.{get_or-set_same, get_or-set_other, get_or-take, get_or-drop, length-take-le}
use Rattle.bits.specs.Bits.{Bytes}
use Rattle.bits.proofs.Lists.{set_each}
use Rattle.store.specs.Sheet.{store_long}
use Rattle.store.specs.Store.{cell_place, held_at, with_cell}
use Rattle.store.proofs.Sizes.{store_bytes}

-- every cell of the 256 banks has room in the store
place_lt : (bank offset : ℕ) → bank < 256 → offset < 40 → cell_place bank offset < 10240
unfolding cell_place
place_lt bank offset b o = omega arith

pub cell_within : (store : List ℕ) → store_long store ≡ true → (bank offset : ℕ) → bank < 256 → offset < 40 → cell_place bank offset < length store
cell_within store h bank offset b o = omega (arith, place_lt bank offset b o, store_bytes store h)

-- and a place of its own
pub place_own : (b o b' o' : ℕ) → o < 40 → o' < 40 → cell_place b o ≡ cell_place b' o' → (b ≡ b') × (o ≡ o')
unfolding cell_place
place_own b o b' o' h h' e = (omega arith, omega arith)

pub length_with : (store : List ℕ) (bank offset value : ℕ) → length (with_cell store bank offset value) ≡ length store
unfolding with_cell
length_with store bank offset value = length-set store _ value

-- what was written is read
pub held_same : (store : List ℕ) (bank offset value : ℕ) → cell_place bank offset < length store → held_at (with_cell store bank offset value) bank offset ≡ value
unfolding with_cell held_at
held_same store bank offset value h = get_or-set_same store (cell_place bank offset) value 0 h

-- every other cell reads as before
pub held_other : (store : List ℕ) (b o value b' o' : ℕ) → o < 40 → o' < 40 → ((b' ≡ b) × (o' ≡ o) → ⊥) → held_at (with_cell store b o value) b' o' ≡ held_at store b' o'
unfolding with_cell held_at
held_other store b o value b' o' h h' n = get_or-set_other store (cell_place b o) (cell_place b' o') value 0 (λ e. n (place_own b' o' b o h' h e))

-- the cells of a bank stand side by side
pub held_part : (store : List ℕ) (bank n i : ℕ) → i < n → get_or (take n (drop (cell_place bank 0) store)) i 0 ≡ held_at store bank i
unfolding held_at cell_place
held_part store bank n i h =
    let e : bank * 40 + 0 + i ≡ bank * 40 + i = omega arith in
    get_or-take n (drop (bank * 40 + 0) store) i 0 h ∙ get_or-drop (bank * 40 + 0) store i 0 ∙ rw e

pub part_length : (store : List ℕ) (bank n : ℕ) → length store ≡ 10240 → bank < 256 → n ≤ 40 → length (take n (drop (cell_place bank 0) store)) ≡ n
unfolding cell_place
part_length store bank n l b h = length-take-le n (drop (bank * 40 + 0) store) (simp length-drop (omega arith))

-- no other byte of the store is touched
pub other_byte : (store : List ℕ) (bank offset value i : ℕ) → (i ≡ cell_place bank offset → ⊥) → get_or (with_cell store bank offset value) i 0 ≡ get_or store i 0
unfolding with_cell
other_byte store bank offset value i n = get_or-set_other store (cell_place bank offset) i value 0 n

-- a store of bytes stays one
pub still_bytes : (store : List ℕ) (bank offset value : ℕ) → value < 256 → Bytes store → Bytes (with_cell store bank offset value)
unfolding with_cell
still_bytes store bank offset value v h = set_each (λ (b : ℕ). b < 256) store (cell_place bank offset) value 0 h v
