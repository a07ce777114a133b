-- STORES THAT ARE ALIKE TO THE LINE: what is read of one is read of the other, and after a write that is done they are alike again. Stores
-- that are the same are; and so are those that differ in bank 254's old places.
use Prim.Native.Nat.{ℕ, suc, ◌+◌, ◌*◌, ◌≤◌, ◌<◌}
use mathlib.Core.List.{List, [], ◌∷◌}
use mathlib.Core.Bool.{true}
use mathlib.Core.Path.{◌≡◌, refl, sym, ◌∙◌, ap}
use native.Mathlib.Omega.{arith}
use native.Mathlib.Nat.{min-le_left}
use lib.Dec.{ltb, eqb}
use lib.ListN.{length, get_or, take, drop, set, length-take, length-drop, length-set}
use lib.Seq.{get_or-take, get_or-drop, get_or-set_same, get_or-set_other, set_out}
use borrow.Author.Tests.{ltb-true, ltb-false, eqb-true, eqb-false}
use Rattle.bits.proofs.Tests.{by}
use Rattle.store.specs.Sheet.{sheets_of, sheets_hold, leading_of}
use Rattle.store.specs.Store.{cell_place, with_cell}
use Rattle.board.specs.declared.record.Module.{Module}
use Rattle.board.specs.Board.{Board, board_of}
use Rattle.store.proofs.Sizes.{leading_at_most}
use Rattle.flash.specs.OldBank.{bank_was}
use Rattle.flash.specs.FixedBank.{OtherBanksSame, SameButOldPlaces}

pub record ReadAlike (sizes : List ℕ) (Stores : List ℕ → List ℕ → Type 0) : Type 0 where
  pub long : (store other : List ℕ) → Stores store other → length other ≡ length store
  pub held : (store other : List ℕ) → Stores store other → (bank offset : ℕ) → (bank ≡ 254 → ⊥) → offset < 40
      → get_or other (bank * 40 + offset) 0 ≡ get_or store (bank * 40 + offset) 0
  pub bank : (store other : List ℕ) → Stores store other → (bank : ℕ) → bank_was other sizes bank ≡ bank_was store sizes bank
  pub written : (store other : List ℕ) → Stores store other → (bank offset value : ℕ)
      → Stores (with_cell store bank offset value) (with_cell other bank offset value)

-- the same store
abbrev pub Same : List ℕ → List ℕ → Type 0
Same store other = other ≡ store

pub same_alike : (sizes : List ℕ) → ReadAlike sizes Same
same_alike sizes =
    record {
      long = λ store other e. ap length e;
      held = λ store other e bank offset n h. ap (λ (l : List ℕ). get_or l (bank * 40 + offset) 0) e;
      bank = λ store other e bank. ap (λ (l : List ℕ). bank_was l sizes bank) e;
      written = λ store other e bank offset value. ap (λ (l : List ℕ). with_cell l bank offset value) e;
    }

-- a byte of two lists that are as long as one another, both written at a place
set_both : (l m : List ℕ) (i j v : ℕ) → length m ≡ length l → get_or m j 0 ≡ get_or l j 0 → get_or (set m i v) j 0 ≡ get_or (set l i v) j 0
set_both l m i j v long e =
    by (eqb j i)
    (λ q. by (ltb i (length l))
    (λ t. let a : i < length l = ltb-true _ _ t in
    let b : i < length m = omega arith in
    let s : j ≡ i = eqb-true _ _ q in
    rw s (get_or-set_same m i v 0 b ∙ sym (get_or-set_same l i v 0 a)))
    (λ t. let a : length l ≤ i = ltb-false _ _ t in
    let b : length m ≤ i = omega arith in
    rw (set_out l i v a, set_out m i v b) e))
    (λ q. let n : j ≡ i → ⊥ = eqb-false _ _ q in get_or-set_other m i j v 0 n ∙ e ∙ sym (get_or-set_other l i j v 0 n))

-- lists of one length with the same elements are the same
same_list : (xs ys : List ℕ) → length xs ≡ length ys → ((i : ℕ) → i < length xs → get_or xs i 0 ≡ get_or ys i 0) → xs ≡ ys
same_list [] [] long each = refl
same_list [] (y ∷ ys) long each = let z : ⊥ = omega arith in absurd z
same_list (x ∷ xs) [] long each = let z : ⊥ = omega arith in absurd z
same_list (x ∷ xs) (y ∷ ys) long each =
    let first : x ≡ y = each 0 (omega arith) in
    rw (first, same_list xs ys (omega arith) (λ i h. each (suc i) (omega arith)))

-- bank 254 has no leading cells
none_leading : (sizes : List ℕ) (bank : ℕ) → bank ≡ 254 → leading_of sizes bank ≡ 0
unfolding leading_of
none_leading sizes bank e = rw e

-- a part has no more than was taken
length_take_at_most : (n : ℕ) (l : List ℕ) → length (take n l) ≤ n
length_take_at_most n l = simp length-take (min-le_left n (length l))

module _ (store other : List ℕ) (o : OtherBanksSame store other) where
  others_written : (bank offset value : ℕ) → OtherBanksSame (with_cell store bank offset value) (with_cell other bank offset value)
  unfolding with_cell
  others_written bank offset value =
      record {
        same_length = length-set other _ value ∙ o.same_length ∙ sym (length-set store _ value);
        same_cells = λ b p n h. set_both store other (cell_place bank offset) (b * 40 + p) value o.same_length (o.same_cells b p n h);
      }

  others_bank : (sizes fixed : List ℕ) → sheets_hold (sheets_of sizes fixed) ≡ true → (bank : ℕ) → bank_was other sizes bank ≡ bank_was store sizes bank
  unfolding bank_was
  others_bank sizes fixed h bank =
      by (eqb bank 254) (λ e. rw (none_leading sizes bank (eqb-true _ _ e)))
      (λ e. same_list _ _ (simp (length-take, length-drop, o.same_length))
      (λ i l. let a : i < leading_of sizes bank = omega (arith, length_take_at_most (leading_of sizes bank) (drop (bank * 40) other)) in
      part_byte other i a ∙ o.same_cells bank i (eqb-false _ _ e) (omega (arith, leading_at_most (sheets_of sizes fixed) h bank)) ∙ sym (part_byte store i a)))
    where
      part_byte : (l : List ℕ) (i : ℕ) → i < leading_of sizes bank → get_or (take (leading_of sizes bank) (drop (bank * 40) l)) i 0 ≡ get_or l (bank * 40 + i) 0
      part_byte l i a = get_or-take (leading_of sizes bank) (drop (bank * 40) l) i 0 a ∙ get_or-drop (bank * 40) l i 0

pub others_alike : (sizes fixed : List ℕ) → sheets_hold (sheets_of sizes fixed) ≡ true → ReadAlike sizes OtherBanksSame
others_alike sizes fixed h =
    record {
      long = λ store other o. o.same_length;
      held = λ store other o. o.same_cells;
      bank = λ store other o. others_bank store other o sizes fixed h;
      written = λ store other o. others_written store other o;
    }

-- ---- two boards with the same record, the same states and such stores

pub record AlikeBy (Stores : List ℕ → List ℕ → Type 0) (b other : Board) : Type 0 where
  pub same_record : other.kept ≡ b.kept
  pub same_states : other.states ≡ b.states
  pub stores : Stores b.store other.store

pub itself : (b : Board) → AlikeBy Same b b
itself b = record { same_record = refl; same_states = refl; stores = refl }

pub same_board : (b c : Board) → AlikeBy Same b c → c ≡ b
same_board b c a = boards b.kept c.kept b.states c.states b.store c.store a.same_record a.same_states a.stores
  where
    boards : (m k : Module) (s t u v : List ℕ) → k ≡ m → t ≡ s → v ≡ u → board_of k t v ≡ board_of m s u
    boards m k s t u v p q r = rw (p, q, r)

pub from_same : {b c : Board} → SameButOldPlaces b c → AlikeBy OtherBanksSame b c
from_same s = record { same_record = s.same_record; same_states = s.same_states; stores = s.other_banks }

pub to_same : {b c : Board} → AlikeBy OtherBanksSame b c → SameButOldPlaces b c
to_same a = record { same_record = a.same_record; same_states = a.same_states; other_banks = a.stores }
