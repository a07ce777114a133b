-- What the lengths and the size sheet's rule give.
use Prim.Native.Nat.{ℕ, zero, suc, ◌+◌, ◌≤◌, ◌<◌}
use mathlib.Core.List.{List, [], ◌∷◌}
use mathlib.Core.Bool.{Bool, true, ◌&&◌}
use mathlib.Core.Path.{◌≡◌, refl, sym, ◌∙◌}
use native.Mathlib.Omega.{arith}
use native.Mathlib.Numerals.{add-one, unary_clauses}
use lib.Dec.{ltb, leb, eqb}
use lib.Seq.{drop-cons, drop-drop}
use lib.ListN.{length, get_or, take, drop, get_or-eq_default}
use borrow.Author.Tests.{ltb-true, ltb-false, eqb-true, leb-true, lt-ltb, le-ltb, le-leb, lt-leb, ne_eqb}
use Rattle.std.specs.List.{list_all}
use Rattle.std.proofs.Math.Bool.{and_assoc, and-true}
use Rattle.std.proofs.lemmas.List.{drop_all}
use Rattle.bits.proofs.Tests.{by, and_left, and_right}
use Rattle.store.specs.Sheet.{Sheets, store_long, sizes_long, fixed_long, lengths_hold, size_holds, sizes_hold, version_holds, sheets_hold, size_of, leading_of}

-- the bytes of store and sheets
pub store_bytes : (store : List ℕ) → store_long store ≡ true → length store ≡ 10240
unfolding store_long
store_bytes store h = eqb-true _ _ h

pub size_count : (sizes : List ℕ) → sizes_long sizes ≡ true → length sizes ≡ 256
unfolding sizes_long
size_count sizes h = eqb-true _ _ h

pub fixed_bytes : (fixed : List ℕ) → fixed_long fixed ≡ true → length fixed ≡ 40
unfolding fixed_long
fixed_bytes fixed h = eqb-true _ _ h

-- store and sheets have their lengths
module _ (store : List ℕ) (sheets : Sheets) (h : lengths_hold store sheets ≡ true) where
  both_long : (store_long store && sizes_long sheets.sizes) ≡ true
  unfolding lengths_hold
  both_long = and_left (store_long store && sizes_long sheets.sizes) (fixed_long sheets.fixed) h

  pub store_long_lem : store_long store ≡ true
  store_long_lem = and_left (store_long store) (sizes_long sheets.sizes) both_long

  pub store_length : length store ≡ 10240
  store_length = store_bytes store store_long_lem

  pub sizes_long_lem : sizes_long sheets.sizes ≡ true
  sizes_long_lem = and_right (store_long store) (sizes_long sheets.sizes) both_long

  pub fixed_long_lem : fixed_long sheets.fixed ≡ true
  unfolding lengths_hold
  fixed_long_lem = and_right (store_long store && sizes_long sheets.sizes) (fixed_long sheets.fixed) h

-- lengths stay while the store's length does; lengths that hold are the same
pub long_stays : (store store' : List ℕ) → length store' ≡ length store → store_long store ≡ true → store_long store' ≡ true
unfolding store_long
long_stays store store' e h = rw e h

pub lengths_stay : (store store' : List ℕ) (sheets : Sheets) → length store' ≡ length store → lengths_hold store sheets ≡ true → lengths_hold store' sheets ≡ true
unfolding lengths_hold store_long
lengths_stay store store' sheets e h = rw e h

pub lengths_same : (store store' : List ℕ) (sheets : Sheets) → lengths_hold store sheets ≡ true → lengths_hold store' sheets ≡ true → length store' ≡ length store
lengths_same store store' sheets h h' = store_length store' sheets h' ∙ sym (store_length store sheets h)

-- both sheets keep their rules
module _ (sheets : Sheets) (h : sheets_hold sheets ≡ true) where
  pub sizes_right : sizes_hold 0 sheets.sizes ≡ true
  unfolding sheets_hold
  sizes_right = and_left (sizes_hold 0 sheets.sizes) (version_holds sheets.fixed) h

  -- byte 1 of the fixed sheet is the version
  pub version_byte : get_or sheets.fixed 1 0 ≡ 11
  unfolding sheets_hold version_holds
  version_byte = eqb-true _ _ (and_right (sizes_hold 0 sheets.sizes) (version_holds sheets.fixed) h)

-- a rule of every bank from one on is a rule of each
each_size : (bank : ℕ) (sizes : List ℕ) → sizes_hold bank sizes ≡ true → (i at : ℕ) → at ≡ bank + i → i < length sizes → size_holds at (get_or sizes i 0) ≡ true
unfolding sizes_hold
each_size bank [] h i at e l = let z : ⊥ = omega arith in absurd z
each_size bank (size ∷ sizes) h zero at e l =
    let f : at ≡ bank = omega arith in rw f (and_left (size_holds bank size) (sizes_hold (suc bank) sizes) h)
each_size bank (size ∷ sizes) h (suc i) at e l =
    each_size (suc bank) sizes (and_right (size_holds bank size) (sizes_hold (suc bank) sizes) h) i at (omega arith) (omega arith)

-- the rule from a bank on is its rule, and that from the next one on
pub next_size : (sizes : List ℕ) (bank : ℕ) → bank < length sizes
    → sizes_hold bank (drop bank sizes) ≡ (size_holds bank (get_or sizes bank 0) && sizes_hold (bank + 1) (drop (bank + 1) sizes))
unfolding sizes_hold
next_size sizes bank l = rw (add-one bank, drop-cons sizes bank 0)

-- a part of so many banks, which all have the rule of its first, holds where each of its sizes does; then the rest is asked
part_then : (first n bank : ℕ) (sizes : List ℕ) → ((at size : ℕ) → bank ≤ at → at < bank + n → size_holds at size ≡ size_holds first size)
    → sizes_hold bank sizes ≡ (list_all (λ size. size_holds first size) (take n sizes) && sizes_hold (bank + n) (drop n sizes))
unfolding sizes_hold
part_then first zero bank sizes same = simp unary_clauses refl
part_then first (suc n) bank [] same = refl
part_then first (suc n) bank (size ∷ sizes) same =
    let here : size_holds bank size ≡ size_holds first size = same bank size (omega arith) (omega arith) in
    let later = part_then first n (suc bank) sizes (λ at other from to. same at other (omega arith) (omega arith)) in
    let next : suc bank + n ≡ bank + suc n = omega arith in
    rw (here, later, next) (sym (and_assoc (size_holds first size) _ _))

-- which banks have one rule
label_rule : (bank size : ℕ) → bank < 2 → size_holds bank size ≡ size_holds 0 size
unfolding size_holds
label_rule bank size h = rw (lt-ltb bank 2 h)

common_rule : (bank size : ℕ) → 2 ≤ bank → bank < 251 → size_holds bank size ≡ size_holds 2 size
unfolding size_holds
common_rule bank size l h = rw (le-ltb bank 2 l, lt-leb 251 bank h, ne_eqb bank 254 (omega arith))

reserved_rule : (bank size : ℕ) → 251 ≤ bank → bank < 254 → size_holds bank size ≡ size_holds 251 size
unfolding size_holds
reserved_rule bank size l h = rw (le-ltb bank 2 (omega arith), le-leb 251 bank l, le-leb bank 253 (omega arith))

-- so many banks from a first one on all keep the first one's rule
abbrev pub part_holds : ℕ → ℕ → List ℕ → Bool
part_holds first n sizes = list_all (λ size. size_holds first size) (take n (drop first sizes))

-- the size sheet's rule part by part: banks 0 and 1, those up to 250, the reserved ones, the fixed one, the last
pub by_parts : (sizes : List ℕ) → length sizes ≡ 256
    → sizes_hold 0 sizes ≡ (part_holds 0 2 sizes && part_holds 2 249 sizes && part_holds 251 3 sizes && size_holds 254 (get_or sizes 254 0) && part_holds 255 1 sizes)
unfolding sizes_hold
by_parts sizes l =
    let labels = part_then 0 2 0 sizes (λ at size from to. label_rule at size to) in
    let common = part_then 2 249 2 (drop 2 sizes) (λ at size from to. common_rule at size from to) in
    let reserved = part_then 251 3 251 (drop 251 sizes) (λ at size from to. reserved_rule at size from to) in
    let fixed = next_size sizes 254 (omega arith) in
    let last = part_then 255 1 255 (drop 255 sizes) (λ at size from to. let e : at ≡ 255 = omega arith in rw e) in
    rw (labels, common, drop-drop 249 2 sizes, reserved, drop-drop 3 251 sizes, fixed, last, drop-drop 1 255 sizes, drop_all 256 sizes (omega arith)) (simp (and_assoc, and-true) refl)

-- a size sheet that keeps its rule keeps it in each bank
pub size_holds_lem : (sizes : List ℕ) → sizes_hold 0 sizes ≡ true → (bank : ℕ) → bank < length sizes → size_holds bank (size_of sizes bank) ≡ true
unfolding size_of
size_holds_lem sizes h bank l = each_size 0 sizes h bank bank (omega arith) l

-- no bank has more than forty cells
at_most : (bank size : ℕ) → size_holds bank size ≡ true → size ≤ 40
unfolding size_holds
at_most bank size h =
    by (ltb bank 2) (λ e. leb-true _ _ (and_right (leb 2 size) (leb size 40) (rw e at h)))
    (λ e. by (leb 251 bank && leb bank 253) (λ f. let z : size ≡ 0 = eqb-true _ _ (simp (e, f) at h) in omega arith)
    (λ f. by (eqb bank 254) (λ g. let z : size ≡ 2 = eqb-true _ _ (simp (e, f, g) at h) in omega arith)
    (λ g. leb-true _ _ (simp (e, f, g) at h))))

-- and one that the size sheet does not speak of has none
pub no_size : (sizes : List ℕ) (bank : ℕ) → length sizes ≤ bank → size_of sizes bank ≡ 0
unfolding size_of
no_size sizes bank h = get_or-eq_default sizes 0 {n = bank} h

sizes_at_most : (sizes : List ℕ) → sizes_hold 0 sizes ≡ true → (bank : ℕ) → size_of sizes bank ≤ 40
sizes_at_most sizes h bank =
    by (ltb bank (length sizes)) (λ e. at_most bank _ (size_holds_lem sizes h bank (ltb-true bank (length sizes) e)))
    (λ e. rw (no_size sizes bank (ltb-false bank (length sizes) e)) (omega arith))

pub size_at_most : (sheets : Sheets) → sheets_hold sheets ≡ true → (bank : ℕ) → size_of sheets.sizes bank ≤ 40
size_at_most sheets h bank = sizes_at_most sheets.sizes (sizes_right sheets h) bank

-- the leading cells of a bank are used cells
pub leading_used : (sizes : List ℕ) (bank : ℕ) → leading_of sizes bank ≤ size_of sizes bank
unfolding leading_of
leading_used sizes bank = by (eqb bank 254) (λ e. rw e (omega arith)) (λ e. rw e (omega arith))

pub leading_at_most : (sheets : Sheets) → sheets_hold sheets ≡ true → (bank : ℕ) → leading_of sheets.sizes bank ≤ 40
leading_at_most sheets h bank = omega (arith, leading_used sheets.sizes bank, size_at_most sheets h bank)
