-- What the functions ask of a history: the kept changes gone through one by one, a number that is left, a difference that is far.
use Prim.Native.Nat.{ℕ, zero, suc, ◌+◌, ◌-◌, ◌*◌, ◌≤◌, ◌<◌}
use mathlib.Core.Bool.{true, false, ◌&&◌}
use Rattle.std.proofs.Math.Bool.{and-false}
use mathlib.Core.List.{List, ◌++◌}
use mathlib.Core.Path.{◌≡◌, refl, sym, ◌∙◌, ap}
use native.Mathlib.Nat.{add-zero}
use native.Mathlib.Numerals.{add-one}
use native.Mathlib.Omega.{arith}
use lib.Dec.{eqb, leb}
use lib.ListN.{length, get_or, take, drop, length-append, length-drop, get_or-append}
use lib.Seq.{length-take-le, get_or-take, get_or-drop, drop-drop}
use Rattle.std.proofs.lemmas.List.Prefix.{front_rest}
use borrow.Author.Tests.{eqb-true, eqb-false, ltb-true, leb-true, leb-false, le-leb, lt-leb}
use Rattle.bits.proofs.Tests.{by, and_both}
use Rattle.store.specs.Sheet.{writable}
use Rattle.history.specs.declared.History.{History}
use Rattle.history.proofs.Kept.{changes_bytes}
use Rattle.history.specs.History.{changes_long, bank_at, offset_at, version_free, kept_writable}

-- where not all of so many are writable, not all of more are
unwritable_stays : (changes sizes : List ℕ) (n more : ℕ) → n ≤ more → kept_writable n changes sizes ≡ false → kept_writable more changes sizes ≡ false
unfolding kept_writable
unwritable_stays changes sizes n zero h not = let none : n ≡ 0 = omega arith in rw none at not
unwritable_stays changes sizes n (suc more) h not =
    by (eqb n (suc more))
    (λ e. rw (eqb-true n (suc more) e) at not)
    (λ e. let fewer : n ≡ suc more → ⊥ = eqb-false n (suc more) e in rw (unwritable_stays changes sizes n more (omega arith) not) (and-false _))

-- the places gone through, from the oldest on: all are writable, and the bytes left are those of the others
pub record Passed (reach : ℕ) (changes sizes : List ℕ) (passed : ℕ) (left : List ℕ) : Type 0 where
  pub few : passed ≤ reach
  pub others : left ≡ drop (3 * passed) (take (3 * reach) changes)
  pub so_far : kept_writable passed changes sizes ≡ true

module _ (reach : ℕ) (changes sizes : List ℕ) (long : 3 * reach ≤ length changes) where
  left_length : (passed : ℕ) (left : List ℕ) → Passed reach changes sizes passed left → length left ≡ 3 * reach - 3 * passed
  left_length passed left p = rw p.others (length-drop (3 * passed) (take (3 * reach) changes) ∙ ap (λ (n : ℕ). n - 3 * passed) (length-take-le (3 * reach) changes long))

  pub start_passed : Passed reach changes sizes 0 (take (3 * reach) changes)
  unfolding kept_writable
  start_passed = record { few = omega arith; others = refl; so_far = refl }

  -- at the end
  pub all_passed : (passed : ℕ) (left : List ℕ) → Passed reach changes sizes passed left → length left < 3 → kept_writable reach changes sizes ≡ true
  all_passed passed left p h =
      let all : passed ≡ reach = omega (arith, left_length passed left p, p.few) in
      rw (← all) p.so_far

  module _ (passed : ℕ) (left entry left' : List ℕ) (p : Passed reach changes sizes passed left) (parts : left ≡ entry ++ left') (wide : length entry ≡ 3) where
    more : passed < reach
    more =
        let sum : length left ≡ length entry + length left' = ap length parts ∙ length-append entry left' in
        omega (arith, left_length passed left p)

    entry_at : (j : ℕ) → j < 3 → get_or entry j 0 ≡ get_or changes (3 * passed + j) 0
    entry_at j h =
        sym (get_or-append entry left' 0 j (omega arith)) ∙ ap (λ (l : List ℕ). get_or l j 0) (sym parts ∙ p.others)
        ∙ get_or-drop (3 * passed) (take (3 * reach) changes) j 0
        ∙ get_or-take (3 * reach) changes (3 * passed + j) 0 (omega (arith, more))

    opened : kept_writable (passed + 1) changes sizes ≡ (writable sizes (get_or entry 0 0) (get_or entry 1 0) && kept_writable passed changes sizes)
    unfolding kept_writable bank_at offset_at
    opened = rw (add-one passed, entry_at 0 (omega arith), entry_at 1 (omega arith), add-zero)

    three_more : 3 * passed + 3 ≡ 3 * (passed + 1)
    three_more = omega arith

    pub next_passed : writable sizes (get_or entry 0 0) (get_or entry 1 0) ≡ true → Passed reach changes sizes (passed + 1) left'
    next_passed w =
        record { few = omega (arith, more); others = sym (front_rest left entry left' parts) ∙ ap (λ (n : ℕ). drop n left) wide ∙ ap (drop 3) p.others ∙ drop-drop 3 (3 * passed) (take (3 * reach) changes) ∙ ap (λ (n : ℕ). drop n (take (3 * reach) changes)) three_more; so_far = opened ∙ and_both _ _ w p.so_far }

    pub not_passed : writable sizes (get_or entry 0 0) (get_or entry 1 0) ≡ false → kept_writable reach changes sizes ≡ false
    not_passed w =
        unwritable_stays changes sizes (passed + 1) reach (omega (arith, more)) (rw w at opened)

pub version_room : (h : History) → version_free h ≡ true → h.version < 4294967295
unfolding version_free
version_room h p = ltb-true _ _ p

-- a difference that is at most so much
pub far_test : (newer older far : ℕ) → older ≤ newer → leb (newer - older) far ≡ leb newer (older + far)
far_test newer older far h =
    by (leb newer (older + far))
    (λ e. let l : newer ≤ older + far = leb-true newer (older + far) e in rw (e, le-leb (newer - older) far (omega arith)))
    (λ e. let l : older + far < newer = leb-false newer (older + far) e in rw (e, lt-leb (newer - older) far (omega arith)))

-- each of the 64 places has its three bytes
pub place_room : (l : List ℕ) (place : ℕ) → place < 64 → changes_long l ≡ true → 3 * place + 3 ≤ length l
place_room l place h long = omega (arith, changes_bytes l long)

-- whether so many are writable hangs on the newest and on the others
pub kept_next : (n : ℕ) (changes sizes : List ℕ) → 0 < n
    → kept_writable n changes sizes ≡ (writable sizes (bank_at changes (n - 1)) (offset_at changes (n - 1)) && kept_writable (n - 1) changes sizes)
unfolding kept_writable
kept_next zero changes sizes h = let z : ⊥ = omega arith in absurd z
kept_next (suc n) changes sizes h = let e : suc n - 1 ≡ n = omega arith in rw e
