-- Going back, change by change: what holds after each that is undone.
use Prim.Native.Nat.{ℕ, zero, suc, ◌-◌, ◌≤◌, ◌<◌}
use mathlib.Core.Bool.{true}
use mathlib.Core.List.{List}
use mathlib.Core.Path.{◌≡◌, refl, sym, ◌∙◌, ap, subst}
use native.Mathlib.Omega.{arith}
use lib.ListN.{length}
use Rattle.history.specs.History.{changes_long, Past, past, newest_undone, undone_by, KeptWithin}
use Rattle.history.proofs.Kept.{changes_bytes, newest_long, newest_store_length, newest_kept}

-- so many undone: the newest, and then the others
undone_next : (n : ℕ) (p : Past) → 0 < n → undone_by n p ≡ undone_by (n - 1) (newest_undone p)
unfolding undone_by
undone_next zero p h = let z : ⊥ = omega arith in absurd z
undone_next (suc n) p h = let e : suc n - 1 ≡ n = omega arith in rw e

newest_reach : (p : Past) → (newest_undone p).reach ≡ p.reach - 1
unfolding newest_undone
newest_reach p = refl

-- the cells of the others keep their places in the store
newest_within : (p : Past) → KeptWithin p.reach p.changes p.store → KeptWithin (newest_undone p).reach (newest_undone p).changes (newest_undone p).store
newest_within p within place h =
    let less : place < p.reach - 1 = omega (arith, newest_reach p) in
    let same = newest_kept p place less in
    rw (same.bank, same.offset, newest_store_length (length p.store) p refl) (within place (omega arith))

-- ---- So many are left to undo, and to undo them gives what all give.

pub record Going (changes₀ store₀ : List ℕ) (left₀ reach₀ : ℕ) (changes store : List ℕ) (left reach : ℕ) : Type 0 where
  pub enough : left ≤ reach
  pub few : reach ≤ 64
  pub long : changes_long changes ≡ true
  pub within : KeptWithin reach changes store
  pub changes_same : length changes ≡ length changes₀
  pub store_same : length store ≡ length store₀
  pub gives : undone_by left (past reach changes store) ≡ undone_by left₀ (past reach₀ changes₀ store₀)

-- one more is undone
pub going_turn : (changes₀ store₀ : List ℕ) (left₀ reach₀ : ℕ) (changes store : List ℕ) (left reach : ℕ)
    → Going changes₀ store₀ left₀ reach₀ changes store left reach → 0 < left
    → (r : ℕ) (c s : List ℕ) → past r c s ≡ newest_undone (past reach changes store) → Going changes₀ store₀ left₀ reach₀ c s (left - 1) r
going_turn changes₀ store₀ left₀ reach₀ changes store left reach g some r c s e =
    let p = past reach changes store in
    let enough = g.enough in
    let few = g.few in
    let near : r ≡ reach - 1 = ap (λ (q : Past). q.reach) e ∙ newest_reach p in
    let long : changes_long c ≡ true = ap (λ (q : Past). changes_long q.changes) e ∙ (newest_long p (g.few, g.long)).1 in
    let kept : length s ≡ length store = ap (λ (q : Past). length q.store) e ∙ newest_store_length (length store) p refl in
    record {
      enough = omega arith;
      few = omega arith;
      long = long;
      within = subst (λ (q : Past). KeptWithin q.reach q.changes q.store) (sym e) (newest_within p g.within);
      changes_same = changes_bytes c long ∙ sym (changes_bytes changes g.long) ∙ g.changes_same;
      store_same = kept ∙ g.store_same;
      gives = ap (undone_by (left - 1)) e ∙ sym (undone_next left p some) ∙ g.gives;
    }
