-- What the check says of store and sheets.
use Prim.Native.Nat.{ℕ}
use mathlib.Core.List.{List}
use mathlib.Core.Bool.{true}
use mathlib.Core.Path.{◌≡◌}
use native.Mathlib.Omega.{arith}
use Rattle.bits.proofs.Tests.{by}
use Rattle.store.specs.Sheet.{Sheets, lengths_hold, sheets_hold}
use Rattle.view.specs.View.{view_refusal}

-- with no refusal they are right
pub viewed_right : (store : List ℕ) (sheets : Sheets) → view_refusal store sheets ≡ 0 → (lengths_hold store sheets ≡ true) × (sheets_hold sheets ≡ true)
unfolding view_refusal
viewed_right store sheets h =
    by (lengths_hold store sheets)
    (λ l. by (sheets_hold sheets) (λ s. (l, s)) (λ s. let z : 5 ≡ 0 = simp (l, s) at h in absurd (omega arith)))
    (λ l. let z : 4 ≡ 0 = simp l at h in absurd (omega arith))
