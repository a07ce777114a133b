use Prim.Native.Nat.{ℕ}
use mathlib.Core.Bool.{Bool}
use mathlib.Core.Path.{◌≡◌}
use lib.ListN.{get_or}
use Rattle.scenario.specs.declared.grammar.Statement.{Statement}
use Rattle.scenario.specs.declared.grammar.Statement.TheVariants.{Blank}
use Rattle.scenario.specs.Statements.{rows_say, plain_rows}
use Rattle.scenario.proofs.rows.plain_row.Goals as goal

said : (f : ℕ → Bool → ℕ → ℕ → ℕ → ℕ → ℕ → ℕ → Statement) {t t' : ℕ} {g g' : Bool} {a a' b b' c c' d d' m m' n n' : ℕ}
    → t ≡ t' → g ≡ g' → a ≡ a' → b ≡ b' → c ≡ c' → d ≡ d' → m ≡ m' → n ≡ n' → f t g a b c d m n ≡ f t' g' a' b' c' d' m' n'
said f t g a b c d m n = rw (t, g, a, b, c, d, m, n)

pub returns : goal.returns
returns c =
    said (λ t g a b k d m n. get_or (rows_say (plain_rows t g a b k d m n)) c.args.row Blank) c.value.ensures c.flag.ensures
    c.byte-a.ensures c.byte-b.ensures c.byte-c.ensures c.byte-d.ensures c.short-m.ensures c.short-n.ensures
