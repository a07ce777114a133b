use Prim.Native.Nat.{ℕ}
use mathlib.Core.Bool.{Bool}
use mathlib.Core.Path.{◌≡◌}
use lib.ListN.{get_or}
use Rattle.command.specs.declared.Command.{Command}
use Rattle.command.specs.declared.Command.TheVariants.{NoOperation}
use Rattle.scenario.specs.Statements.{rows_say, command_rows}
use Rattle.scenario.proofs.commands.command_at.Goals as goal

said : (f : ℕ → ℕ → ℕ → ℕ → Bool → Command) {v v' a a' b b' c c' : ℕ} {g g' : Bool}
    → v ≡ v' → a ≡ a' → b ≡ b' → c ≡ c' → g ≡ g' → f v a b c g ≡ f v' a' b' c' g'
said f v a b c g = rw (v, a, b, c, g)

pub returns : goal.returns
returns c =
    said (λ v a b k g. get_or (rows_say (command_rows v a b k g)) c.args.row NoOperation)
    c.short-cv.ensures c.byte-a.ensures c.byte-b.ensures c.byte-c.ensures c.flag-on.ensures
