-- HOW MANY ARE ON: of `count` numbers from `first` on, those whose bit is 1, where `bit` says what the bit of each number is.
use Rattle.std.specs.Prelude.{ℕ, zero, suc, ◌+◌}

unfoldable pub ones_among : (ℕ → ℕ) → ℕ → ℕ → ℕ
ones_among bit first zero = 0
ones_among bit first (suc count) = ones_among bit first count + bit (first + count)
