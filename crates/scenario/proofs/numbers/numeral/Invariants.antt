use Prim.Native.Nat.{◌^◌, ◌≤◌, ◌<◌}
use mathlib.Core.Path.{◌≡◌}
use lib.ListN.{length, drop}
use Rattle.scenario.specs.Numbers.{all_digits, digits_value}
use Rattle.scenario.proofs.numbers.numeral.Given as goal

abbrev pub invariant-loop-byte : goal.invariant-loop-byte
invariant-loop-byte l =
    (1 ≤ length l.digits) × (length l.digits ≤ 20) × (all_digits l.base l.digits ≡ all_digits l.base (drop l.byte-index l.digits)) × (digits_value l.base 0 l.digits ≡ digits_value l.base l.value (drop l.byte-index l.digits)) × (l.value < 2 ^ 64)
