use Prim.Native.Nat.{ℕ, ◌*◌}
use mathlib.Core.Path.{ap}
use native.Mathlib.Omega.{arith}
use borrow.Author.Tests.{eq-eqb, ne_eqb}
use Rattle.line.specs.Line.{bit_of}
use Rattle.line.proofs.Laws.{count_le, more_fits}
use Rattle.line.proofs.receiver.Receiver.with_bit.Goals as goal

pub weight-requires : goal.weight-requires
weight-requires c = omega (arith, count_le c.args.self c.requires.self_value)

pub overflow_add-bits : goal.overflow_add-bits
overflow_add-bits c = record { fits = omega (arith, ap (λ (n : ℕ). c.args.level * n) c.weight.ensures, more_fits c.args.self _ c.requires.self_value c.requires.level_bound) }

pub returns-then-self-eq7-clause-heard : goal.returns-then-self-eq7-clause-heard
unfolding bit_of
returns-then-self-eq7-clause-heard c = simp (eq-eqb _ _ c.if-self-eq7.true) cc

pub overflow_add-self : goal.overflow_add-self
overflow_add-self c = omega (arith, count_le c.args.self c.requires.self_value)

pub returns-clause-heard : goal.returns-clause-heard
unfolding bit_of
returns-clause-heard c = rw (c.nothing_completed.ensures, c.with_bits-2.ensures) (simp (ne_eqb _ _ c.if-self-eq7.false, c.weight.ensures))
